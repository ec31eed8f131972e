-- `answer::planner_run` meets its contract.
use mathlib.Core.Path.{ap, ◌∙◌}
use Rattle.answer.specs.Answered.{summary_of}
use Rattle.answer.proofs.Answered.{ran_leaves}
use Rattle.answer.proofs.planner_run.Goals as goal

pub returns : goal.returns
returns c =
    let ran = c.run_sheet-ended.ensures in
    record { summarised = c.put_summary.ensures ∙ ap summary_of ran.answer; leaves = ran_leaves c.args.sheet.now ran }
