-- `answer::planner_answer` meets its contract.
use mathlib.Core.List.{List}
use mathlib.Core.Path.{subst}
use Prim.Native.Nat.{ℕ}
use Rattle.printing.specs.Pieces.{Printed}
use Rattle.answer.proofs.Answered.{ran_text, ran_bounds, ran_in_range, ran_step, ran_short, ran_leaves}
use Rattle.answer.proofs.planner_answer.Goals as goal

pub of-requires : goal.of-requires
of-requires c = (ran_bounds c.args.sheet.now c.run_sheet-ended.ensures).0

pub put_run-requires : goal.put_run-requires
put_run-requires c =
    let sheet = c.args.sheet.now in
    let ran = c.run_sheet-ended.ensures in
    let bounds = ran_bounds sheet ran in
    let shown = c.of.ensures in
    rw (shown.quantities, shown.counted, shown.buffer_is) (record { rows_printable = ran_in_range sheet ran; count_le_most_steps = bounds.1; outcome_bound = ran_step sheet ran })

pub returns : goal.returns
returns c =
    let sheet = c.args.sheet.now in
    let ran = c.run_sheet-ended.ensures in
    let shown = c.of.ensures in
    let printed = subst (λ (text : List ℕ). Printed c.args.text.now text c.put_run.result c.put_run.new.text) (ran_text sheet ran) (rw (shown.quantities, shown.counted, shown.buffer_is) at c.put_run.ensures) in
    record { printed = printed; bounded = ran_short sheet ran printed; leaves = ran_leaves sheet ran }
