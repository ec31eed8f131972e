-- `verdict::step_verdict` meets its contract.
use mathlib.Core.Path.{ap, ◌∙◌}
use mathlib.Core.Bool.{Bool}
use mir.Syntax.{w64}
use Rattle.rounding.proofs.Machine.{of_number}
use Rattle.model.specs.Sheet.{verdict_outcome, ask, step_verdict, step_within}
use Rattle.model.specs.declared.Refusal.TheVariants.{OutOfRange}
use Rattle.verdict.proofs.step_verdict.Goals as goal

pub returns : goal.returns
unfolding step_verdict
returns c = c.asked.ensures ∙ ap (λ (b : Bool). verdict_outcome (ask b OutOfRange)) (of_number {w = w64} step_within {n = c.args.step} c.ranges.step c.step_within.ensures)
