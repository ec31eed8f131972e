-- `verdict::in_range` meets its contract.
use mathlib.Core.Path.{ap, ◌∙◌}
use mathlib.Core.Bool.{Bool}
use mir.Syntax.{w64}
use Rattle.rounding.proofs.Machine.{of_number}
use Rattle.model.specs.Sheet.{verdict_outcome, ask, in_range, within}
use Rattle.model.specs.declared.Refusal.TheVariants.{OutOfRange}
use Rattle.verdict.proofs.in_range.Goals as goal

pub returns : goal.returns
unfolding in_range
returns c = c.asked.ensures ∙ ap (λ (b : Bool). verdict_outcome (ask b OutOfRange)) (of_number {w = w64} (within c.args.limits) {n = c.args.z} c.ranges.z c.within.ensures)
