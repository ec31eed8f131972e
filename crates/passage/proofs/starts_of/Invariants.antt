-- What the loop of `starts_of` keeps: the balls passed stand in an array of zeros.
use mathlib.Core.Path.{◌≡◌}
use lib.ListN.{get_or, replicate}
use lib.Seq.{sets}
use Rattle.model.specs.Sheet.{most_quantities, no_quantity, start_ball}
use Rattle.model.specs.Step.{no_ball}
use Rattle.ranges.specs.Range.{tabulate}
use Rattle.passage.proofs.starts_of.Given as goal

abbrev pub invariant-loop-i : goal.invariant-loop-i
invariant-loop-i l = l.balls ≡ sets (replicate most_quantities no_ball) 0 (tabulate l.i (λ k. start_ball (get_or l.sheet.quantities k no_quantity)))
