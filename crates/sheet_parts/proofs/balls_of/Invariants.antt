-- What the loop of `balls_of` keeps: the balls passed stand in an array of zeros.
use mathlib.Core.Path.{◌≡◌}
use lib.ListN.{get_or, replicate}
use lib.Seq.{sets}
use Rattle.ranges.specs.Range.{tabulate}
use Rattle.model.specs.Sheet.{most_quantities}
use Rattle.model.specs.Step.{no_ball}
use Rattle.rows.specs.View.{row_of}
use Rattle.sheet_parts.proofs.balls_of.Given as goal

abbrev pub invariant-loop-i : goal.invariant-loop-i
invariant-loop-i l =
    l.balls ≡ sets (replicate most_quantities no_ball) 0 (tabulate l.i (λ k. get_or (row_of l.row).balls k no_ball))
