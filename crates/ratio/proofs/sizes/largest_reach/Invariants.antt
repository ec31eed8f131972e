-- What the loop of `largest_reach` keeps: the largest reach of the balls passed.
use Prim.Native.Nat.{max}
use mathlib.Core.Path.{◌≡◌}
use lib.ListN.{get_or}
use Rattle.ranges.specs.Range as range
use Rattle.model.specs.Sheet.{scale}
use Rattle.model.specs.Step.{reach, no_ball}
use Rattle.ratio.proofs.sizes.largest_reach.Given as goal

abbrev pub invariant-loop-ball : goal.invariant-loop-ball
invariant-loop-ball l = l.largest ≡ max scale (range.largest l.ball-index (λ i. reach (get_or l.balls i no_ball)))
