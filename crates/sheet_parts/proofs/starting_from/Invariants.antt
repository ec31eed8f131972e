-- What the loop of `starting_from` keeps: the quantities of the balls passed stand in the array.
use Prim.Native.Nat.{ℕ}
use mathlib.Core.List.{List}
use mathlib.Core.Path.{◌≡◌}
use lib.ListN.{get_or, replicate}
use lib.Seq.{sets}
use Rattle.ranges.specs.Range.{tabulate}
use Rattle.model.specs.Sheet.{most_quantities, no_quantity}
use Rattle.model.specs.Step.{no_ball}
use Rattle.model.specs.declared.Ball.{Ball}
use Rattle.model.specs.declared.Quantity.{Quantity}
use Rattle.stored.specs.Conversion.{starting_from}
use Rattle.sheet_parts.proofs.starting_from.Given as goal

-- the quantity that starts from ball i
abbrev pub starting : List Ball → ℕ → Quantity
starting balls i = starting_from (get_or balls i no_ball)

abbrev pub invariant-loop-i : goal.invariant-loop-i
invariant-loop-i l =
    l.quantities ≡ sets (replicate most_quantities no_quantity) 0 (tabulate l.i (starting l.balls))
