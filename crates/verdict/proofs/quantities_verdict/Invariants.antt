-- What the loop of `quantities_verdict` keeps: the quantities passed pass.
use mathlib.Core.Path.{◌≡◌}
use lib.ListN.{get_or}
use Rattle.model.specs.Sheet.{passes, in_order, quantity_verdict, no_quantity}
use Rattle.verdict.proofs.quantities_verdict.Given as goal

abbrev pub invariant-loop-quantity : goal.invariant-loop-quantity
invariant-loop-quantity l = in_order l.quantity-index (λ i. quantity_verdict (get_or l.quantities i no_quantity)) ≡ passes
