-- `sheet_text::put_quantities` meets its contract.
use Prim.Native.Nat.{ℕ, ◌<◌}
use mathlib.Core.Path.{◌≡◌, sym}
use mathlib.Core.List.{List, flatten, append-nil}
use native.Mathlib.Omega.{arith}
use lib.ListN.{length, get_or}
use Rattle.std.proofs.lemmas.List.{get_or_default}
use Rattle.ranges.specs.Range.{tabulate}
use Rattle.model.specs.Sheet.{quantity_verdict, quantities_verdict, no_quantity}
use Rattle.model.specs.declared.Quantity.{Quantity}
use Rattle.laws.proofs.Text.Verdicts.{each_passes}
use Rattle.printing.proofs.Pieces.{added_turn}
use Rattle.printing.proofs.TextsInOrder.{pieces_grow}
use Rattle.sheet_text.proofs.put_quantities.Invariants.{first, lines_of}
use Rattle.sheet_text.proofs.put_quantities.Goals as goal

pub loop-quantity-init : goal.loop-quantity-init
unfolding tabulate flatten
loop-quantity-init c = record { put = sym (append-nil _); bounded = omega arith }

-- a quantity that is there, whatever would stand past the last
quantity_at : (quantities : List Quantity) (i : ℕ) (past : Quantity) → i < length quantities → get_or quantities i past ≡ get_or quantities i no_quantity
quantity_at quantities i past h = get_or_default quantities i past no_quantity h

pub put_quantity-requires-clause-quantity_value : goal.put_quantity-requires-clause-quantity_value
unfolding quantities_verdict
put_quantity-requires-clause-quantity_value c =
    rw
    (quantity_at c.args.quantities.now c.loop-quantity.quantity-index _ c.loop-quantity-test.true)
    (each_passes _ (λ i. quantity_verdict (get_or c.args.quantities.now i no_quantity)) c.requires.quantities_value c.loop-quantity.quantity-index c.loop-quantity-test.true)

-- the lines of the next one
pub loop-quantity-preserved : goal.loop-quantity-preserved
loop-quantity-preserved c =
    record {
      put = added_turn (first c.args.quantities.now) (lines_of c.args.quantities.now) (pieces_grow (lines_of c.args.quantities.now)) _ c.loop-quantity.quantity-index c.loop-quantity.invariant.put (rw (quantity_at c.args.quantities.now c.loop-quantity.quantity-index _ c.loop-quantity-test.true) at c.put_quantity.ensures.put);
      bounded = omega (arith, c.loop-quantity.invariant.bounded, c.put_quantity.ensures.bounded);
    }
