-- What the loop of `put_quantities` keeps: after i turns the first i quantities are put.
use Prim.Native.Nat.{ℕ, ◌+◌, ◌*◌, ◌≤◌}
use mathlib.Core.Path.{◌≡◌}
use mathlib.Core.List.{List, ◌++◌, flatten}
use lib.ListN.{length, get_or}
use Rattle.ranges.specs.Range.{tabulate}
use Rattle.model.specs.Sheet.{no_quantity}
use Rattle.stored.specs.Conversion.{quantity_text}
use Rattle.model.specs.declared.Quantity.{Quantity}
use Rattle.printing.specs.SheetLength.{most_quantity}
use Rattle.sheet_text.proofs.put_quantities.Given as goal

-- the lines of a quantity, and those of the first i
abbrev pub lines_of : List Quantity → ℕ → List ℕ
lines_of quantities i = quantity_text (get_or quantities i no_quantity)

abbrev pub first : List Quantity → ℕ → List ℕ
first quantities i = flatten (tabulate i (lines_of quantities))

abbrev pub invariant-loop-quantity : goal.invariant-loop-quantity
invariant-loop-quantity l =
    record {
      put : l.lines ≡ l.initial.lines ++ first l.quantities l.quantity-index;
      bounded : length l.lines ≤ length l.initial.lines + l.quantity-index * most_quantity;
    }
