-- `sheet_text::put_quantity` meets its contract: the line of the start, and then its radius.
use Prim.Native.Nat.{ℕ}
use mathlib.Core.Path.{◌≡◌}
use mathlib.Core.List.{List, ◌++◌}
use native.Mathlib.Omega.{arith}
use lib.IntN.{pos}
use Rattle.ranges.specs.Range.{bytes}
use Rattle.model.specs.Answer.{printed}
use Rattle.model.specs.declared.Quantity.{Quantity}
use Rattle.stored.specs.Conversion.{start_text, quantity_text}
use Rattle.printing.specs.SheetLength.{most_start}
use Rattle.printing.proofs.LineLength.{Short, short_natural, Added, line_asked, line_added, length_added}
use Rattle.printing.proofs.SheetLength.{QuantityShort, quantity_short, length_start}
use Rattle.sheet_text.proofs.put_quantity.Goals as goal

radius_short : {quantity : Quantity} → QuantityShort quantity → Short "radius" 9 (pos quantity.radius)
radius_short short = short_natural "radius" 9 (omega arith) short.radius (omega (arith, short.radius))

pub put_start-requires-clause-start_value : goal.put_start-requires-clause-start_value
put_start-requires-clause-start_value c = (quantity_short c.args.quantity c.requires.quantity_value).start

pub overflow_cast-quantity : goal.overflow_cast-quantity
overflow_cast-quantity c = (radius_short (quantity_short c.args.quantity c.requires.quantity_value)).fits

-- the start's line
start_added : {quantity : Quantity} → QuantityShort quantity → (before : List ℕ) {after : List ℕ} → after ≡ before ++ start_text quantity.start → Added before (start_text quantity.start) most_start after
start_added {quantity} short before e = record { added = e; short = length_start quantity.start short.start }

pub line-requires : goal.line-requires
unfolding bytes printed
line-requires c =
    let short = quantity_short c.args.quantity c.requires.quantity_value in
    (omega arith, line_asked "radius" (start_added short _ c.put_start.ensures.put) (radius_short short) (omega (arith, c.requires.most_quantity_in_bounds)))

pub returns : goal.returns
unfolding bytes printed quantity_text
returns c =
    let short = quantity_short c.args.quantity c.requires.quantity_value in
    let lines = line_added "radius" (start_added short _ c.put_start.ensures.put) (radius_short short) c.line.ensures in
    record { put = lines.added; bounded = length_added lines }
