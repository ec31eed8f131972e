-- `text::put_span` meets its contract: the low's line and the high's.
use Prim.Native.Nat.{◌≤◌}
use Prim.Native.String.{String}
use native.Mathlib.Omega.{arith}
use lib.IntN.{ℤ, nat_abs}
use Rattle.ranges.specs.Range.{bytes}
use Rattle.model.specs.Sheet.{most}
use Rattle.model.specs.Answer.{printed}
use Rattle.enclosure.specs.RowRange.{most_span}
use Rattle.printing.proofs.LineLength.{Short, short_whole, none_added, line_asked, line_added, length_added}
use Rattle.text.proofs.put_span.Goals as goal

-- of ten digits and a sign
number_short : (key : String) (z : ℤ) → nat_abs z ≤ most_span → Short key 11 z
unfolding most
number_short key z h = short_whole key 10 (omega arith) (omega (arith, h)) (omega (arith, h))

pub line-requires : goal.line-requires
unfolding bytes printed
line-requires c =
    (omega arith, line_asked "low" (none_added _) (number_short "low" c.args.span.low c.requires.low_bound) (omega (arith, c.requires.most_span_lines_in_bounds)))

pub line-requires-2 : goal.line-requires-2
unfolding bytes printed
line-requires-2 c =
    let low = line_added "low" (none_added _) (number_short "low" c.args.span.low c.requires.low_bound) c.line.ensures in
    (omega arith, line_asked "high" low (number_short "high" c.args.span.high c.requires.high_bound) (omega (arith, c.requires.most_span_lines_in_bounds)))

pub returns : goal.returns
unfolding bytes printed
returns c =
    let low = line_added "low" (none_added _) (number_short "low" c.args.span.low c.requires.low_bound) c.line.ensures in
    let lines = line_added "high" low (number_short "high" c.args.span.high c.requires.high_bound) c.line-2.ensures in
    record { put = lines.added; bounded = length_added lines }
