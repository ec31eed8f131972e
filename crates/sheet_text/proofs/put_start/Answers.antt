-- `sheet_text::put_start` meets its contract: the line of a number, or that of no reading.
use mathlib.Core.Path.{◌≡◌}
use native.Mathlib.Omega.{arith}
use lib.IntN.{ℤ}
use Rattle.std.proofs.Common.{Option, Some, None}
use Rattle.ranges.specs.Range.{bytes}
use Rattle.model.specs.Sheet.{passes, start_verdict}
use Rattle.model.specs.Answer.{printed}
use Rattle.stored.specs.Conversion.{start_text}
use Rattle.printing.proofs.LineLength.{Short, short_whole, none_added, line_asked, line_added, length_added}
use Rattle.printing.proofs.SheetLength.{start_short}
use Rattle.sheet_text.proofs.put_start.Goals as goal

read : {start : Option ℤ} {z : ℤ} → start ≡ Some z → start_text start ≡ printed "start" z
unfolding start_text
read e = rw e

not_read : {start : Option ℤ} → start ≡ None → start_text start ≡ bytes "start=none\n"
unfolding start_text
not_read e = rw e

-- of nine digits and a sign
value_short : {start : Option ℤ} {z : ℤ} → start ≡ Some z → start_verdict start ≡ passes → Short "start" 10 z
value_short {z = z} e passed =
    let short = start_short z (rw e at passed) in
    short_whole "start" 9 (omega arith) short (omega (arith, short))

pub line-requires : goal.line-requires
unfolding bytes printed
line-requires c =
    (omega arith, line_asked "start" (none_added _) (value_short c.in-Some.is c.requires.start_value) (omega (arith, c.requires.most_start_in_bounds)))

pub returns-in-Some : goal.returns-in-Some
unfolding bytes printed
returns-in-Some c =
    let line = line_added "start" (none_added _) (value_short c.in-Some.is c.requires.start_value) c.line.ensures in
    record { put = rw (read c.in-Some.is) line.added; bounded = length_added line }

pub returns-in-None-clause-put : goal.returns-in-None-clause-put
unfolding bytes
returns-in-None-clause-put c = rw (not_read c.in-None.is) c.bytes.ensures
