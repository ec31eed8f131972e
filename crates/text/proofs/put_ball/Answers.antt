-- `text::put_ball` meets its contract: the value's line and the radius's.
use Prim.Native.Nat.{◌≤◌}
use native.Mathlib.Omega.{arith}
use lib.IntN.{pos, nat_abs}
use Rattle.ranges.specs.Range.{bytes}
use Rattle.model.specs.Sheet.{most}
use Rattle.model.specs.Answer.{printed}
use Rattle.model.specs.declared.Ball.{Ball}
use Rattle.enclosure.specs.RowRange.{most_value}
use Rattle.printing.proofs.LineLength.{Short, short_natural, short_whole, none_added, line_asked, line_added, length_added}
use Rattle.text.proofs.put_ball.Goals as goal

-- of ten digits and a sign, and of nine digits
value_short : (ball : Ball) → nat_abs ball.value ≤ most_value → Short "value" 11 ball.value
unfolding most
value_short ball h = short_whole "value" 10 (omega arith) (omega (arith, h)) (omega (arith, h))

radius_short : (ball : Ball) → ball.radius ≤ most → Short "radius" 9 (pos ball.radius)
unfolding most
radius_short ball h = short_natural "radius" 9 (omega arith) (omega (arith, h)) (omega (arith, h))

pub line-requires : goal.line-requires
unfolding bytes printed
line-requires c =
    (omega arith, line_asked "value" (none_added _) (value_short c.args.ball c.requires.value_bound) (omega (arith, c.requires.value_digits_in_bounds)))

pub overflow_cast-ball : goal.overflow_cast-ball
overflow_cast-ball c = (radius_short c.args.ball c.requires.radius_le_most).fits

pub line-requires-2 : goal.line-requires-2
unfolding bytes printed
line-requires-2 c =
    let value = line_added "value" (none_added _) (value_short c.args.ball c.requires.value_bound) c.line.ensures in
    (omega arith, line_asked "radius" value (radius_short c.args.ball c.requires.radius_le_most) (omega (arith, c.requires.value_digits_in_bounds)))

pub returns : goal.returns
unfolding bytes printed
returns c =
    let value = line_added "value" (none_added _) (value_short c.args.ball c.requires.value_bound) c.line.ensures in
    let lines = line_added "radius" value (radius_short c.args.ball c.requires.radius_le_most) c.line-2.ensures in
    record { put = lines.added; bounded = length_added lines }
