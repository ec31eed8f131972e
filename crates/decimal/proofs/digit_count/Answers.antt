-- `decimal::digit_count` meets its contract.
use Rattle.std.proofs.Common.{arith}
use Rattle.tens.specs.Tens.{entries}
use Rattle.laws.proofs.Text.DecimalText.{length_below}
use Rattle.printing.proofs.Decimal.{length_some, length_from}
use Rattle.decimal.proofs.digit_count.Goals as goal

pub loop-count-init : goal.loop-count-init
loop-count-init c = length_some c.args.number

pub loop-count-preserved : goal.loop-count-preserved
loop-count-preserved c = omega (arith, length_from c.loop-count.count c.args.number (omega (arith, c.power_of_ten-power.ensures)))

-- the next power is not reached
pub returns-then-number-power-clause-counted : goal.returns-then-number-power-clause-counted
returns-then-number-power-clause-counted c =
    omega (arith, c.loop-count.invariant, length_below c.loop-count.count c.args.number (omega arith) (omega (arith, c.power_of_ten-power.ensures)))

-- the table has no entry more, and a number of 32 bits no digit more
pub returns-clause-counted : goal.returns-clause-counted
returns-clause-counted c =
    omega (arith, c.loop-count.invariant, length_below entries c.args.number (omega arith) (omega (arith, c.ranges.number)))
