-- `lines::spellings::digits` meets its contract: a digit more is ten times the number and the digit.
use Rattle.std.proofs.Common.{◌∙◌, arith}
use Rattle.lines.proofs.Digits.{stopped, none_left, tenfold, tenfold_few, one_more}
use Rattle.lines.proofs.spellings.digits.Goals as goal

pub returns-in_default : goal.returns-in_default
returns-in_default c = stopped c.loop.counter c.loop.value c.loop.rest.now (omega arith) c.loop.invariant.short c.in_default.ensures ∙ c.loop.invariant.so_far

pub overflow_add-value : goal.overflow_add-value
overflow_add-value c =
    omega (arith, tenfold_few c.loop.counter c.loop.value c.loop.rest.now c.power_of_ten.ensures (omega arith) c.in-Some.ensures c.loop.invariant.short)

pub loop-preserved : goal.loop-preserved
loop-preserved c = record {
  short = tenfold c.loop.counter c.loop.value c.loop.rest.now c.power_of_ten.ensures (omega arith) c.in-Some.ensures c.loop.invariant.short;
  so_far = one_more c.loop.counter c.loop.value c.loop.rest.now c.power_of_ten.ensures (omega arith) c.in-Some.ensures ∙ c.loop.invariant.so_far;
}

pub returns : goal.returns
returns c = none_left c.loop.counter c.loop.value c.loop.rest.now (omega arith) c.loop.invariant.short ∙ c.loop.invariant.so_far
