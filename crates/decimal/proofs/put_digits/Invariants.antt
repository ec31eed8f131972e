-- What the loop of `put_digits` keeps.
use Rattle.decimal.proofs.LastPut.{LastPut}
use Rattle.decimal.proofs.put_digits.Given as goal

abbrev pub invariant-loop-left : goal.invariant-loop-left
invariant-loop-left l = LastPut l.number l.text l.end l.left

abbrev pub decreases-loop-left : goal.decreases-loop-left
decreases-loop-left l = l.left
