-- What the loop of `digit_count` keeps: at each turn the number is known to have so many digits.
use Rattle.std.proofs.Common.{◌≤◌, length, pos}
use Rattle.model.specs.Answer.{decimal}
use Rattle.decimal.proofs.digit_count.Given as goal

abbrev pub invariant-loop-count : goal.invariant-loop-count
invariant-loop-count l = l.count ≤ length (decimal (pos l.number))
