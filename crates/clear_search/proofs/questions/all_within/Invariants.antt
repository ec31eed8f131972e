-- What the loop of `all_within` keeps: the numbers passed lie in the limits.
use Rattle.std.proofs.Common.{◌≡◌, true, take}
use Rattle.std.specs.List.{list_all}
use Rattle.model.specs.Sheet.{within}
use Rattle.clear_search.proofs.questions.all_within.Given as goal

abbrev pub invariant-loop-i : goal.invariant-loop-i
invariant-loop-i l = list_all (within l.limits) (take l.i l.numbers) ≡ true
