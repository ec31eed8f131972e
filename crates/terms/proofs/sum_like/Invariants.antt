-- What the loop of `sum_like` keeps: the sums of the terms passed.
use Prim.Native.Nat.{◌≤◌}
use lib.ListN.{take}
use Rattle.model.specs.LikeTerms.{summed}
use Rattle.terms.proofs.Built.{Built}
use Rattle.terms.proofs.sum_like.Given as goal

abbrev pub invariant-loop-term : goal.invariant-loop-term
invariant-loop-term l = Built (summed (take l.term-index l.terms)) l.count l.sums × (l.count ≤ l.term-index)
