-- What the loop of `drop_zeros` keeps: those of the sums passed that are not 0.
use Prim.Native.Nat.{◌≤◌}
use lib.ListN.{take}
use Rattle.model.specs.LikeTerms.{nonzero, filter}
use Rattle.terms.proofs.Built.{Built}
use Rattle.terms.proofs.drop_zeros.Given as goal

abbrev pub invariant-loop-sum : goal.invariant-loop-sum
invariant-loop-sum l = Built (filter nonzero (take l.sum-index l.sums)) l.kept l.left × (l.kept ≤ l.sum-index)
