-- A test of every ball of a slice, as `all` makes it.
use Prim.Native.Nat.{ℕ, ◌<◌}
use mathlib.Core.Bool.{Bool, true, false}
use mathlib.Core.List.{List}
use mathlib.Core.Path.{◌≡◌, sym}
use native.Mathlib.Omega.{arith}
use lib.ListN.{length, get_or}
use Rattle.std.specs.Bool.{MatchBool}
use Rattle.std.specs.List.{AllWithin, HoldsAt}
use Rattle.ranges.specs.Range.{every}
use Rattle.ranges.proofs.EveryLaws.{every_all, every_fails}
use Rattle.model.specs.Step.{no_ball}
use Rattle.model.specs.declared.Ball.{Ball}

-- the answer to it, where the test says yes to each ball, or no to one
pub every_ball : (test : Ball → Bool) (balls : List Ball) (r : Bool) → MatchBool r (AllWithin (λ ball. test ball ≡ true) balls 0 (length balls)) ((k : ℕ) × (k < length balls) × HoldsAt (λ ball. test ball ≡ false) balls k) →
    r ≡ every (length balls) (λ i. test (get_or balls i no_ball))
every_ball test balls true h = sym (every_all (λ i. test (get_or balls i no_ball)) (length balls) (λ i l. h i no_ball (omega arith) l))
every_ball test balls false h = sym (every_fails (λ i. test (get_or balls i no_ball)) h.0 (length balls) h.1 (h.2 no_ball))
