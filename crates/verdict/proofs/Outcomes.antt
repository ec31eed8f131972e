-- Questions one after the other, as outcomes: what the outcome of a verdict says of the verdict.
use Prim.Native.Nat.{ℕ, zero, suc, ◌+◌, ◌<◌}
use mathlib.Core.Path.{◌≡◌, refl, sym, ap, ◌∙◌}
use mathlib.Core.Bool.{Bool, true, false}
use native.Mathlib.Omega.{arith}
use native.Mathlib.Numerals.{add-one}
use borrow.Author.Tests.{ltb-true, ltb-false}
use lib.Dec.{ltb}
use Rattle.std.proofs.Common.{Ok, Err}
use Rattle.std.specs.Result.{IsErrAnd}
use Rattle.std.proofs.lemmas.Result.{err_from_is_err_and}
use Rattle.model.specs.Sheet.{Outcome, result, refused_step, Gives, Verdict, passes, refuses, verdict_number, verdict_outcome, ◌then◌, in_order}
use Rattle.model.specs.declared.Refusal.{Refusal}
use Rattle.model.specs.declared.Refused.{Refused}

pub passes_as : (v : Verdict) {u : Unit {0}} → Ok u ≡ verdict_outcome v → v ≡ passes
unfolding verdict_outcome
passes_as passes e = refl
passes_as (refuses r) e = absurd (let z : ◌≡◌ {A = ℕ} 0 1 = cc in omega arith)

-- what a `?` gives back is the refusal
pub given_back : (v : Verdict) {o : Outcome} {refused : Refused} → Err refused ≡ verdict_outcome v → IsErrAnd o (λ given. given ≡ refused) → o ≡ verdict_outcome v
given_back v {o} stands given = let back = err_from_is_err_and o given in back.1 ∙ ap Err back.2 ∙ stands

refuses_first : (v later : Verdict) {refused : Refused} → Err refused ≡ verdict_outcome v → verdict_outcome v ≡ verdict_outcome (v then later)
unfolding verdict_outcome ◌then◌
refuses_first passes later e = absurd (let z : ◌≡◌ {A = ℕ} 0 1 = cc in omega arith)
refuses_first (refuses r) later e = refl

-- the later question is not asked where the earlier refuses
module _ (earlier later : Verdict) {o : Outcome} where
  pub refused_first : {refused : Refused} → Err refused ≡ verdict_outcome earlier → IsErrAnd o (λ given. given ≡ refused) → o ≡ verdict_outcome (earlier then later)
  refused_first stands given = given_back earlier stands given ∙ refuses_first earlier later stands

  pub passed_first : {u : Unit {0}} → Ok u ≡ verdict_outcome earlier → o ≡ verdict_outcome later → o ≡ verdict_outcome (earlier then later)
  unfolding ◌then◌
  passed_first passed e = rw (passes_as earlier passed) e

-- ---- f 0, .., f (n - 1), one after the other

module _ (f : ℕ → Verdict) where
  pub one_more : (i : ℕ) {u : Unit {0}} → in_order i f ≡ passes → Ok u ≡ verdict_outcome (f i) → in_order (i + 1) f ≡ passes
  unfolding in_order ◌then◌
  one_more i h passed = rw (add-one i, h) (passes_as (f i) passed)

  pub first_refusal : (n : ℕ) {i : ℕ} {r : Refusal} → i < n → in_order i f ≡ passes → f i ≡ refuses r → in_order n f ≡ refuses r
  unfolding in_order ◌then◌
  first_refusal zero h passed e = absurd (omega arith)
  first_refusal (suc n) {i} {r} h passed e = go (ltb i n) refl (λ below. first_refusal n below passed e)
    where
      go : (b : Bool) → ltb i n ≡ b → (i < n → in_order n f ≡ refuses r) → in_order (suc n) f ≡ refuses r
      go true below earlier = rw (earlier (ltb-true i n below))
      go false last earlier = rw (at_last, passed) e
        where
          at_last : n ≡ i
          at_last = omega (arith, ltb-false i n last)

  refused_in : (n : ℕ) {i : ℕ} (v : Verdict) {refused : Refused} → i < n → in_order i f ≡ passes → f i ≡ v → Err refused ≡ verdict_outcome v → v ≡ in_order n f
  unfolding verdict_outcome
  refused_in n passes h passed is e = absurd (let z : ◌≡◌ {A = ℕ} 0 1 = cc in omega arith)
  refused_in n (refuses r) h passed is e = sym (first_refusal n h passed is)

  pub refused_at : (n : ℕ) {i : ℕ} {o : Outcome} {refused : Refused} → i < n → in_order i f ≡ passes → Err refused ≡ verdict_outcome (f i) → IsErrAnd o (λ given. given ≡ refused) → o ≡ verdict_outcome (in_order n f)
  refused_at n {i} h passed stands given = given_back (f i) stands given ∙ ap verdict_outcome (refused_in n (f i) h passed refl stands)

-- ---- a verdict as document 01's numbers

number_of : (v : Verdict) → Gives (verdict_outcome v) (verdict_number v) 0
unfolding verdict_outcome verdict_number result refused_step
number_of passes = record { result_is = refl; step_is = refl }
number_of (refuses r) = record { result_is = refl; step_is = refl }

pub verdict_numbered : (v : Verdict) {o : Outcome} → o ≡ verdict_outcome v → Gives o (verdict_number v) 0
verdict_numbered v e = rw e (number_of v)
