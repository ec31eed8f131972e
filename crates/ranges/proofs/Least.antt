-- The search for the first that passes, below n: what it comes to, and that nothing else is the first.
-- One induction says it all; each law reads it.
use Prim.Native.Nat.{ℕ, zero, suc, ◌≤◌, ◌<◌}
use mathlib.Core.Bool.{Bool, true, false, false≢true}
use mathlib.Core.Logic.{⊎_elim}
use mathlib.Core.Path.{◌≡◌, refl, sym, ◌∙◌}
use native.Mathlib.Nat.{eq-or-lt_of_le}
use native.Mathlib.Omega.{arith}
use Rattle.ranges.specs.Range.{least}
use Rattle.ranges.proofs.Ranges.{before_or_past}

-- k passes, and nothing before it does
pub record IsLeast (f : ℕ → Bool) (k : ℕ) : Type 0 where
  pub passes : f k ≡ true
  pub none_before : (j : ℕ) → j < k → f j ≡ false

-- what a search below n comes to: nothing before k passes, and k does unless it is n
record Searched (n : ℕ) (f : ℕ → Bool) (k : ℕ) : Type 0 where
  at_most : k ≤ n
  none_before : (j : ℕ) → j < k → f j ≡ false
  passes : k < n → f k ≡ true

searched : (n : ℕ) (f : ℕ → Bool) → Searched n f (least n f)
unfolding least
searched zero f = record { at_most = omega arith; none_before = λ j h. absurd (omega arith); passes = λ h. absurd (omega arith) }
searched (suc n) f = go (f 0) refl (searched n (λ k. f (suc k)))
  where
    go : (b : Bool) → f 0 ≡ b → Searched n (λ k. f (suc k)) (least n (λ k. f (suc k))) → Searched (suc n) f (elim b [ true ↦ 0 | false ↦ suc (least n (λ k. f (suc k))) ])
    go true e later = record { at_most = omega arith; none_before = λ j h. absurd (omega arith); passes = λ h. e }
    go false e later = record { at_most = omega (arith, later.at_most); none_before = before; passes = λ h. later.passes (omega arith) }
      where
        before : (j : ℕ) → j < suc (least n (λ k. f (suc k))) → f j ≡ false
        before zero h = e
        before (suc j) h = later.none_before j (omega arith)

contrary : {A : Type 0} {b : Bool} → b ≡ false → b ≡ true → A
contrary fails passes = absurd (false≢true (sym fails ∙ passes))

module _ (n : ℕ) (f : ℕ → Bool) where
  pub least_le : least n f ≤ n
  least_le = (searched n f).at_most

  pub least_found : least n f < n → IsLeast f (least n f)
  least_found h = record { passes = (searched n f).passes h; none_before = (searched n f).none_before }

  pub least_none : n ≤ least n f → (j : ℕ) → j < n → f j ≡ false
  least_none h j lt = (searched n f).none_before j (omega arith)

  -- the search ends no later than at one that passes
  no_later : {k : ℕ} → f k ≡ true → least n f ≤ k
  no_later {k} e = ⊎_elim (λ (lt : k < least n f). contrary ((searched n f).none_before k lt) e) (λ le. le) (before_or_past k (least n f))

  -- where one at most n passes, the search finds the least
  pub least_is_least : (k : ℕ) → k ≤ n → f k ≡ true → IsLeast f (least n f)
  least_is_least k h e = ⊎_elim least_found last (before_or_past (least n f) n)
    where
      last : n ≤ least n f → IsLeast f (least n f)
      last past =
          let same : k ≡ least n f = omega (arith, no_later e) in
          record { passes = rw same at e; none_before = (searched n f).none_before }

  pub least_unique : (k : ℕ) → k < n → IsLeast f k → least n f ≡ k
  least_unique k h is =
      ⊎_elim (λ same. same) (λ (lt : least n f < k). contrary (is.none_before _ lt) ((searched n f).passes (omega arith))) (eq-or-lt_of_le (no_later is.passes))

  pub least_past : ((j : ℕ) → j < n → f j ≡ false) → least n f ≡ n
  least_past h = ⊎_elim (λ same. same) (λ lt. contrary (h _ lt) ((searched n f).passes lt)) (eq-or-lt_of_le least_le)
