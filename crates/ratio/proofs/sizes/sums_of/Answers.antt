-- `ratio::sizes::sums_of` meets its contract. The loop gives each target its sums.
use Prim.Native.Nat.{ℕ, zero, suc, ◌+◌, ◌<◌}
use mathlib.Core.List.{List, [], ◌∷◌}
use mathlib.Core.Logic.{⊎_elim}
use mathlib.Core.Path.{◌≡◌, refl, ap, ◌∙◌}
use native.Mathlib.Numerals.{add-one}
use native.Mathlib.Nat.{eq-or-lt_of_le}
use native.Mathlib.Omega.{arith}
use lib.ListN.{length, get_or, set, length-set}
use lib.Seq.{get_or-set_same, get_or-set_other}
use Rattle.model.specs.Sheet.{most_quantities}
use Rattle.model.specs.Step.{coefs}
use Rattle.model.specs.declared.Term.{Term}
use Rattle.ratio.specs.Ratio.{counts, sum_at, SumsOf}
use Rattle.ratio.proofs.sizes.sums_of.Goals as goal

-- one target more
module _ {terms : List Term} {i : ℕ} {sums : List (List ℕ)} (places : length sums ≡ most_quantities) (before : SumsOf terms i sums) (there : i < most_quantities) {none one two : ℕ} (z₀ : none ≡ coefs terms (i + 1) 0) (z₁ : one ≡ coefs terms (i + 1) 1) (z₂ : two ≡ coefs terms (i + 1) 2) where
  -- the target's own sums
  abbrev own : List ℕ
  own = none ∷ (one ∷ (two ∷ []))

  own_is : (count : ℕ) → count < counts → get_or own count 0 ≡ coefs terms (suc i) count
  own_is zero h = rw (add-one i) at z₀
  own_is (suc zero) h = rw (add-one i) at z₁
  own_is (suc (suc zero)) h = rw (add-one i) at z₂
  own_is (suc (suc (suc count))) h = absurd (omega arith)

  one_more : (length (set sums i own) ≡ most_quantities) × SumsOf terms (i + 1) (set sums i own)
  unfolding sum_at
  one_more = (long, record { held = omega (arith, long); each = λ j h. ⊎_elim (here j) (λ (l : j < i). earlier j l) (eq-or-lt_of_le {n = j} {m = i} (omega arith)) })
    where
      long : length (set sums i own) ≡ most_quantities
      long = length-set sums i own ∙ places

      here : (j : ℕ) → j ≡ i → (count : ℕ) → count < counts → sum_at (set sums i own) j count ≡ coefs terms (suc j) count
      here j e count h = unfold sum_at in rw (e, get_or-set_same sums i own [] (omega (arith, places))) (own_is count h)

      earlier : (j : ℕ) → j < i → (count : ℕ) → count < counts → sum_at (set sums i own) j count ≡ coefs terms (suc j) count
      earlier j l count h = unfold sum_at in ap (λ (xs : List ℕ). get_or xs count 0) (get_or-set_other sums i j own [] (λ e. omega (arith, e, l))) ∙ before.each j l count h

pub loop-i-init : goal.loop-i-init
loop-i-init c = (refl, record { held = omega arith; each = λ i h. absurd (omega arith) })

pub loop-i-preserved : goal.loop-i-preserved
loop-i-preserved c =
    one_more c.loop-i.invariant.0 c.loop-i.invariant.1 (omega (arith, c.requires.n_le_most_quantities, c.loop-i-test.true)) c.coefs.ensures c.coefs-in-loop-i.ensures c.coefs-in-loop-i-2.ensures
