-- What a term weighs: |A| times the scales of its factors, s for an absent one and G for one that is there. The ratio bounds what the terms
-- of one target weigh together. Of `up` only that it is not below is used.
use Prim.Native.Nat.{ℕ, zero, suc, ◌+◌, ◌*◌, ◌≤◌, ◌<◌}
use mathlib.Core.Bool.{Bool, true, false, cond}
use mathlib.Core.List.{List}
use mathlib.Core.Path.{◌≡◌}
use native.Mathlib.Nat.{mul-le-mul_left, mul-zero}
use native.Mathlib.Omega.{arith}
use lib.Dec.{eqb, eqb-suc-zero}
use lib.IntN.{ℤ, nat_abs}
use lib.ListN.{length, get_or}
use Rattle.rounding.proofs.Roundings.{up_not_below}
use Rattle.ranges.specs.Range.{sum, largest}
use Rattle.model.specs.Sheet.{scale, no_term}
use Rattle.model.specs.Step.{factors, brings, coef_of, coefs, size, ratio_by, ratio}
use Rattle.model.specs.declared.Term.{Term}
use Rattle.ranges.proofs.Ranges.{largest_le}
use Rattle.laws.proofs.Bounds.Reach.{scale_positive}

-- the scales of a first and a second factor, multiplied
unfoldable pub weight : ℕ → ℕ → ℕ → ℕ
weight G zero second = scale * scale
weight G (suc first) zero = scale * G
weight G (suc first) (suc second) = G * G

-- what a term weighs
unfoldable pub weighs : ℕ → Term → ℕ
weighs G term = nat_abs term.coef * weight G term.first term.second

-- ---- the terms of a target together

weighs_by_count : (G : ℕ) (term : Term) → weighs G term ≡ scale * scale * coef_of 0 term + scale * G * coef_of 1 term + G * G * coef_of 2 term
unfolding weighs weight coef_of factors
weighs_by_count G term = go (nat_abs term.coef) term.first term.second
  where
    go : (a first second : ℕ) → a * weight G first second ≡
        scale * scale * cond (eqb (cond (eqb first 0) 0 (cond (eqb second 0) 1 2)) 0) a 0
        + scale * G * cond (eqb (cond (eqb first 0) 0 (cond (eqb second 0) 1 2)) 1) a 0
        + G * G * cond (eqb (cond (eqb first 0) 0 (cond (eqb second 0) 1 2)) 2) a 0
    go a zero second = omega arith
    go a (suc first) zero = simp eqb-suc-zero (omega arith)
    go a (suc first) (suc second) = simp eqb-suc-zero (omega arith)

brings_by_count : (G target : ℕ) (term : Term) →
    brings target term (weighs G term) ≡
    scale * scale * brings target term (coef_of 0 term) + scale * G * brings target term (coef_of 1 term) + G * G * brings target term (coef_of 2 term)
unfolding brings
brings_by_count G target term = go (eqb term.to target)
  where
    go : (b : Bool) → cond b (weighs G term) 0 ≡ scale * scale * cond b (coef_of 0 term) 0 + scale * G * cond b (coef_of 1 term) 0 + G * G * cond b (coef_of 2 term) 0
    go true = weighs_by_count G term
    go false = omega (arith, mul-zero (scale * scale), mul-zero (scale * G), mul-zero (G * G))

-- what the terms of a target weigh together
unfoldable pub weight_of : List Term → ℕ → ℕ → ℕ
weight_of terms G target = sum (length terms) (λ j. brings target (get_or terms j no_term) (weighs G (get_or terms j no_term)))

weight_by_count : (terms : List Term) (G target : ℕ) →
    weight_of terms G target ≡ scale * scale * coefs terms target 0 + scale * G * coefs terms target 1 + G * G * coefs terms target 2
unfolding weight_of coefs sum
weight_by_count terms G target = go (length terms)
  where
    brings_coef : ℕ → ℕ → ℕ
    brings_coef count j = brings target (get_or terms j no_term) (coef_of count (get_or terms j no_term))

    go : (n : ℕ) → sum n (λ j. brings target (get_or terms j no_term) (weighs G (get_or terms j no_term))) ≡
        scale * scale * sum n (brings_coef 0) + scale * G * sum n (brings_coef 1) + G * G * sum n (brings_coef 2)
    go zero = omega arith
    go (suc n) = omega (arith, go n, brings_by_count G target (get_or terms n no_term))

-- ---- the ratio

pub weight_by_size : (terms : List Term) {G : ℕ} (target : ℕ) → 0 < G → weight_of terms G target ≤ scale * (G * size G (coefs terms target))
unfolding size
weight_by_size terms {G} target h =
    omega (arith, weight_by_count terms G target, mul-le-mul_left scale (up_not_below (scale * coefs terms target 0) h), mul-le-mul_left G (up_not_below (G * coefs terms target 2) scale_positive))

pub weight_by_ratio : (terms : List Term) (H : ℤ) (n : ℕ) {G : ℕ} (i : ℕ) → 0 < G → i < n →
    nat_abs H * weight_of terms G (suc i) ≤ G * ratio terms H n G * (scale * scale)
unfolding ratio ratio_by
weight_by_ratio terms H n {G} i h l =
    combine (nat_abs H) (weight_of terms G (suc i)) (size G (coefs terms (suc i))) (largest n (λ j. size G (coefs terms (suc j)))) _ (weight_by_size terms (suc i) h) (largest_le n (λ j. size G (coefs terms (suc j))) i l) (up_not_below _ scale_positive)
  where
    combine : (a w b c q : ℕ) → w ≤ scale * (G * b) → b ≤ c → c * a ≤ q * scale → a * w ≤ G * q * (scale * scale)
    combine a w b c q f g k =
        omega (arith, mul-le-mul_left a f, mul-le-mul_left (a * (scale * G)) g, mul-le-mul_left (scale * G) k)
