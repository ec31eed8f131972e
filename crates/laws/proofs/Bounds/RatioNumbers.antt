-- No number on the way to the ratio leaves 64 bits, whatever the ratio comes to: question 5 is not yet answered there.
use Prim.Native.Nat.{ℕ, ◌+◌, ◌*◌, ◌^◌, ◌≤◌}
use mathlib.Core.Bool.{Bool, true, false, cond}
use mathlib.Core.List.{List}
use native.Mathlib.Nat.{le_refl, le_trans, mul-le-mul, mul-le-mul_left}
use native.Mathlib.Omega.{arith}
use lib.Dec.{eqb}
use lib.IntN.{nat_abs}
use lib.ListN.{length, get_or}
use Rattle.rounding.specs.Rounding.{up}
use Rattle.rounding.proofs.Roundings.{up_is_least}
use Rattle.ranges.specs.Range.{sum}
use Rattle.model.specs.Sheet.{scale, most, no_term}
use Rattle.model.specs.Step.{brings, coef_of, factors, coefs}
use Rattle.laws.specs.Bounds.{total, most_total}
use Rattle.model.specs.declared.Term.{Term}
use Rattle.ranges.proofs.Ranges.{sum_le, sum_partial}
use Rattle.laws.proofs.Bounds.Reach.{scale_positive}

cond_le : (b : Bool) (a : ℕ) → cond b a 0 ≤ a
cond_le true a = le_refl a
cond_le false a = omega arith

brought_coef_le : (target count : ℕ) (term : Term) → brings target term (coef_of count term) ≤ nat_abs term.coef
unfolding brings coef_of
brought_coef_le target count term =
    le_trans (cond_le (eqb term.to target) (coef_of count term)) (cond_le (eqb (factors term) count) (nat_abs term.coef))

-- a target's size, by its sums: s×Z0 and G×Z2 first
pub scaled_sum_fits : {z : ℕ} → z ≤ most_total → scale * z ≤ 2 ^ 57
unfolding scale most_total
scaled_sum_fits h = omega (arith, h)

module _ {G : ℕ} (above : scale ≤ G) (small : G ≤ most) where
  pub greatest_sum_fits : {z : ℕ} → z ≤ most_total → G * z ≤ 2 ^ 62
  unfolding most most_total
  greatest_sum_fits h = mul-le-mul small h

  pub size_of_sums_fits : {z₀ z₁ z₂ : ℕ} → z₀ ≤ most_total → z₁ ≤ most_total → z₂ ≤ most_total → up (scale * z₀) G + z₁ + up (G * z₂) scale ≤ 2 ^ 39
  unfolding scale most most_total
  size_of_sums_fits {z₀} {z₁} {z₂} h₀ h₁ h₂ = omega (arith, h₀, h₁, h₂, without, both)
    where
      without : up (scale * z₀) G ≤ z₀
      without = up_is_least _ (omega (arith, above)) _ (omega (arith, mul-le-mul_left z₀ above))

      both : up (G * z₂) scale ≤ 32 * z₂
      both = up_is_least _ scale_positive _ (omega (arith, mul-le-mul_left z₂ small))

-- All that is asked of the terms is the sum of |A| over all of them.
module _ (terms : List Term) (in-total : total terms ≤ most_total) where
  -- Z0, Z1 and Z2, as far as they are summed up
  pub coefs_fit : (target count m : ℕ) → m ≤ length terms → sum m (λ j. brings target (get_or terms j no_term) (coef_of count (get_or terms j no_term))) ≤ most_total
  unfolding total most_total
  coefs_fit target count m h =
      le_trans (sum_le m _ _ (λ j l. brought_coef_le target count (get_or terms j no_term))) (le_trans (sum_partial (λ j. nat_abs (get_or terms j no_term).coef) (length terms) h) in-total)

  pub coefs_le : (target count : ℕ) → coefs terms target count ≤ most_total
  unfolding coefs
  coefs_le target count = coefs_fit target count (length terms) (le_refl (length terms))
