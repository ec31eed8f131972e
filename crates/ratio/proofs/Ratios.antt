-- The ratio by the sums of |A| that were formed once for a passage is that of its terms. A step takes those of its n quantities, the first n.
use Prim.Native.Nat.{ℕ, suc, ◌+◌, ◌*◌, ◌^◌, ◌≤◌, ◌<◌}
use mathlib.Core.List.{List, []}
use mathlib.Core.Path.{◌≡◌, ap, ◌∙◌}
use native.Mathlib.Nat.{mul-le-mul}
use native.Mathlib.Omega.{arith}
use Rattle.ranges.specs.Range.{largest}
use Rattle.ranges.proofs.Ranges.{largest_bounded}
use lib.IntN.{ℤ, nat_abs}
use lib.ListN.{length, get_or, take}
use Rattle.std.proofs.lemmas.List.{length-take-le, get_or-take}
use Rattle.rounding.specs.Rounding.{up}
use Rattle.model.specs.Sheet.{scale}
use Rattle.model.specs.Step.{greatest, coefs, size, ratio_by, ratio}
use Rattle.laws.specs.Bounds.{total, most_total}
use Rattle.model.specs.declared.Ball.{Ball}
use Rattle.model.specs.declared.Term.{Term}
use Rattle.laws.proofs.Bounds.RatioNumbers.{coefs_le, scaled_sum_fits, greatest_sum_fits, size_of_sums_fits}
use Rattle.ratio.specs.Ratio.{counts, sum_at, SumsOf, Few, Reaching, Sized}
use Rattle.ratio.proofs.Balls.{largest_equal}

module _ {terms : List Term} {n : ℕ} {sums : List (List ℕ)} (of : SumsOf terms n sums) where
  -- so many sums has a step
  pub count_is : length (take n sums) ≡ n
  count_is = length-take-le n sums of.held

  -- each those of its target
  each_is : (i : ℕ) → i < n → (count : ℕ) → count < counts → sum_at (take n sums) i count ≡ coefs terms (suc i) count
  unfolding sum_at
  each_is i h count l = rw get_or-take (of.each i h count l)

  -- a target's size ..
  size_is : (G i : ℕ) → i < n → size G (sum_at (take n sums) i) ≡ size G (coefs terms (suc i))
  unfolding size
  size_is G i h = rw (each_is i h 0 (omega arith), each_is i h 1 (omega arith), each_is i h 2 (omega arith))

  -- .. and so the ratio
  ratio_by_sums : (H : ℤ) (G : ℕ) → ratio_by (sum_at (take n sums)) H (length (take n sums)) G ≡ ratio terms H n G
  unfolding ratio_by ratio
  ratio_by_sums H G = rw count_is (ap (λ (b : ℕ). up (b * nat_abs H) scale) (largest_equal n _ _ (size_is G)))

  -- at the G of the balls that a step starts from
  pub ratio_is : (H : ℤ) {G q : ℕ} (balls : List Ball) → G ≡ greatest balls → q ≡ ratio_by (sum_at (take n sums)) H (length (take n sums)) G → q ≡ ratio terms H n (greatest balls)
  ratio_is H {G} balls g e = e ∙ ratio_by_sums H G ∙ ap (ratio terms H n) g

  -- no sum is above that of all terms
  few : total terms ≤ most_total → (i : ℕ) → i < n → Few (get_or (take n sums) i [])
  unfolding sum_at
  few in-total i h = record { each = λ count l. rw (each_is i h count l) (coefs_le terms in-total (suc i) count) }

  pub sized : {G : ℕ} → total terms ≤ most_total → Reaching G → Sized G (take n sums)
  sized in-total reaching = record { few = λ i h. few in-total i (rw count_is at h); reaching = reaching }

-- a size is at most 2^39, and its two products fit
pub size_fits : {G : ℕ} {own : List ℕ} → Few own → Reaching G → up (scale * get_or own 0 0) G + get_or own 1 0 + up (G * get_or own 2 0) scale ≤ 2 ^ 39
size_fits few reaching =
    size_of_sums_fits reaching.low reaching.high (few.each 0 (omega arith)) (few.each 1 (omega arith)) (few.each 2 (omega arith))

pub none_fits : {own : List ℕ} → Few own → scale * get_or own 0 0 ≤ 2 ^ 57
none_fits few = scaled_sum_fits (few.each 0 (omega arith))

pub two_fits : {G : ℕ} {own : List ℕ} → Few own → Reaching G → G * get_or own 2 0 ≤ 2 ^ 62
two_fits few reaching = greatest_sum_fits reaching.low reaching.high (few.each 2 (omega arith))

-- b is at most 2^39, and |H| at most 2^24
pub product_fits : {G H : ℕ} {sums : List (List ℕ)} → Sized G sums → H ≤ scale → largest (length sums) (λ i. size G (sum_at sums i)) * H ≤ 2 ^ 63
unfolding scale
product_fits {G} {H} {sums} sized h = mul-le-mul (largest_bounded (length sums) _ _ fits) h
  where
    fits : (i : ℕ) → i < length sums → size G (sum_at sums i) ≤ 2 ^ 39
    fits i l = unfold size in unfold sum_at in size_fits (sized.few i l) sized.reaching
