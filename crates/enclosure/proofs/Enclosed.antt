-- One step: the row encloses the exact sum of every degree no lower than its own, from every state within the balls it started from.
-- The coefficients enclose the sum of the row's degree, and the tail covers the rest.
use Prim.Native.Nat.{ℕ, zero, suc, ◌+◌, ◌*◌, ◌^◌, ◌≤◌, ◌<◌}
use mathlib.Core.Bool.{true}
use mathlib.Core.List.{List}
use mathlib.Core.Path.{◌≡◌, sym, ap, ◌∙◌}
use native.Mathlib.Nat.{le_refl, le_trans, mul-pos, mul-le-mul_left, mul-le-mul_right, le_of_mul-le-mul_right}
use native.Mathlib.Decide.{dec_lt}
use native.Mathlib.Omega.{arith}
use borrow.Author.Tests.{leb-true}
use lib.IntN.{ℤ, pos, nat_abs, ◌+ℤ◌, ◌-ℤ◌, ◌*ℤ◌}
use lib.ListN.{length, get_or, get_or-eq_default}
use Rattle.rounding.specs.Enclosure.{Within}
use Rattle.rounding.proofs.Integers.{ringℤ, abs_add, abs_mul, minus_plus, through}
use Rattle.rounding.proofs.Roundings.{up_not_below}
use Rattle.ranges.specs.Range.{largest}
use Rattle.model.specs.Sheet.{scale}
use Rattle.enclosure.specs.Exact.{State, sum_denominator, sum_numerator, exact_sum}
use Rattle.model.specs.Step.{no_ball, reach, greatest, coefs, size, ratio_by, ratio, tail_at, degree, coefficients_to, new_ball, new_row, step_row}
use Rattle.model.specs.declared.Ball.{Ball}
use Rattle.model.specs.Passage.{slow, most_ratio}
use Rattle.enclosure.specs.Trust.{LiesWithin}
use Rattle.model.specs.declared.Term.{Term}
use Rattle.laws.proofs.Bounds.Invariant.{scale_le_greatest, reach_le_greatest}
use Rattle.enclosure.proofs.Coefficients.{sums_enclosed}
use Rattle.enclosure.proofs.Majorant.{WellFormed, summand_under}
use Rattle.ranges.proofs.Ranges.{length_tabulate, get_or_tabulate, largest_le}
use Rattle.laws.proofs.Bounds.Reach.{scale_positive}
use Rattle.enclosure.proofs.Tail.{summand, partial_sum, apart, tail_covers_rest}

-- u ÷ m within e of c, and v ÷ n within t of u ÷ m
within_through : {u v : ℤ} (m n : ℕ) {c : ℤ} {e : ℕ} (t : ℕ) → 0 < m → Within u m c e → nat_abs (v *ℤ pos m -ℤ u *ℤ pos n) ≤ t * (n * m) → Within v n c (e + t)
within_through {u} {v} m n {c} {e} t positive w far = record { off = le_of_mul-le-mul_right scaled positive }
  where
    across : (v m n c : ℤ) → (v -ℤ c *ℤ n) *ℤ m ≡ v *ℤ m -ℤ c *ℤ m *ℤ n
    across v m n c = simp ringℤ

    spread : (u m n c : ℤ) → (u -ℤ c *ℤ m) *ℤ n ≡ u *ℤ n -ℤ c *ℤ m *ℤ n
    spread u m n c = simp ringℤ

    parted : (v -ℤ c *ℤ pos n) *ℤ pos m ≡ (v *ℤ pos m -ℤ u *ℤ pos n) +ℤ (u -ℤ c *ℤ pos m) *ℤ pos n
    parted = across v (pos m) (pos n) c ∙ sym (ap (λ (z : ℤ). (v *ℤ pos m -ℤ u *ℤ pos n) +ℤ z) (spread u (pos m) (pos n) c) ∙ through (v *ℤ pos m) (u *ℤ pos n) (c *ℤ pos m *ℤ pos n))

    scaled : nat_abs (v -ℤ c *ℤ pos n) * m ≤ (e + t) * n * m
    scaled =
        rw (← abs_mul (v -ℤ c *ℤ pos n) (pos m), parted) (omega (arith, abs_add (v *ℤ pos m -ℤ u *ℤ pos n) ((u -ℤ c *ℤ pos m) *ℤ pos n), abs_mul (u -ℤ c *ℤ pos m) (pos n), mul-le-mul_right n w.off))

pub denominator_positive : (D w K : ℕ) → 0 < D → 0 < w → 0 < sum_denominator D w K
unfolding sum_denominator
denominator_positive D w zero h k = h
denominator_positive D w (suc K) h k = mul-pos (denominator_positive D w K h k) (mul-pos {m = suc K} (omega arith) (mul-pos h (mul-pos scale_positive k)))

-- question 5: the ratio is at most a half
pub at_most_half : (terms : List Term) (H : ℤ) (balls : List Ball) → slow terms H balls ≡ true → 2 * ratio terms H (length balls) (greatest balls) ≤ scale
unfolding slow most_ratio scale
at_most_half terms H balls slowly = omega (arith, leb-true (ratio terms H (length balls) (greatest balls)) most_ratio slowly)

module _ (terms : List Term) (formed : WellFormed terms) (H : ℤ) (balls : List Ball) (slowly : slow terms H balls ≡ true) (state : State) (start : LiesWithin balls state) where
  abbrev G : ℕ
  G = greatest balls

  abbrev q : ℕ
  q = ratio terms H (length balls) G

  -- s times a start is at most |value| + radius, so at most G
  starts_under : (i : ℕ) → scale * nat_abs (get_or state.numerators i (pos 0)) ≤ G * state.denominator
  unfolding reach
  starts_under i = by_place (dec_lt i (length balls))
    where
      reached : (z v : ℤ) (D r : ℕ) → Within z D v r → nat_abs z ≤ (nat_abs v + r) * D
      reached z v D r w = omega (arith, ap nat_abs (minus_plus z (v *ℤ pos D)), abs_add (z -ℤ v *ℤ pos D) (v *ℤ pos D), abs_mul v (pos D), w.off)

      by_place : Dec (i < length balls) → scale * nat_abs (get_or state.numerators i (pos 0)) ≤ G * state.denominator
      by_place (yes lt) =
          rw (← abs_mul (pos scale) (get_or state.numerators i (pos 0))) (le_trans (reached _ _ state.denominator _ (start.near i lt)) (mul-le-mul_right state.denominator (reach_le_greatest balls i)))
      by_place (no past) = rw (get_or-eq_default state.numerators (pos 0) {n = i} (omega (arith, start.quantities))) (omega arith)

  -- At a step of h ÷ w that is no longer than H ÷ s:
  module _ (h : ℤ) (w : ℕ) (positive : 0 < w) (no_longer : nat_abs h * scale ≤ nat_abs H * w) where
    sizes_under : (i : ℕ) → i < length state.numerators → size G (coefs terms (suc i)) * nat_abs h ≤ q * w
    unfolding ratio ratio_by
    sizes_under i lt =
        shorter (size G (coefs terms (suc i))) (le_trans (mul-le-mul_right (nat_abs H) (largest_le (length balls) (λ j. size G (coefs terms (suc j))) i (rw start.quantities at lt))) (up_not_below (largest (length balls) (λ j. size G (coefs terms (suc j))) * nat_abs H) scale_positive))
      where
        shorter : (b : ℕ) → b * nat_abs H ≤ q * scale → b * nat_abs h ≤ q * w
        shorter b under = le_of_mul-le-mul_right {k = scale} (omega (arith, mul-le-mul_left b no_longer, mul-le-mul_right w under)) scale_positive

    -- the summand of order k, for every k
    pub order_under : (k i : ℕ) → nat_abs (summand terms state h w i k) * scale ^ k ≤ G * q ^ k * sum_denominator state.denominator w k
    unfolding summand
    order_under k i = summand_under terms state h w G q formed (scale_le_greatest balls) starts_under sizes_under k i

    -- what encloses the exact sum of degree d encloses with the tail that of every degree from d up
    pub tail_encloses : (d K i : ℕ) → d ≤ K → {c : ℤ} {e : ℕ} → Within (partial_sum terms state h w i d) (sum_denominator state.denominator w d) c e → Within (partial_sum terms state h w i K) (sum_denominator state.denominator w K) c (e + tail_at G q d)
    unfolding apart
    tail_encloses d K i le enclosed =
        within_through (sum_denominator state.denominator w d) (sum_denominator state.denominator w K) (tail_at G q d) (denominator_positive state.denominator w d start.rational positive) enclosed (tail_covers_rest terms state h w i G q (omega (arith, at_most_half terms H balls slowly, scale_positive)) (λ k. order_under k i) d K le)

  -- the exact sum of degree K, by the coefficients of the orders 0 .. d and the tail
  sum_enclosed : (d K i : ℕ) → d ≤ K → Within (partial_sum terms state H scale i K) (sum_denominator state.denominator scale K) (new_ball (coefficients_to terms H balls d) d (tail_at G q d) i).value (new_ball (coefficients_to terms H balls d) d (tail_at G q d) i).radius
  unfolding new_ball
  sum_enclosed d K i h = tail_encloses H scale scale_positive (le_refl (nat_abs H * scale)) d K i h (sums_enclosed terms H balls state start d i)

  row_encloses : (d K : ℕ) → d ≤ K → LiesWithin (new_row terms H balls d (tail_at G q d)).balls (exact_sum terms H scale K state)
  unfolding new_row exact_sum partial_sum
  row_encloses d K h =
      record {
        rational = denominator_positive state.denominator scale K start.rational scale_positive;
        quantities = simp length_tabulate start.quantities;
        near = λ i lt. entry i (rw length_tabulate at lt);
      }
    where
      entry : (i : ℕ) → i < length balls → Within (pos scale *ℤ get_or (exact_sum terms H scale K state).numerators i (pos 0)) (sum_denominator state.denominator scale K) (get_or (new_row terms H balls d (tail_at G q d)).balls i no_ball).value (get_or (new_row terms H balls d (tail_at G q d)).balls i no_ball).radius
      entry i lt =
          rw (get_or_tabulate (length balls) (new_ball (coefficients_to terms H balls d) d (tail_at G q d)) no_ball i lt, get_or_tabulate (length state.numerators) (sum_numerator terms state H scale K) (pos 0) i (rw start.quantities lt)) (sum_enclosed d K i h)

  pub step_encloses : (limit K : ℕ) → (step_row terms H limit balls).degree ≤ K → LiesWithin (step_row terms H limit balls).balls (exact_sum terms H scale K state)
  unfolding step_row new_row
  step_encloses limit K h = row_encloses (degree G q limit) K h
