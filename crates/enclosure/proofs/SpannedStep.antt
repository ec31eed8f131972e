-- Between the rows: the exact sum at a fraction u ÷ w of a step, from 0 to 1, of every degree no lower than the step's, lies within the step's reach of the
-- value that the step started from, from every state within its starting radii. A summand of order k from 1 up is, at the fraction, no larger than
-- at the whole step, and so at most |c_k| + e_k.
use Prim.Native.Nat.{ℕ, zero, suc, ◌+◌, ◌*◌, ◌^◌, ◌≤◌, ◌<◌}
use mathlib.Core.Bool.{true}
use mathlib.Core.List.{List}
use mathlib.Core.Path.{◌≡◌, refl, sym, ap, ◌∙◌}
use native.Mathlib.Nat.{le_refl, pow-zero, pow-suc, mul-pos, mul-one, mul-le-mul, mul-le-mul_left}
use native.Mathlib.Omega.{arith}
use lib.IntN.{ℤ, pos, nat_abs, ◌+ℤ◌, ◌-ℤ◌, ◌*ℤ◌, one, pow, pos-*ℤ-pos, zero-*ℤ, +ℤ_idr}
use lib.ListN.{length, get_or}
use Rattle.rounding.specs.Enclosure.{Within}
use Rattle.rounding.proofs.Enclosure.{within_low, within_high}
use Rattle.rounding.proofs.Integers.{ringℤ, ringℕ, abs_add, abs_mul, minus_plus}
use Rattle.ranges.specs.Range.{sum_ℤ, tabulate}
use Rattle.model.specs.Sheet.{scale}
use Rattle.enclosure.specs.Exact.{State, order, orders_to, sum_denominator, sum_numerator, exact_sum}
use Rattle.model.specs.Step.{reach, greatest, ratio, tail_at, degree, Coefficients, coefficient, coefficients_to, no_span, step_reach, new_span, new_row, step_row}
use Rattle.model.specs.declared.Ball.{Ball}
use Rattle.model.specs.declared.Span.{Span}
use Rattle.model.specs.Passage.{slow}
use Rattle.enclosure.specs.Trust.{LiesWithin, LiesBetween}
use Rattle.model.specs.declared.Term.{Term}
use Rattle.enclosure.proofs.Coefficients.{summand_enclosed}
use Rattle.enclosure.proofs.Enclosed.{denominator_positive, tail_encloses}
use Rattle.enclosure.proofs.Majorant.{WellFormed}
use Rattle.ranges.proofs.Ranges.{sum_first, sum_ℤ_first, sum_ℤ_zero, length_tabulate, get_or_tabulate}
use Rattle.laws.proofs.Bounds.Reach.{scale_positive}
use Rattle.enclosure.proofs.Tail.{summand, partial_sum, sums_within}

-- ---- a fraction of a step

-- (H u)^k is H^k u^k
power_of_fraction : (H : ℤ) (u k : ℕ) → pow (H *ℤ pos u) k ≡ pow H k *ℤ pos (u ^ k)
unfolding pow one
power_of_fraction H u zero = rw (pow-zero u)
power_of_fraction H u (suc k) =
    rw (power_of_fraction H u k, pow-suc u k, ← pos-*ℤ-pos (u ^ k) u) (regrouped (pow H k) (pos (u ^ k)) H (pos u))
  where
    regrouped : (a b c d : ℤ) → a *ℤ b *ℤ (c *ℤ d) ≡ a *ℤ c *ℤ (b *ℤ d)
    regrouped a b c d = simp ringℤ

-- the denominator has w once for each order
denominator_of_fraction : (D w k : ℕ) → sum_denominator D (scale * w) k ≡ sum_denominator D scale k * w ^ k
unfolding sum_denominator
denominator_of_fraction D w zero = rw (pow-zero w) (sym (mul-one D))
denominator_of_fraction D w (suc k) =
    rw (denominator_of_fraction D w k, pow-suc w k) (regrouped (sum_denominator D scale k) (w ^ k) (suc k) D scale w)
  where
    regrouped : (M v n D s w : ℕ) → M * v * (n * (D * (s * (s * w)))) ≡ M * (n * (D * (s * s))) * (v * w)
    regrouped M v n D s w = simp ringℕ

powers_no_larger : {u w : ℕ} → u ≤ w → (k : ℕ) → u ^ k ≤ w ^ k
powers_no_larger {u} {w} h zero = rw (pow-zero u, pow-zero w) (le_refl 1)
powers_no_larger {u} {w} h (suc k) = rw (pow-suc u k, pow-suc w k) (mul-le-mul (powers_no_larger h k) h)

-- y ÷ m within e of c, and a ≤ b: y a ÷ (m b) is at most |c| + e
fraction_reached : {y : ℤ} {m : ℕ} {c : ℤ} {e : ℕ} (a b : ℕ) → a ≤ b → Within y m c e → Within (y *ℤ pos a) (m * b) (pos 0) (nat_abs c + e)
fraction_reached {y} {m} {c} {e} a b h w = record { off = rw (from_zero (y *ℤ pos a) (pos (m * b)), abs_mul y (pos a)) (omega (arith, mul-le-mul reached h)) }
  where
    from_zero : (x m : ℤ) → x -ℤ pos 0 *ℤ m ≡ x
    from_zero x m = ap (λ (z : ℤ). x -ℤ z) (zero-*ℤ m) ∙ +ℤ_idr x

    reached : nat_abs y ≤ (nat_abs c + e) * m
    reached = omega (arith, ap nat_abs (minus_plus y (c *ℤ pos m)), abs_add (y -ℤ c *ℤ pos m) (c *ℤ pos m), abs_mul c (pos m), w.off)

module _ (terms : List Term) (formed : WellFormed terms) (H : ℤ) (balls : List Ball) (slowly : slow terms H balls ≡ true) (state : State) (start : LiesWithin balls state) (u w : ℕ) (positive : 0 < w) (part : u ≤ w) where
  abbrev D : ℕ
  D = state.denominator

  abbrev G : ℕ
  G = greatest balls

  abbrev q : ℕ
  q = ratio terms H (length balls) G

  abbrev table : ℕ → Coefficients
  table = coefficients_to terms H balls

  -- the enclosures at the fraction: at order 0 that of the start, and after it 0 within |c_k| + e_k
  centre : ℕ → ℕ → ℕ → ℤ
  centre d i zero = (coefficient (table d) 0 i).value
  centre d i (suc k) = pos 0

  extent : ℕ → ℕ → ℕ → ℕ
  extent d i zero = (coefficient (table d) 0 i).radius
  extent d i (suc k) = reach (coefficient (table d) (suc k) i)

  summand_at_fraction : (k i : ℕ) → summand terms state (H *ℤ pos u) (scale * w) i k ≡ summand terms state H scale i k *ℤ pos (u ^ k)
  unfolding summand
  summand_at_fraction k i =
      rw (power_of_fraction H u k) (regrouped (pos scale) (order (orders_to terms state k) k i) (pow H k) (pos (u ^ k)))
    where
      regrouped : (s y h u : ℤ) → s *ℤ (y *ℤ (h *ℤ u)) ≡ s *ℤ (y *ℤ h) *ℤ u
      regrouped s y h u = simp ringℤ

  fraction_enclosed : (d i k : ℕ) → k ≤ d → Within (summand terms state (H *ℤ pos u) (scale * w) i k) (sum_denominator D (scale * w) k) (centre d i k) (extent d i k)
  unfolding centre extent reach summand pow sum_denominator
  fraction_enclosed d i zero h = summand_enclosed terms H balls state start d 0 i h
  fraction_enclosed d i (suc k) h =
      rw (summand_at_fraction (suc k) i, denominator_of_fraction D w (suc k)) (fraction_reached (u ^ suc k) (w ^ suc k) (powers_no_larger part (suc k)) (summand_enclosed terms H balls state start d (suc k) i h))

  centres_are : (d i : ℕ) → sum_ℤ (suc d) (centre d i) ≡ (coefficient (table d) 0 i).value
  unfolding centre
  centres_are d i = sum_ℤ_first d (centre d i) ∙ ap (λ (z : ℤ). centre d i 0 +ℤ z) (sum_ℤ_zero d (λ k. centre d i (suc k)) (λ k h. refl)) ∙ +ℤ_idr (centre d i 0)

  -- u ÷ w of a step is no longer than the step
  no_longer : nat_abs (H *ℤ pos u) * scale ≤ nat_abs H * (scale * w)
  no_longer = rw (abs_mul H (pos u)) (omega (arith, mul-le-mul_left (nat_abs H * scale) part))

  between_enclosed : (d K i : ℕ) → d ≤ K → Within (partial_sum terms state (H *ℤ pos u) (scale * w) i K) (sum_denominator D (scale * w) K) (coefficient (table d) 0 i).value (step_reach (table d) d (tail_at G q d) i)
  unfolding step_reach extent
  between_enclosed d K i h =
      tail_encloses terms formed H balls slowly state start (H *ℤ pos u) (scale * w) (mul-pos scale_positive positive) no_longer d K i h (rw (centres_are d i, sum_first d (extent d i)) at (sums_within terms state (H *ℤ pos u) (scale * w) i (centre d i) (extent d i) d (fraction_enclosed d i)))

  -- the lows and highs of a step of degree d
  abbrev spans : ℕ → List Span
  spans d = tabulate (length balls) (new_span (table d) d (tail_at G q d))

  lies_between : (d K : ℕ) → d ≤ K → LiesBetween (spans d) (exact_sum terms (H *ℤ pos u) (scale * w) K state)
  unfolding exact_sum new_span partial_sum
  lies_between d K h =
      record {
        rational = denominator_positive D (scale * w) K start.rational (mul-pos scale_positive positive);
        quantities = simp length_tabulate start.quantities;
        above = λ i lt. rw (span_at i lt, number_at i lt) (within_low (between_enclosed d K i h));
        below = λ i lt. rw (span_at i lt, number_at i lt) (within_high (between_enclosed d K i h));
      }
    where
      number_at : (i : ℕ) → i < length (spans d) → get_or (exact_sum terms (H *ℤ pos u) (scale * w) K state).numerators i (pos 0) ≡ sum_numerator terms state (H *ℤ pos u) (scale * w) K i
      number_at i lt = get_or_tabulate (length state.numerators) (sum_numerator terms state (H *ℤ pos u) (scale * w) K) (pos 0) i (rw start.quantities (rw length_tabulate at lt))

      span_at : (i : ℕ) → i < length (spans d) → get_or (spans d) i no_span ≡ new_span (table d) d (tail_at G q d) i
      span_at i lt = get_or_tabulate (length balls) (new_span (table d) d (tail_at G q d)) no_span i (rw length_tabulate at lt)

  pub step_between : (limit K : ℕ) → (step_row terms H limit balls).degree ≤ K → LiesBetween (step_row terms H limit balls).spans (exact_sum terms (H *ℤ pos u) (scale * w) K state)
  unfolding step_row new_row
  step_between limit K h = lies_between (degree G q limit) K h
