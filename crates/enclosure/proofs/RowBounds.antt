-- The sharp bound on a row. The ratio is at most a half, so that |c_k| is at most G ÷ 2^k but for its radius, and a new value at most twice G but for its
-- own. It rests on the exact sum from the values themselves.
use Prim.Native.Nat.{ℕ, zero, suc, ◌+◌, ◌*◌, ◌^◌, ◌≤◌, ◌<◌}
use mathlib.Core.Bool.{true}
use mathlib.Core.List.{List}
use mathlib.Core.Path.{◌≡◌, ap, ◌∙◌}
use native.Mathlib.Nat.{le_refl, pow-zero, pow-suc, two-pow-succ, one-le-pow, mul-le-mul, mul-le-mul_left, le_of_mul-le-mul_left, le_of_mul-le-mul_right}
use native.Mathlib.Omega.{arith}
use lib.IntN.{ℤ, pos, nat_abs, ◌-ℤ◌, ◌*ℤ◌}
use lib.ListN.{length, get_or}
use lib.Pow.{pow_pos}
use Rattle.rounding.specs.Enclosure.{Within}
use Rattle.rounding.proofs.Integers.{ringℕ, abs_mul, abs_add, abs_sub_le, abs_sub_comm, minus_plus}
use Rattle.ranges.specs.Range.{sum}
use Rattle.model.specs.Sheet.{scale}
use Rattle.model.specs.Step.{no_ball, no_span, reach, greatest, ratio, tail_at, degree, Coefficients, coefficient, coefficients_to, Row, new_ball, step_reach, new_span, new_row, step_row}
use Rattle.model.specs.declared.Ball.{Ball}
use Rattle.model.specs.Passage.{slow}
use Rattle.model.specs.declared.Term.{Term}
use Rattle.enclosure.proofs.Coefficients.{summand_enclosed}
use Rattle.enclosure.proofs.Enclosed.{denominator_positive, at_most_half, order_under}
use Rattle.enclosure.proofs.ExactStates.{state_of_values, values_lie_within}
use Rattle.laws.proofs.Bounds.Invariant.{reach_le_greatest}
use Rattle.enclosure.proofs.Majorant.{WellFormed}
use Rattle.ranges.proofs.Ranges.{sum_suc, sum_plus, sum_first, abs_sum_ℤ_le, get_or_tabulate}
use Rattle.laws.proofs.Bounds.Reach.{scale_positive}
use Rattle.laws.proofs.Steps.Tables.{coefficients_grow}
use Rattle.enclosure.proofs.Tail.{summand}

powers_halve : (q : ℕ) {s : ℕ} → 2 * q ≤ s → (k : ℕ) → 2 ^ k * q ^ k ≤ s ^ k
powers_halve q {s} h zero = rw (pow-zero q, pow-zero s) (le_refl 1)
powers_halve q {s} h (suc k) = rw (pow-suc 2 k, pow-suc q k, pow-suc s k, regrouped (2 ^ k) (q ^ k) 2 q) (mul-le-mul (powers_halve q h k) h)
  where
    regrouped : (a b c d : ℕ) → a * c * (b * d) ≡ a * b * (c * d)
    regrouped a b c d = simp ringℕ

-- u ÷ m within e of c, and at most g·(q ÷ s), where q ÷ s is at most 1 ÷ p
centre_under : {u : ℤ} {m : ℕ} {c : ℤ} {e : ℕ} (g p q s : ℕ) → 0 < m → 0 < s → Within u m c e → nat_abs u * s ≤ g * q * m → p * q ≤ s → nat_abs c * p ≤ g + e * p
centre_under {u} {m} {c} {e} g p q s positive some w under slow =
    le_of_mul-le-mul_right {k = m} (omega (arith, mul-le-mul_left p centre, cancelled)) positive
  where
    centre : nat_abs c * m ≤ nat_abs u + e * m
    centre = omega (arith, ap nat_abs (minus_plus (c *ℤ pos m) u), abs_add (c *ℤ pos m -ℤ u) u, abs_sub_comm u (c *ℤ pos m), abs_mul c (pos m), w.off)

    cancelled : p * nat_abs u ≤ g * m
    cancelled = le_of_mul-le-mul_right {k = s} (omega (arith, mul-le-mul_left p under, mul-le-mul_left (g * m) slow)) some

-- where each order halves its bound, all after the first are at most g, but for their radii
sums_halve : (g : ℕ) (c e : ℕ → ℕ) (d : ℕ) → ((k : ℕ) → k ≤ d → c k * 2 ^ k ≤ g + e k * 2 ^ k) → sum (suc d) c + e 0 ≤ c 0 + g + sum (suc d) e
sums_halve g c e d each = le_of_mul-le-mul_left {k = 2 ^ d} (omega (arith, turns d (le_refl d))) (pow_pos d)
  where
    turns : (m : ℕ) → m ≤ d → 2 ^ m * (sum (suc m) c + e 0) + g ≤ 2 ^ m * (c 0 + g + sum (suc m) e)
    turns zero h = unfold sum in omega arith
    turns (suc m) h = rw (sum_suc (suc m) c, sum_suc (suc m) e, two-pow-succ m) (omega (arith, turns m (omega arith), rw (two-pow-succ m) at (each (suc m) h)))

-- the low and the high of a quantity are at most twice G and twice its radius
abbrev pub Spread : ℕ → Row → ℕ → Type 0
Spread G row i =
    let most = 2 * G + 2 * (get_or row.balls i no_ball).radius in
    (nat_abs (get_or row.spans i no_span).low ≤ most) × (nat_abs (get_or row.spans i no_span).high ≤ most)

module _ (terms : List Term) (formed : WellFormed terms) (H : ℤ) (balls : List Ball) (slowly : slow terms H balls ≡ true) (i : ℕ) where
  abbrev G : ℕ
  G = greatest balls

  abbrev table : ℕ → Coefficients
  table = coefficients_to terms H balls

  -- |c_k| ≤ G ÷ 2^k + e_k
  pub coefficient_sharp : (d k : ℕ) → k ≤ d → nat_abs (coefficient (table d) k i).value * 2 ^ k ≤ G + (coefficient (table d) k i).radius * 2 ^ k
  unfolding summand
  coefficient_sharp d k h =
      let state = state_of_values balls in
      let start = values_lie_within balls in
      let q = ratio terms H (length balls) G in
      centre_under G (2 ^ k) (q ^ k) (scale ^ k) (denominator_positive state.denominator scale k start.rational scale_positive) (one-le-pow k scale scale_positive) (summand_enclosed terms H balls state start d k i h) (order_under terms formed H balls slowly state start H scale scale_positive (le_refl (nat_abs H * scale)) k i) (powers_halve q (at_most_half terms H balls slowly) k)

  starts_are : (d : ℕ) → coefficient (table d) 0 i ≡ get_or balls i no_ball
  starts_are d = (coefficients_grow terms H balls).stays d 0 i (omega arith) ∙ (coefficients_grow terms H balls).starts i

  -- all of them: the orders after the first are at most G, but for their radii
  pub orders_sharp : (d : ℕ) → sum (suc d) (λ k. nat_abs (coefficient (table d) k i).value) + (get_or balls i no_ball).radius ≤ nat_abs (get_or balls i no_ball).value + G + sum (suc d) (λ k. (coefficient (table d) k i).radius)
  orders_sharp d =
      rw (starts_are d) at (sums_halve G (λ k. nat_abs (coefficient (table d) k i).value) (λ k. (coefficient (table d) k i).radius) d (λ k h. coefficient_sharp d k h))

  pub value_sharp : (d tail : ℕ) → nat_abs (new_ball (table d) d tail i).value + 2 * (get_or balls i no_ball).radius + tail ≤ 2 * G + (new_ball (table d) d tail i).radius
  unfolding new_ball reach
  value_sharp d tail = omega (arith, abs_sum_ℤ_le (suc d) (λ k. (coefficient (table d) k i).value), orders_sharp d, reach_le_greatest balls i)

  -- the reach of the step, and the low and the high that it leads to
  reach_sharp : (d tail : ℕ) → step_reach (table d) d tail i + (get_or balls i no_ball).radius + tail ≤ G + 2 * (new_ball (table d) d tail i).radius
  unfolding step_reach new_ball reach
  reach_sharp d tail =
      omega (arith, orders_sharp d, ap (λ (ball : Ball). nat_abs ball.value) (starts_are d), ap (λ (ball : Ball). ball.radius) (starts_are d), sum_first d (λ k. nat_abs (coefficient (table d) k i).value), sum_first d (λ k. (coefficient (table d) k i).radius), sum_plus d (λ k. nat_abs (coefficient (table d) (suc k) i).value) (λ k. (coefficient (table d) (suc k) i).radius))

  span_sharp : (d tail : ℕ) → (nat_abs (new_span (table d) d tail i).low ≤ 2 * G + 2 * (new_ball (table d) d tail i).radius) × (nat_abs (new_span (table d) d tail i).high ≤ 2 * G + 2 * (new_ball (table d) d tail i).radius)
  unfolding new_span reach
  span_sharp d tail =
      let start = (coefficient (table d) 0 i).value in
      let reach = step_reach (table d) d tail i in
      (omega (arith, abs_sub_le start (pos reach), ap (λ (ball : Ball). nat_abs ball.value) (starts_are d), reach_sharp d tail, reach_le_greatest balls i), omega (arith, abs_add start (pos reach), ap (λ (ball : Ball). nat_abs ball.value) (starts_are d), reach_sharp d tail, reach_le_greatest balls i))

  pub row_sharp : (limit : ℕ) → i < length balls → nat_abs (get_or (step_row terms H limit balls).balls i no_ball).value ≤ 2 * G + (get_or (step_row terms H limit balls).balls i no_ball).radius
  unfolding step_row new_row
  row_sharp limit h =
      let q = ratio terms H (length balls) G in
      let d = degree G q limit in
      rw (get_or_tabulate (length balls) (new_ball (table d) d (tail_at G q d)) no_ball i h) (omega (arith, value_sharp d (tail_at G q d)))

  pub spans_sharp : (limit : ℕ) → i < length balls → Spread G (step_row terms H limit balls) i
  unfolding step_row new_row
  spans_sharp limit h =
      let q = ratio terms H (length balls) G in
      let d = degree G q limit in
      rw (get_or_tabulate (length balls) (new_span (table d) d (tail_at G q d)) no_span i h, get_or_tabulate (length balls) (new_ball (table d) d (tail_at G q d)) no_ball i h) (span_sharp d (tail_at G q d))
