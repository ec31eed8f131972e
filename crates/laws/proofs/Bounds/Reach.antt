-- How far a ball reaches, |value| + radius, through a rounding, a factor, a product and a sum. Of `near` only that twice its distance is
-- at most the divisor is used.
use Prim.Native.Nat.{ℕ, zero, suc, ◌+◌, ◌*◌, ◌-◌, ◌≤◌, ◌<◌}
use mathlib.Core.Path.{◌≡◌, ap, ◌∙◌}
use native.Mathlib.Nat.{le_trans, mul-le-mul_left, div-mul-le_self}
use native.Mathlib.Omega.{arith}
use lib.IntN.{ℤ, pos, nat_abs, ◌-ℤ◌, ◌*ℤ◌}
use Rattle.rounding.specs.Rounding.{near, up}
use Rattle.rounding.specs.RoundingMeans.{distance}
use Rattle.rounding.proofs.Integers.{minus_plus, abs_mul, abs_add, abs_sub_comm}
use Rattle.rounding.proofs.Roundings.{near_is_near}
use Rattle.ranges.specs.Range.{sum, sum_ℤ}
use Rattle.model.specs.Sheet.{scale}
use Rattle.ranges.proofs.Ranges.{sum_le, sum_constant, sum_factor}
use Rattle.model.specs.Step.{reach, product_radius, times}
use Rattle.model.specs.declared.Ball.{Ball}

-- ---- a rounding

pub up_close : (e : ℕ) {d : ℕ} → 0 < d → up e d * d + 1 ≤ e + d
unfolding up
up_close e {d} h = omega (arith, div-mul-le_self (e + (d - 1)) d)

pub near_close : (c : ℤ) {d : ℕ} → 0 < d → 2 * (nat_abs (near c d) * d) ≤ 2 * nat_abs c + d
unfolding distance
near_close c {d} h =
    omega (arith, (near_is_near c h).within_half, abs_sub_comm x c, abs_mul (near c d) (pos d), ap nat_abs (minus_plus x c), abs_add (x -ℤ c) c)
  where
    x : ℤ
    x = near c d *ℤ pos d

-- rounding by d adds at most 5/2 to the reach ÷ d
pub reach_rounded : (c : ℤ) (e : ℕ) {d : ℕ} → 0 < d → 2 * d * (nat_abs (near c d) + (up e d + 1)) ≤ 2 * (nat_abs c + e) + 5 * d
reach_rounded c e {d} h = omega (arith, near_close c h, up_close e h)

-- ---- a product and a factor

-- what lets |c|×e' + |c'|×e + e×e' be worked out as the product of the reaches less |c×c'|
pub reach_product : (a b : Ball) → nat_abs (a.value *ℤ b.value) + product_radius a b ≡ reach a * reach b
unfolding reach product_radius
reach_product a b =
    ap (λ (n : ℕ). n + product_radius a b) (abs_mul a.value b.value) ∙ expand (nat_abs a.value) a.radius (nat_abs b.value) b.radius
  where
    expand : (c e c' e' : ℕ) → c * c' + (c * e' + c' * e + e * e') ≡ (c + e) * (c' + e')
    expand c e c' e' = omega arith

pub scale_positive : 0 < scale
unfolding scale
scale_positive = omega arith

pub reach_times : (a : ℤ) (ball : Ball) → 2 * scale * reach (times a ball) ≤ 2 * (nat_abs a * reach ball) + 5 * scale
unfolding reach times
reach_times a ball =
    omega (arith, reach_rounded (a *ℤ ball.value) (nat_abs a * ball.radius) scale_positive, abs_mul a ball.value)

-- ---- sums

pub reach_sums : (n : ℕ) (c : ℕ → ℤ) (e : ℕ → ℕ) → nat_abs (sum_ℤ n c) + sum n e ≤ sum n (λ k. nat_abs (c k) + e k)
unfolding sum sum_ℤ
reach_sums zero c e = omega arith
reach_sums (suc n) c e = omega (arith, reach_sums n c e, abs_add (sum_ℤ n c) (c n))

-- where no summand reaches past b ÷ d
pub reach_sums_bounded : (n : ℕ) (c : ℕ → ℤ) (e : ℕ → ℕ) (d b : ℕ) → ((k : ℕ) → k < n → d * (nat_abs (c k) + e k) ≤ b) → d * (nat_abs (sum_ℤ n c) + sum n e) ≤ n * b
reach_sums_bounded n c e d b h =
    le_trans (mul-le-mul_left d (reach_sums n c e)) (rw (sum_factor n d (λ k. nat_abs (c k) + e k), ← sum_constant n b) (sum_le n _ _ h))
