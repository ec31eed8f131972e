-- No working number of a step leaves 64 bits: each product, each sum as far as it is summed up, each number that is rounded. A bound on a
-- reach is one on the value and on the radius.
use Prim.Native.Nat.{ℕ, zero, suc, ◌+◌, ◌*◌, ◌-◌, ◌^◌, ◌≤◌, ◌<◌}
use mathlib.Core.List.{List}
use mathlib.Core.Path.{◌≡◌, refl}
use native.Mathlib.Nat.{one-mul, le_refl, le_trans, mul-le-mul, mul-le-mul_left, le_of_mul-le-mul_left}
use native.Mathlib.Omega.{arith}
use borrow.Author.Tests.{eq-eqb}
use lib.IntN.{ℤ, nat_abs, ◌*ℤ◌}
use lib.ListN.{length, get_or}
use Rattle.ranges.specs.Range.{sum, sum_ℤ}
use Rattle.model.specs.Sheet.{scale, most, no_term}
use Rattle.model.specs.Step.{brings_ℤ, most_degree, reach, greatest, brings, Coefficients, coefficient, factor, product_radius, products, times, share}
use Rattle.model.specs.declared.Ball.{Ball}
use Rattle.laws.specs.Bounds.{total, most_total, InBounds}
use Rattle.model.specs.declared.Term.{Term}
use Rattle.laws.proofs.Bounds.Reach.{reach_product, reach_times, reach_sums_bounded}
use Rattle.laws.proofs.Bounds.Weights.{weighs, weight_of}
use Rattle.laws.proofs.Bounds.ShareBounds.{FactorsReach, partial_products, products_bounded, carried_weighed}
use Rattle.laws.proofs.Bounds.Invariant.{weight_halved, scale_le_greatest, greatest_le_most, brought_bounded}
use Rattle.ranges.proofs.Ranges.{summand_le}

pub value_le_reach : (ball : Ball) → nat_abs ball.value ≤ reach ball
unfolding reach
value_le_reach ball = omega arith

pub radius_le_reach : (ball : Ball) → ball.radius ≤ reach ball
unfolding reach
radius_le_reach ball = omega arith

-- ---- two factors

pub reaches_fit : {a b : ℕ} → a ≤ most → b ≤ most → a * b ≤ 2 ^ 58
unfolding most
reaches_fit h l = mul-le-mul h l

module _ (table : Coefficients) (k : ℕ) {G : ℕ} (reaches : FactorsReach table k G) (small : G ≤ most) where
  -- |c×c'|, and what is rounded up for F, together
  pub product_fits : (first second l : ℕ) → l ≤ k → nat_abs ((factor table l first).value *ℤ (factor table (k - l) second).value) + product_radius (factor table l first) (factor table (k - l) second) ≤ 2 ^ 58
  product_fits first second l h =
      rw (reach_product (factor table l first) (factor table (k - l) second)) (reaches_fit (le_trans (reaches l h first) small) (le_trans (reaches (k - l) (omega arith) second) small))

  -- S and F, as far as they are summed up
  pub products_fit : (first second m : ℕ) → m ≤ suc k → k < most_degree → reach (partial_products table k first second m) ≤ most_degree * (2 ^ 34 + 3)
  unfolding scale most
  products_fit first second m h l =
      omega (arith, products_bounded table k reaches first second m h, mul-le-mul (le_trans h l) (summand (G * G) (mul-le-mul small small)))
    where
      summand : (g : ℕ) → g ≤ most * most → 2 * g + 5 * scale ≤ 2 * 2 ^ 58 + 5 * scale
      summand g h = omega (arith, h)

  -- and so with fewer factors
  pub products_reach : (first second : ℕ) → k < most_degree → reach (products table k first second) ≤ most_degree * (2 ^ 34 + 3)
  unfolding most products partial_products
  products_reach first zero l = omega (arith, reaches k (le_refl k) first)
  products_reach first (suc second) l = products_fit first (suc second) (suc k) (le_refl (suc k)) l

brings_own : {target : ℕ} (term : Term) (x : ℕ) → term.to ≡ target → brings target term x ≡ x
unfolding brings
brings_own {target} term x e = rw (eq-eqb term.to target e)

-- ---- H, A, and the sums over a target's terms

module _ {terms : List Term} {H : ℤ} {balls : List Ball} (bounds : InBounds terms H balls) (table : Coefficients) (k : ℕ) (reaches : FactorsReach table k (greatest balls)) (order : k < most_degree) where
  -- |H×S| and |H|×F
  pub step_product_fits : (first second : ℕ) → nat_abs H * reach (products table k first second) < 2 ^ 63
  unfolding scale
  step_product_fits first second =
      omega (arith, mul-le-mul bounds.sheet.step (products_reach table k reaches (greatest_le_most bounds) first second order))

  -- Q and f
  pub carried_reach : (first second : ℕ) → reach (times H (products table k first second)) < 2 ^ 40
  unfolding scale
  carried_reach first second =
      omega (arith, reach_times H (products table k first second), mul-le-mul bounds.sheet.step (products_reach table k reaches (greatest_le_most bounds) first second order))

  -- a term weighs no more than all terms of its target
  term_halved : (j : ℕ) → j < length terms → 2 * (nat_abs H * weighs (greatest balls) (get_or terms j no_term)) ≤ greatest balls * (scale * scale * scale)
  unfolding weight_of
  term_halved j h = go (get_or terms j no_term).to refl (bounds.sheet.to_low j h) (bounds.sheet.to_high j h)
    where
      go : (to : ℕ) → (get_or terms j no_term).to ≡ to → 1 ≤ to → to ≤ length balls → 2 * (nat_abs H * weighs (greatest balls) (get_or terms j no_term)) ≤ greatest balls * (scale * scale * scale)
      go zero e low high = absurd (omega arith)
      go (suc i) e low high =
          let own : weighs (greatest balls) (get_or terms j no_term) ≤ weight_of terms (greatest balls) (suc i) =
          rw (brings_own (get_or terms j no_term) (weighs (greatest balls) (get_or terms j no_term)) e) at (summand_le (λ l. brings (suc i) (get_or terms l no_term) (weighs (greatest balls) (get_or terms l no_term))) (length terms) h) in
          le_trans (mul-le-mul_left 2 (mul-le-mul_left (nat_abs H) own)) (weight_halved bounds i high)

  -- |A×Q| and |A|×f, by the ratio and not by the range of A
  pub term_product_fits : (j : ℕ) → j < length terms → nat_abs (get_or terms j no_term).coef * reach (times H (products table k (get_or terms j no_term).first (get_or terms j no_term).second)) < 2 ^ 57
  unfolding scale most total most_total
  term_product_fits j h =
      combine (nat_abs (get_or terms j no_term).coef) _ _ (greatest balls) (carried_weighed table k reaches H (scale_le_greatest balls) (get_or terms j no_term) (bounds.sheet.formed j)) (term_halved j h) (scale_le_greatest balls) (greatest_le_most bounds) (le_trans (summand_le (λ l. nat_abs (get_or terms l no_term).coef) (length terms) h) bounds.sheet.summable.total)
    where
      combine : (a c w g : ℕ) → 2 * (scale * scale) * (g * (a * c)) ≤ suc k * ((2 * g + 5) * w) + 5 * (scale * scale) * (g * a) → 2 * w ≤ g * (scale * scale * scale) → scale ≤ g → g ≤ most → a ≤ most_total → a * c < 2 ^ 57
      combine a c w g e f low high total =
          let scaled : 4 * (a * c) ≤ suc k * (2 * g + 5) * scale + 10 * a =
          le_of_mul-le-mul_left {k = g * (scale * scale)} (omega (arith, e, mul-le-mul_left (suc k * (2 * g + 5)) f)) (omega (arith, low)) in
          let top : 2 * g + 5 ≤ 2 * most + 5 = omega (arith, high) in
          omega (arith, scaled, mul-le-mul {n₁ = suc k} {m₁ = 2 * g + 5} order top, total)

  -- v and g
  pub share_reach : (j : ℕ) → j < length terms → reach (share H table k (get_or terms j no_term)) < 2 ^ 34
  unfolding scale share
  share_reach j h = omega (arith, term_product_fits j h, reach_times (get_or terms j no_term).coef (times H (products table k (get_or terms j no_term).first (get_or terms j no_term).second)))

  -- the sums of v and of g, as far as they are summed up
  pub brought_fits : (i m : ℕ) → i < length balls → m ≤ length terms →
      nat_abs (sum_ℤ m (λ j. brings_ℤ (suc i) (get_or terms j no_term) (share H table k (get_or terms j no_term)).value)) + sum m (λ j. brings (suc i) (get_or terms j no_term) (share H table k (get_or terms j no_term)).radius) < 2 ^ 34
  unfolding most
  brought_fits i m h l =
      let top : 2 * greatest balls + 5 ≤ 2 * most + 5 = omega (arith, greatest_le_most bounds) in
      omega (arith, brought_bounded bounds table k reaches i m h l, mul-le-mul {n₁ = suc k} {m₁ = 2 * greatest balls + 5} order top)

-- ---- the new row

-- the sums of c and of e of a table whose coefficients reach G at most, as far as they are summed up
pub order_sums_bounded : (table : Coefficients) (i m : ℕ) {G : ℕ} → ((k : ℕ) → k < m → reach (coefficient table k i) ≤ G) →
    nat_abs (sum_ℤ m (λ k. (coefficient table k i).value)) + sum m (λ k. (coefficient table k i).radius) ≤ m * G
unfolding reach
order_sums_bounded table i m {G} h =
    rw one-mul at (reach_sums_bounded m (λ k. (coefficient table k i).value) (λ k. (coefficient table k i).radius) 1 G (λ k l. rw one-mul (h k l)))
