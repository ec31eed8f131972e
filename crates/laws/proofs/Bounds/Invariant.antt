-- The invariant of a step, |c_k| + e_k ≤ G for every order k and every quantity, and after order 0 twice that is at most G + 2727. It rests on
-- the ratio's being at most a half.
use Prim.Native.Nat.{ℕ, zero, suc, ◌+◌, ◌*◌, ◌≤◌, ◌<◌}
use mathlib.Core.List.{List}
use mathlib.Core.Logic.{⊎_elim}
use mathlib.Core.Path.{◌≡◌}
use native.Mathlib.Nat.{le_refl, le_trans, mul-le-mul_left, le_of_mul-le-mul_left, le-max_left, le-max_right, max-le, le_of_eq, eq-or-lt_of_le}
use native.Mathlib.Decide.{dec_lt}
use native.Mathlib.Omega.{arith}
use lib.IntN.{ℤ, nat_abs}
use lib.ListN.{length, get_or, get_or-eq_default}
use Rattle.ranges.specs.Range.{sum, sum_ℤ}
use Rattle.model.specs.Sheet.{scale, most, no_term, most_terms}
use Rattle.model.specs.Step.{brings_ℤ, no_ball, reach, greatest, brings, Coefficients, coefficient, factor, share, next_coefficient, coefficients_to}
use Rattle.model.specs.declared.Ball.{Ball}
use Rattle.model.specs.Passage.{most_ratio}
use Rattle.laws.specs.Bounds.{total, most_total, InBounds}
use Rattle.model.specs.declared.Term.{Term}
use Rattle.ranges.proofs.Ranges.{sum_le, largest_bounded, largest_le, sum_partial}
use Rattle.laws.proofs.Steps.Tables.{coefficients_grow, factor_stays}
use Rattle.laws.proofs.Bounds.Reach.{reach_rounded, reach_sums}
use Rattle.laws.proofs.Bounds.ShareBounds.{FactorsReach, factor_reach, brings_reach, shares_weighed}
use Rattle.laws.proofs.Bounds.Weights.{weight_of, weight_by_ratio}

-- ---- G

pub scale_le_greatest : (balls : List Ball) → scale ≤ greatest balls
unfolding greatest
scale_le_greatest balls = le-max_left _ _

pub reach_le_greatest : (balls : List Ball) (i : ℕ) → reach (get_or balls i no_ball) ≤ greatest balls
unfolding greatest reach no_ball
reach_le_greatest balls i = go (dec_lt i (length balls))
  where
    go : Dec (i < length balls) → reach (get_or balls i no_ball) ≤ greatest balls
    go (yes l) = le_trans (largest_le (length balls) (λ j. reach (get_or balls j no_ball)) i l) (le-max_right _ _)
    go (no f) = rw (get_or-eq_default balls no_ball {n = i} (omega (arith, f))) (omega arith)

module _ {terms : List Term} {H : ℤ} {balls : List Ball} (bounds : InBounds terms H balls) where
  pub greatest_le_most : greatest balls ≤ most
  unfolding greatest most scale
  greatest_le_most = max-le (omega arith) (largest_bounded (length balls) _ _ bounds.small)

  -- the ratio is at most a half
  pub weight_halved : (i : ℕ) → i < length balls → 2 * (nat_abs H * weight_of terms (greatest balls) (suc i)) ≤ greatest balls * (scale * scale * scale)
  unfolding most_ratio scale
  weight_halved i h =
      combine (nat_abs H * weight_of terms (greatest balls) (suc i)) (greatest balls) _ (weight_by_ratio terms H (length balls) i (omega (arith, scale_le_greatest balls)) h) bounds.slow
    where
      combine : (w g q : ℕ) → w ≤ g * q * (scale * scale) → q ≤ most_ratio → 2 * w ≤ g * (scale * scale * scale)
      combine w g q e f = omega (arith, mul-le-mul_left g f)

  -- ---- the sums over a target's terms, as far as they are summed up, and the next coefficient

  module _ (table : Coefficients) (k : ℕ) (reaches : FactorsReach table k (greatest balls)) where
    pub shares_bounded : (i m : ℕ) → i < length balls → m ≤ length terms →
        4 * sum m (λ j. brings (suc i) (get_or terms j no_term) (reach (share H table k (get_or terms j no_term)))) ≤ suc k * (2 * greatest balls + 5) + 5440
    unfolding scale weight_of total most_total
    shares_bounded i m h l =
        combine (greatest balls) _ (nat_abs H * weight_of terms (greatest balls) (suc i)) _ _ (scale_le_greatest balls) (shares_weighed table k reaches H (scale_le_greatest balls) (λ j. get_or terms j no_term) bounds.sheet.formed (suc i) m).bound (mul-le-mul_left (nat_abs H) (sum_partial _ (length terms) l)) (weight_halved i h) (le_trans (sum_partial _ (length terms) l) bounds.sheet.summable.total) (le_trans l bounds.sheet.summable.count)
      where
        combine : (g x y t v : ℕ) → scale ≤ g → 2 * (scale * scale * scale) * (g * v) ≤ suc k * ((2 * g + 5) * x) + 5 * (scale * scale) * (g * t) + 5 * (scale * scale * scale) * (g * m) → x ≤ y → 2 * y ≤ g * (scale * scale * scale) → t ≤ most_total → m ≤ most_terms → 4 * v ≤ suc k * (2 * g + 5) + 5440
        combine g x y t v a e f p q r =
            le_of_mul-le-mul_left {k = g * (scale * scale * scale)} (omega (arith, e, mul-le-mul_left (suc k * (2 * g + 5)) f, mul-le-mul_left (suc k * (2 * g + 5)) p, mul-le-mul_left g q, mul-le-mul_left g r)) (omega (arith, a))

    pub brought_bounded : (i m : ℕ) → i < length balls → m ≤ length terms →
        4 * (nat_abs (sum_ℤ m (λ j. brings_ℤ (suc i) (get_or terms j no_term) (share H table k (get_or terms j no_term)).value)) + sum m (λ j. brings (suc i) (get_or terms j no_term) (share H table k (get_or terms j no_term)).radius)) ≤ suc k * (2 * greatest balls + 5) + 5440
    brought_bounded i m h l =
        le_trans (mul-le-mul_left 4 (le_trans (reach_sums m _ _) (sum_le m _ _ (λ j l'. le_of_eq (brings_reach (suc i) (get_or terms j no_term) (share H table k (get_or terms j no_term))))))) (shares_bounded i m h l)

    pub next_bounded : (i : ℕ) → i < length balls → 2 * reach (next_coefficient terms H table k i) ≤ greatest balls + 2727
    unfolding next_coefficient reach
    next_bounded i h =
        combine (greatest balls) _ _ (reach_rounded _ _ {d = suc k} (omega arith)) (brought_bounded i (length terms) h (le_refl (length terms)))
      where
        combine : (g x y : ℕ) → 2 * suc k * x ≤ 2 * y + 5 * suc k → 4 * y ≤ suc k * (2 * g + 5) + 5440 → 2 * x ≤ g + 2727
        combine g x y e f =
            let scaled : 4 * x ≤ 2 * g + 5455 = le_of_mul-le-mul_left {k = suc k} (omega (arith, e, f)) (omega arith) in
            omega (arith, scaled)

  -- ---- every order

  abbrev table : ℕ → Coefficients
  table = coefficients_to terms H balls

  order_zero_reach : (i : ℕ) → reach (coefficient (table 0) 0 i) ≤ greatest balls
  order_zero_reach i = rw ((coefficients_grow terms H balls).starts i) (reach_le_greatest balls i)

  order_suc_reach : (k : ℕ) → FactorsReach (table k) k (greatest balls) → (i : ℕ) → 2 * reach (coefficient (table (suc k)) (suc k) i) ≤ greatest balls + 2727
  unfolding reach no_ball
  order_suc_reach k reaches i = go (dec_lt i (length balls))
    where
      go : Dec (i < length balls) → 2 * reach (coefficient (table (suc k)) (suc k) i) ≤ greatest balls + 2727
      go (yes l) = rw ((coefficients_grow terms H balls).continues k i l) (next_bounded (table k) k reaches i l)
      go (no f) = rw ((coefficients_grow terms H balls).past (suc k) (suc k) i (le_refl (suc k)) (omega (arith, f))) (omega arith)

  one_order_more : (d : ℕ) → FactorsReach (table d) d (greatest balls) → FactorsReach (table (suc d)) (suc d) (greatest balls)
  unfolding scale
  one_order_more d reaches k h f = ⊎_elim last earlier (eq-or-lt_of_le {n = k} {m = suc d} h)
    where
      last : k ≡ suc d → reach (factor (table (suc d)) k f) ≤ greatest balls
      last e =
          rw e (factor_reach (table (suc d)) (suc d) (scale_le_greatest balls) (λ i. omega (arith, order_suc_reach d reaches i, scale_le_greatest balls)) f)

      earlier : k < suc d → reach (factor (table (suc d)) k f) ≤ greatest balls
      earlier l =
          rw (factor_stays terms H balls (suc d) k f h, ← factor_stays terms H balls d k f (omega arith)) (reaches k (omega arith) f)

  -- The invariant, of a factor, an absent one too ..
  pub factor_bounded : (d : ℕ) → FactorsReach (table d) d (greatest balls)
  factor_bounded zero zero h f = factor_reach (table 0) 0 (scale_le_greatest balls) order_zero_reach f
  factor_bounded zero (suc k) h f = absurd (omega arith)
  factor_bounded (suc d) k h f = one_order_more d (factor_bounded d) k h f

  -- .. and of a coefficient, and more after order 0
  pub coefficient_bounded : (d k : ℕ) → k ≤ d → (i : ℕ) → reach (coefficient (table d) k i) ≤ greatest balls
  unfolding factor
  coefficient_bounded d k h i = factor_bounded d k h (suc i)

  pub coefficient_halved : (d k : ℕ) → suc k ≤ d → (i : ℕ) → 2 * reach (coefficient (table d) (suc k) i) ≤ greatest balls + 2727
  coefficient_halved d k h i =
      rw ((coefficients_grow terms H balls).stays d (suc k) i h) (order_suc_reach k (factor_bounded k) i)
