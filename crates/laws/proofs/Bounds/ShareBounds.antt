-- How far the working balls of a term reach at order k, where each factor of the orders 0 .. k reaches G at most: S and F, Q and f, v and g.
-- The terms of a target together are bounded by what they weigh.
use Prim.Native.Nat.{ℕ, zero, suc, ◌+◌, ◌*◌, ◌-◌, ◌≤◌}
use mathlib.Core.Bool.{Bool, true, false, cond}
use mathlib.Core.Path.{◌≡◌, refl}
use native.Mathlib.Nat.{le_refl, le_trans, mul-le-mul, mul-le-mul_left, mul-le-mul_right}
use native.Mathlib.Omega.{arith}
use lib.Dec.{eqb}
use lib.IntN.{ℤ, pos, nat_abs, ◌*ℤ◌}
use Rattle.rounding.specs.Rounding.{near, up}
use Rattle.ranges.specs.Range.{sum, sum_ℤ}
use Rattle.model.specs.Sheet.{scale}
use Rattle.model.specs.Step.{brings_ℤ, no_ball, reach, brings, Coefficients, coefficient, factor, product_radius, products, times, share}
use Rattle.model.specs.declared.Ball.{Ball}
use Rattle.model.specs.declared.Term.{Term}
use Rattle.laws.proofs.Bounds.Reach.{reach_rounded, reach_product, reach_times, reach_sums_bounded, scale_positive}
use Rattle.laws.proofs.Bounds.Weights.{weight, weighs}

-- ---- S and F of two factors, each of which reaches G at most: as far as they are summed up

unfoldable pub partial_products : Coefficients → ℕ → ℕ → ℕ → ℕ → Ball
partial_products table k first second m =
    record {
      value = sum_ℤ m (λ l. near ((factor table l first).value *ℤ (factor table (k - l) second).value) scale);
      radius = sum m (λ l. up (product_radius (factor table l first) (factor table (k - l) second)) scale + 1);
    }

-- each factor of the orders 0 .. k reaches G at most
abbrev pub FactorsReach : Coefficients → ℕ → ℕ → Type 0
FactorsReach table k G = (l : ℕ) → l ≤ k → (f : ℕ) → reach (factor table l f) ≤ G

absent_reach : (table : Coefficients) (k : ℕ) → reach (factor table k 0) ≤ scale
unfolding reach factor no_ball
absent_reach table zero = omega arith
absent_reach table (suc k) = omega arith

pub factor_reach : (table : Coefficients) (k : ℕ) {G : ℕ} → scale ≤ G → ((i : ℕ) → reach (coefficient table k i) ≤ G) → (f : ℕ) → reach (factor table k f) ≤ G
unfolding factor
factor_reach table k above h zero = le_trans (absent_reach table k) above
factor_reach table k above h (suc i) = h i

-- A reach x of m terms at order k, by what they weigh and by their |A|, each summed up: 2s³·x ≤ (k + 1)·(2 + 5 ÷ G)·h·weight + 5s²·coefs + 5s³·m,
-- times G.
pub record Weighed (G k h x weight coefs m : ℕ) : Type 0 where
  pub bound : 2 * (scale * scale * scale) * (G * x) ≤ suc k * ((2 * G + 5) * (h * weight)) + 5 * (scale * scale) * (G * coefs) + 5 * (scale * scale * scale) * (G * m)

pub brings_reach : (target : ℕ) (term : Term) (ball : Ball) → nat_abs (brings_ℤ target term ball.value) + brings target term ball.radius ≡ brings target term (reach ball)
unfolding brings_ℤ brings reach
brings_reach target term ball = go (eqb term.to target)
  where
    go : (b : Bool) → nat_abs (cond b ball.value (pos 0)) + cond b ball.radius 0 ≡ cond b (nat_abs ball.value + ball.radius) 0
    go true = refl
    go false = refl

module _ (table : Coefficients) (k : ℕ) {G : ℕ} (reaches : FactorsReach table k G) where
  product_bounded : (first second l : ℕ) → l ≤ k →
      2 * scale * (nat_abs (near ((factor table l first).value *ℤ (factor table (k - l) second).value) scale) + (up (product_radius (factor table l first) (factor table (k - l) second)) scale + 1)) ≤ 2 * (G * G) + 5 * scale
  product_bounded first second l h =
      omega (arith, reach_rounded (a.value *ℤ b.value) (product_radius a b) scale_positive, reach_product a b, mul-le-mul (reaches l h first) (reaches (k - l) (omega arith) second))
    where
      a : Ball
      a = factor table l first

      b : Ball
      b = factor table (k - l) second

  pub products_bounded : (first second m : ℕ) → m ≤ suc k → 2 * scale * reach (partial_products table k first second m) ≤ m * (2 * (G * G) + 5 * scale)
  unfolding reach partial_products
  products_bounded first second m h = reach_sums_bounded m _ _ (2 * scale) _ (λ l h'. product_bounded first second l (omega arith))

  -- the reach of S and F is at most (k + 1)·(1 + 5 ÷ 2G) times the scales of the factors, over s
  pub products_weighed : (first second : ℕ) → (first ≡ 0 → second ≡ 0) → scale ≤ G → 2 * scale * (G * reach (products table k first second)) ≤ suc k * ((2 * G + 5) * weight G first second)
  unfolding weight products partial_products
  products_weighed first second formed h = go first second formed
    where
      alone : (r w : ℕ) → scale * r ≤ w → 2 * scale * (G * r) ≤ suc k * ((2 * G + 5) * w)
      alone r w b = omega (arith, mul-le-mul_left (2 * G) b)

      both : (r : ℕ) → 2 * scale * r ≤ suc k * (2 * (G * G) + 5 * scale) → 2 * scale * (G * r) ≤ suc k * ((2 * G + 5) * (G * G))
      both r b = omega (arith, mul-le-mul_left G b, mul-le-mul_left (suc k) (mul-le-mul_right G h))

      go : (first second : ℕ) → (first ≡ 0 → second ≡ 0) → 2 * scale * (G * reach (products table k first second)) ≤ suc k * ((2 * G + 5) * weight G first second)
      go zero zero formed = alone _ _ (mul-le-mul_left scale (absent_reach table k))
      go zero (suc second) formed = absurd (omega (arith, formed refl))
      go (suc first) zero formed = alone _ _ (mul-le-mul_left scale (reaches k (le_refl k) (suc first)))
      go (suc first) (suc second) formed = both _ (products_bounded (suc first) (suc second) (suc k) (le_refl (suc k)))

  module _ (H : ℤ) (above : scale ≤ G) where
    -- |A| times the reach of Q and f
    pub carried_weighed : (term : Term) → (term.first ≡ 0 → term.second ≡ 0) →
        2 * (scale * scale) * (G * (nat_abs term.coef * reach (times H (products table k term.first term.second)))) ≤ suc k * ((2 * G + 5) * (nat_abs H * weighs G term)) + 5 * (scale * scale) * (G * nat_abs term.coef)
    unfolding weighs
    carried_weighed term formed =
        combine (nat_abs term.coef) (nat_abs H) _ _ _ (products_weighed term.first term.second formed above) (reach_times H _)
      where
        combine : (a h p c w : ℕ) → 2 * scale * (G * p) ≤ suc k * ((2 * G + 5) * w) → 2 * scale * c ≤ 2 * (h * p) + 5 * scale →
            2 * (scale * scale) * (G * (a * c)) ≤ suc k * ((2 * G + 5) * (h * (a * w))) + 5 * (scale * scale) * (G * a)
        combine a h p c w e f = omega (arith, mul-le-mul_left (h * a) e, mul-le-mul_left (scale * (G * a)) f)

    -- v and g
    share_weighed : (term : Term) → (term.first ≡ 0 → term.second ≡ 0) → Weighed G k (nat_abs H) (reach (share H table k term)) (weighs G term) (nat_abs term.coef) 1
    unfolding share
    share_weighed term formed = record { bound = combine _ _ _ (carried_weighed term formed) (reach_times term.coef _) }
      where
        combine : (v p z : ℕ) → 2 * (scale * scale) * (G * p) ≤ z → 2 * scale * v ≤ 2 * p + 5 * scale → 2 * (scale * scale * scale) * (G * v) ≤ z + 5 * (scale * scale * scale) * (G * 1)
        combine v p z e f = omega (arith, mul-le-mul_left (scale * scale * G) f)

    -- what it brings to a target
    brought_weighed : (target : ℕ) (term : Term) → (term.first ≡ 0 → term.second ≡ 0) →
        Weighed G k (nat_abs H) (brings target term (reach (share H table k term))) (brings target term (weighs G term)) (nat_abs term.coef) 1
    unfolding brings
    brought_weighed target term formed = go (eqb term.to target)
      where
        go : (b : Bool) → Weighed G k (nat_abs H) (cond b (reach (share H table k term)) 0) (cond b (weighs G term) 0) (nat_abs term.coef) 1
        go true = share_weighed term formed
        go false = record { bound = omega arith }

    pub shares_weighed : (term : ℕ → Term) → ((j : ℕ) → (term j).first ≡ 0 → (term j).second ≡ 0) → (target m : ℕ) →
        Weighed G k (nat_abs H) (sum m (λ j. brings target (term j) (reach (share H table k (term j))))) (sum m (λ j. brings target (term j) (weighs G (term j)))) (sum m (λ j. nat_abs (term j).coef)) m
    unfolding sum
    shares_weighed term formed target zero = record { bound = omega arith }
    shares_weighed term formed target (suc m) =
        record { bound = omega (arith, (shares_weighed term formed target m).bound, (brought_weighed target (term m) (formed m)).bound) }
