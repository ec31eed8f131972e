-- One turn of a convolution: what is read at the two places, and the sums with one product more.
use Prim.Native.Nat.{ℕ, zero, suc, ◌+◌, ◌-◌, ◌*◌, ◌^◌, ◌≤◌, ◌<◌}
use mathlib.Core.Path.{◌≡◌, refl, ap, ap₂, ◌∙◌}
use native.Mathlib.Nat.{le_refl}
use native.Mathlib.Omega.{arith}
use lib.IntN.{ℤ, pos, nat_abs, ◌+ℤ◌, ◌*ℤ◌}
use Rattle.rounding.specs.Rounding.{near, up}
use Rattle.ranges.specs.Range as range
use Rattle.model.specs.Sheet.{scale, most}
use Rattle.model.specs.Step.{Coefficients, most_degree, reach, factor, product_radius, products}
use Rattle.model.specs.declared.Ball.{Ball}
use Rattle.laws.proofs.Bounds.Reach.{reach_product}
use Rattle.laws.proofs.Bounds.ShareBounds.{partial_products}
use Rattle.laws.proofs.Bounds.WorkingNumbers.{products_fit}
use Rattle.products.specs.Orders.{kept}
use Rattle.products.specs.declared.table.Coefficient.{Coefficient}
use Rattle.products.specs.declared.table.Table.{Table}
use Rattle.products.specs.Table.{table_in, Small, Reached, IsQuantity}
use Rattle.products.proofs.Factors.{factors_small, value_in, reach_in, reached_at}
use Rattle.laws.proofs.Steps.Tables.{ball_equal}

pub no_products : (table : Coefficients) (k first second : ℕ) → ◌≡◌ {A = Ball} (record { value = pos 0; radius = 0 }) (partial_products table k first second 0)
unfolding partial_products range.sum range.sum_ℤ
no_products table k first second = refl

pub all_products : (table : Coefficients) (k first second : ℕ) → 1 ≤ second → partial_products table k first second (suc k) ≡ products table k first second
unfolding partial_products products
all_products table k first zero h = absurd (omega arith)
all_products table k first (suc second) h = refl

module _ {k : ℕ} {table : Table} (small : Small k table) (first second : ℕ) where
  pub sum_fits : (l : ℕ) → l ≤ suc k → k < most_degree → {sum : Ball} → sum ≡ partial_products (table_in k table) k first second l → reach sum ≤ 2 ^ 40
  sum_fits l h order e =
      rw e (omega (arith, products_fit (table_in k table) k (factors_small small) (le_refl most) first second l h order))

  module _ (in-first : IsQuantity first) (in-second : IsQuantity second) (l : ℕ) (h : l ≤ k) where
    -- what the table keeps of the two factors
    a : Coefficient
    a = kept table.orders l (first - 1)

    b : Coefficient
    b = kept table.orders (k - l) (second - 1)

    pub first_reached : Reached (kept table.orders l (first - 1))
    first_reached = reached_at small l h first in-first

    pub second_reached : Reached (kept table.orders (k - l) (second - 1))
    second_reached = reached_at small (k - l) (omega arith) second in-second

    product_kept : a.value *ℤ b.value ≡ (factor (table_in k table) l first).value *ℤ (factor (table_in k table) (k - l) second).value
    unfolding a b
    product_kept = ap₂ ◌*ℤ◌ (value_in small l h first in-first) (value_in small (k - l) (omega arith) second in-second)

    radius_kept : a.reach * b.reach - nat_abs (a.value *ℤ b.value) ≡ product_radius (factor (table_in k table) l first) (factor (table_in k table) (k - l) second)
    unfolding a b
    radius_kept =
        rw (product_kept, reach_in small l h first in-first, reach_in small (k - l) (omega arith) second in-second) (omega (arith, reach_product (factor (table_in k table) l first) (factor (table_in k table) (k - l) second)))

    pub one_product_more : {sum next : Ball} → sum ≡ partial_products (table_in k table) k first second l →
        next.value ≡ sum.value +ℤ near ((kept table.orders l (first - 1)).value *ℤ (kept table.orders (k - l) (second - 1)).value) scale →
        next.radius ≡ sum.radius + (up ((kept table.orders l (first - 1)).reach * (kept table.orders (k - l) (second - 1)).reach - nat_abs ((kept table.orders l (first - 1)).value *ℤ (kept table.orders (k - l) (second - 1)).value)) scale + 1) →
        next ≡ partial_products (table_in k table) k first second (suc l)
    unfolding partial_products range.sum range.sum_ℤ a b
    one_product_more e p q =
        ball_equal (p ∙ ap₂ ◌+ℤ◌ (ap (λ (ball : Ball). ball.value) e) (ap (λ (z : ℤ). near z scale) product_kept)) (q ∙ ap₂ (λ (m n : ℕ). m + (up n scale + 1)) (ap (λ (ball : Ball). ball.radius) e) radius_kept)
