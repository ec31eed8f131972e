-- A table that holds the coefficients of a step in bounds: its reaches are small, and factors and products over it are those of the
-- step's own table.
use Prim.Native.Nat.{ℕ, zero, suc, ◌+◌, ◌-◌, ◌≤◌, ◌<◌}
use mathlib.Core.List.{List}
use mathlib.Core.Logic.{⊎_elim}
use mathlib.Core.Path.{◌≡◌, refl, sym, ap, ap₂, ◌∙◌}
use native.Mathlib.Nat.{le_refl, le_trans}
use native.Mathlib.Omega.{arith}
use lib.IntN.{ℤ, ◌*ℤ◌}
use lib.ListN.{length, get_or}
use Rattle.rounding.specs.Rounding.{near, up}
use Rattle.model.specs.Sheet.{scale, most_quantities, no_term}
use Rattle.model.specs.Step.{Coefficients, brings, brings_ℤ, share, coefficient, factor, product_radius, products, coefficients_to}
use Rattle.model.specs.declared.Ball.{Ball}
use Rattle.model.specs.declared.Term.{Term}
use Rattle.ranges.proofs.Ranges.{before_or_past, sum_equal, sum_ℤ_equal, length_tabulate}
use Rattle.laws.proofs.Steps.Tables.{coefficients_grow, ball_equal}
use Rattle.laws.specs.Bounds.{InBounds}
use Rattle.laws.proofs.Bounds.Invariant.{greatest_le_most, coefficient_bounded}
use Rattle.products.specs.Table.{ball_at, table_in, Small}
use Rattle.products.specs.declared.table.Table.{Table}
use Rattle.coefficients.specs.Orders.{start_in, sums_to, Filled}
use Rattle.products.proofs.Factors.{coefficient_in, coefficient_past}

pub length_start : (n : ℕ) (table : Table) → length (start_in n table) ≡ n
unfolding start_in
length_start n table = length_tabulate n (ball_at table 0)

-- S and F rest on the factors of the orders 0 .. k alone
products_equal : (table other : Coefficients) (k : ℕ) → ((order : ℕ) → order ≤ k → (number : ℕ) → factor table order number ≡ factor other order number) →
    (first second : ℕ) → products table k first second ≡ products other k first second
unfolding products
products_equal table other k same first zero = same k (le_refl k) first
products_equal table other k same first (suc second) =
    ball_equal
    (sum_ℤ_equal (suc k) _ _ (λ l h. ap₂ (λ (a b : Ball). near (a.value *ℤ b.value) scale) (same l (omega arith) first) (same (k - l) (omega arith) (suc second))))
    (sum_equal (suc k) _ _ (λ l h. ap₂ (λ (a b : Ball). up (product_radius a b) scale + 1) (same l (omega arith) first) (same (k - l) (omega arith) (suc second))))

module _ {terms : List Term} {H : ℤ} {n k : ℕ} {table : Table} (filled : Filled terms H n k table) where
  pub filled_small : InBounds terms H (start_in n table) → Small k table
  filled_small bounds =
      record {
        small = λ order i h l. rw (filled.entries order i h l) (le_trans (coefficient_bounded bounds k order h i) (greatest_le_most bounds));
      }

  module _ (room : n ≤ most_quantities) where
    pub coefficient_filled : (order : ℕ) → order ≤ k → (i : ℕ) → coefficient (table_in k table) order i ≡ coefficient (coefficients_to terms H (start_in n table) k) order i
    coefficient_filled order h i =
        ⊎_elim
        (λ (l : i < most_quantities). coefficient_in k table order h i l ∙ filled.entries order i h l)
        (λ (l : most_quantities ≤ i). coefficient_past k table order h i l ∙ sym ((coefficients_grow terms H (start_in n table)).past k order i h (rw (length_start n table) (le_trans room l))))
        (before_or_past i most_quantities)

    factor_filled : (order : ℕ) → order ≤ k → (number : ℕ) → factor (table_in k table) order number ≡ factor (coefficients_to terms H (start_in n table) k) order number
    unfolding factor
    factor_filled zero h zero = refl
    factor_filled (suc order) h zero = refl
    factor_filled order h (suc i) = coefficient_filled order h i

    pub products_filled : (first second : ℕ) → products (table_in k table) k first second ≡ products (coefficients_to terms H (start_in n table) k) k first second
    products_filled = products_equal (table_in k table) (coefficients_to terms H (start_in n table) k) k factor_filled

    pub share_filled : (term : Term) → share H (table_in k table) k term ≡ share H (coefficients_to terms H (start_in n table) k) k term
    unfolding share
    share_filled term = rw (products_filled term.first term.second)

    -- the sums over the table are those over the step's own
    pub sums_filled : (m i : ℕ) → sums_to terms H (table_in k table) k m i ≡ sums_to terms H (coefficients_to terms H (start_in n table) k) k m i
    unfolding sums_to
    sums_filled m i =
        ball_equal
        (sum_ℤ_equal m _ _ (λ j h. ap (λ (ball : Ball). brings_ℤ (suc i) (get_or terms j no_term) ball.value) (share_filled (get_or terms j no_term))))
        (sum_equal m _ _ (λ j h. ap (λ (ball : Ball). brings (suc i) (get_or terms j no_term) ball.radius) (share_filled (get_or terms j no_term))))
