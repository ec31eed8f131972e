-- The factors of a table of coefficients: what it keeps of a quantity is the value, and the reach, of the factor there.
use Prim.Native.Nat.{ℕ, zero, suc, ◌-◌, ◌≤◌, ◌<◌}
use mathlib.Core.List.{[]}
use mathlib.Core.Logic.{⊎_elim}
use mathlib.Core.Path.{◌≡◌, sym}
use native.Mathlib.Numerals.{unary_clauses}
use native.Mathlib.Omega.{arith}
use lib.ListN.{get_or}
use Rattle.ranges.specs.Range.{tabulate}
use Rattle.model.specs.Sheet.{scale, most, most_quantities}
use Rattle.model.specs.Step.{no_ball, reach, coefficient, factor}
use Rattle.ranges.proofs.Ranges.{before_or_past, get_or_tabulate, get_or_tabulate_past}
use Rattle.laws.proofs.Bounds.ShareBounds.{FactorsReach}
use Rattle.products.specs.Orders.{kept}
use Rattle.products.specs.Table.{ball_at, table_in, Small, Reached, IsQuantity}
use Rattle.products.specs.declared.table.Table.{Table}

-- ---- coefficients

-- the |c| + e that is kept is the reach
pub reach_at : (table : Table) (order i : ℕ) → reach (ball_at table order i) ≡ (kept table.orders order i).reach
unfolding reach ball_at
reach_at table order i = omega (arith, table.covered order i)

module _ (k : ℕ) (table : Table) (order : ℕ) (h : order ≤ k) where
  row_in : get_or (table_in k table) order [] ≡ tabulate most_quantities (ball_at table order)
  unfolding table_in
  row_in = get_or_tabulate (suc k) (λ order. tabulate most_quantities (ball_at table order)) [] order (omega arith)

  pub coefficient_in : (i : ℕ) → i < most_quantities → coefficient (table_in k table) order i ≡ ball_at table order i
  unfolding coefficient
  coefficient_in i l = rw row_in (get_or_tabulate most_quantities (ball_at table order) no_ball i l)

  pub coefficient_past : (i : ℕ) → most_quantities ≤ i → coefficient (table_in k table) order i ≡ no_ball
  unfolding coefficient
  coefficient_past i l = rw row_in (get_or_tabulate_past most_quantities (ball_at table order) no_ball i l)

  pub factor_in : (number : ℕ) → IsQuantity number → factor (table_in k table) order number ≡ ball_at table order (number - 1)
  unfolding factor
  factor_in zero h = absurd (omega (arith, h.low))
  factor_in (suc i) h = simp unary_clauses (coefficient_in i (omega (arith, h.high)))

-- ---- a table of small reaches

module _ {k : ℕ} {table : Table} (small : Small k table) where
  coefficient_small : (order : ℕ) → order ≤ k → (i : ℕ) → reach (coefficient (table_in k table) order i) ≤ most
  unfolding reach no_ball
  coefficient_small order h i =
      ⊎_elim
      (λ (l : i < most_quantities). rw (coefficient_in k table order h i l) (small.small order i h l))
      (λ (l : most_quantities ≤ i). rw (coefficient_past k table order h i l) (omega arith))
      (before_or_past i most_quantities)

  pub factors_small : FactorsReach (table_in k table) k most
  unfolding factor reach no_ball scale most
  factors_small zero h zero = omega arith
  factors_small (suc order) h zero = omega arith
  factors_small order h (suc i) = coefficient_small order h i

  module _ (order : ℕ) (h : order ≤ k) (number : ℕ) (there : IsQuantity number) where
    pub value_in : (kept table.orders order (number - 1)).value ≡ (factor (table_in k table) order number).value
    unfolding ball_at
    value_in = rw (factor_in k table order h number there)

    pub reach_in : (kept table.orders order (number - 1)).reach ≡ reach (factor (table_in k table) order number)
    reach_in = rw (factor_in k table order h number there) (sym (reach_at table order (number - 1)))

    pub reached_at : Reached (kept table.orders order (number - 1))
    reached_at = record { covered = table.covered order (number - 1); small = rw reach_in (factors_small order h number) }
