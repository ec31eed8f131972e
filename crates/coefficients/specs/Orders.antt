-- The orders of a step in a table of coefficients, and what the functions that fill it ask of it.
use Rattle.std.specs.Prelude.{ℕ, suc, ◌+◌, ◌-◌, ◌^◌, ◌≤◌, ◌<◌, List, ◌≡◌, ℤ, length, get_or}
use Rattle.rounding.specs.Rounding.{near, up}
use Rattle.ranges.specs.Range.{sum, sum_ℤ, tabulate}
use Rattle.model.specs.Sheet.{most_quantities, no_term}
use Rattle.model.specs.Step.{Coefficients, no_ball, reach, brings, brings_ℤ, share, coefficient, coefficients_to}
use Rattle.laws.specs.Bounds.{InBounds}
use Rattle.model.specs.declared.Ball.{Ball}
use Rattle.model.specs.declared.Term.{Term}
use Rattle.products.specs.Orders.{orders}
use Rattle.products.specs.Table.{ball_at, table_in, IsQuantity, ShareFits}
use Rattle.products.specs.declared.table.Table.{Table}

-- the balls of order 0, from which a step starts
unfoldable pub start_in : ℕ → Table → List Ball
start_in n table = tabulate n (ball_at table 0)

-- the sums of v and g of quantity i at order k, over the first m terms
unfoldable pub sums_to : List Term → ℤ → Coefficients → ℕ → ℕ → ℕ → Ball
sums_to terms H table k m i =
    record {
      value = sum_ℤ m (λ j. brings_ℤ (suc i) (get_or terms j no_term) (share H table k (get_or terms j no_term)).value);
      radius = sum m (λ j. brings (suc i) (get_or terms j no_term) (share H table k (get_or terms j no_term)).radius);
    }

-- c and e of order k + 1, from the sums of v and g
unfoldable pub closed : ℕ → Ball → Ball
closed k sums = record { value = near sums.value (suc k); radius = up sums.radius (suc k) + 1 }

-- The first n quantities have order k + 1 from their sums of v and g, and no other entry is changed.
pub record Closed (sums : ℕ → Ball) (k n : ℕ) (table table' : Table) : Type 0 where
  pub entries : (i : ℕ) → i < n → ball_at table' (suc k) i ≡ closed k (sums i)
  pub others : (order i : ℕ) → order < orders → i < most_quantities → (order ≡ suc k → n ≤ i) → ball_at table' order i ≡ ball_at table order i

-- The quantities from n up have nothing at any order.
abbrev pub NothingPast : ℕ → Table → Type 0
NothingPast n table = (order i : ℕ) → order < orders → n ≤ i → i < most_quantities → ball_at table order i ≡ no_ball

-- A table that a step of n quantities may start from, whatever it holds of these.
pub record Usable (n : ℕ) (table : Table) : Type 0 where
  pub past : NothingPast n table

-- Order 0 holds balls from which a step of H by these terms keeps within 64 bits.
pub record Fillable (terms : List Term) (H : ℤ) (n : ℕ) (table : Table) : Type 0 where
  pub usable : Usable n table
  pub bounds : InBounds terms H (start_in n table)
  pub room : n ≤ most_quantities

-- The orders 0 .. k are those of a step of H from the n balls of order 0.
pub record Filled (terms : List Term) (H : ℤ) (n k : ℕ) (table : Table) : Type 0 where
  pub usable : Usable n table
  pub entries : (order i : ℕ) → order ≤ k → i < most_quantities → ball_at table order i ≡ coefficient (coefficients_to terms H (start_in n table) k) order i

-- The shares of all terms at order k fit in 64 bits, and so do the sums of each one's target with it.
pub record CanSum (terms : List Term) (H : ℤ) (k : ℕ) (table : Table) : Type 0 where
  pub shares : (j : ℕ) → j < length terms → ShareFits H k (get_or terms j no_term) table
  pub targets : (j : ℕ) → j < length terms → IsQuantity (get_or terms j no_term).to
  pub sums : (j : ℕ) → j < length terms → reach (sums_to terms H (table_in k table) k (suc j) ((get_or terms j no_term).to - 1)) < 2 ^ 62
