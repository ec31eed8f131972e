-- The table of coefficients that the code works on, and what its functions ask of it.
use Rattle.std.specs.Prelude.{ℕ, suc, ◌-◌, ◌*◌, ◌^◌, ◌≤◌, ◌<◌, ◌≡◌, ℤ, nat_abs}
use Rattle.ranges.specs.Range.{tabulate}
use Rattle.model.specs.Sheet.{most, most_quantities}
use Rattle.model.specs.Step.{Coefficients, most_degree, reach, products, times}
use Rattle.model.specs.declared.Ball.{Ball}
use Rattle.model.specs.declared.Term.{Term}
use Rattle.products.specs.Orders.{orders, kept}
use Rattle.products.specs.declared.table.Coefficient.{Coefficient}
use Rattle.products.specs.declared.table.Table.{Table}

-- ---- a table of coefficients

-- It keeps c and |c| + e, which is what products are formed from; e is the difference.
unfoldable pub ball_at : Table → ℕ → ℕ → Ball
ball_at table order quantity =
    let c = kept table.orders order quantity in
    record { value = c.value; radius = c.reach - nat_abs c.value }

-- orders 0 .. k
unfoldable pub table_in : ℕ → Table → Coefficients
table_in k table = tabulate (suc k) (λ order. tabulate most_quantities (ball_at table order))

-- The entry of order k of quantity i is the ball, and no other is changed.
pub record Written (k i : ℕ) (ball : Ball) (table table' : Table) : Type 0 where
  pub entry : ball_at table' k i ≡ ball
  pub others : (order j : ℕ) → order < orders → j < most_quantities → ((order ≡ k) × (j ≡ i) → ⊥) → ball_at table' order j ≡ ball_at table order j

-- The orders 0 .. k reach 32 wholes at most.
pub record Small (k : ℕ) (table : Table) : Type 0 where
  pub small : (order i : ℕ) → order ≤ k → i < most_quantities → reach (ball_at table order i) ≤ most

-- ---- what the functions ask

-- Products are formed at order k, which is not the last.
pub record AtOrder (k : ℕ) (table : Table) : Type 0 where
  pub small : Small k table
  pub order : k < most_degree

-- No |c| is above its |c| + e, which is 32 wholes at most.
pub record Reached (c : Coefficient) : Type 0 where
  pub covered : nat_abs c.value ≤ c.reach
  pub small : c.reach ≤ most

-- the number of a quantity, from 1
pub record IsQuantity (number : ℕ) : Type 0 where
  pub low : 1 ≤ number
  pub high : number ≤ most_quantities

-- the numbers of a term's factors, 0 being none
pub record Factors (first second : ℕ) : Type 0 where
  pub first_high : first ≤ most_quantities
  pub second_high : second ≤ most_quantities
  pub formed : first ≡ 0 → second ≡ 0

-- A term's factors are there at order k, and Q, f, v and g fit in 64 bits.
pub record ShareFits (H : ℤ) (k : ℕ) (term : Term) (table : Table) : Type 0 where
  pub at : AtOrder k table
  pub factors : Factors term.first term.second
  pub step_fits : nat_abs H * reach (products (table_in k table) k term.first term.second) < 2 ^ 63
  pub coef_fits : nat_abs term.coef * reach (times H (products (table_in k table) k term.first term.second)) < 2 ^ 63
