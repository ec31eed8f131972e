-- The rounded coefficients enclose the exact summands of every order, for every quantity, and their sums the exact sum: s Y_k H^k ÷ M_k lies
-- within e_k of c_k.
use Prim.Native.Nat.{ℕ, zero, suc, ◌≤◌, ◌<◌}
use mathlib.Core.List.{List}
use mathlib.Core.Logic.{⊎_elim}
use mathlib.Core.Path.{◌≡◌}
use native.Mathlib.Nat.{eq-or-lt_of_le}
use native.Mathlib.Omega.{arith}
use lib.IntN.{ℤ, pow, *ℤ-one}
use lib.ListN.{length}
use Rattle.rounding.specs.Enclosure.{Within}
use Rattle.ranges.specs.Range.{sum, sum_ℤ}
use Rattle.model.specs.Sheet.{scale}
use Rattle.enclosure.specs.Exact.{State, Orders, order, orders_to, sum_denominator}
use Rattle.model.specs.Step.{Coefficients, coefficient, coefficients_to}
use Rattle.model.specs.declared.Ball.{Ball}
use Rattle.enclosure.specs.Trust.{LiesWithin}
use Rattle.model.specs.declared.Term.{Term}
use Rattle.ranges.proofs.Ranges.{before_or_past}
use Rattle.laws.proofs.Steps.Tables.{coefficients_grow}
use Rattle.enclosure.proofs.Orders.{orders_grow}
use Rattle.enclosure.proofs.NextCoefficient.{SummandInside, summand_zero, next_enclosed}
use Rattle.enclosure.proofs.Tail.{summand, partial_sum, sums_within}

module _ (terms : List Term) (H : ℤ) (balls : List Ball) (state : State) (start : LiesWithin balls state) where
  abbrev D : ℕ
  D = state.denominator

  abbrev orders : ℕ → Orders
  orders = orders_to terms state

  abbrev table : ℕ → Coefficients
  table = coefficients_to terms H balls

  abbrev Enclosed : ℕ → ℕ → ℕ → Type 0
  Enclosed d k i = SummandInside H D k (order (orders d) k i) (coefficient (table d) k i)

  still_enclosed : (d k i : ℕ) → k ≤ d → Enclosed k k i → Enclosed d k i
  still_enclosed d k i h w =
      rw ((orders_grow terms state).stays d k i h, (coefficients_grow terms H balls).stays d k i h) w

  past_enclosed : (k i : ℕ) → length balls ≤ i → Enclosed k k i
  past_enclosed k i h =
      rw ((orders_grow terms state).past k k i (omega arith) (rw start.quantities h), (coefficients_grow terms H balls).past k k i (omega arith) h) (summand_zero H D k)

  start_enclosed : (i : ℕ) → i < length balls → Enclosed 0 0 i
  unfolding pow sum_denominator
  start_enclosed i h =
      rw ((orders_grow terms state).starts i, (coefficients_grow terms H balls).starts i) (rw *ℤ-one (start.near i h))

  continued : (d i : ℕ) → ((k i : ℕ) → k ≤ d → Enclosed d k i) → i < length balls → Enclosed (suc d) (suc d) i
  continued d i w h =
      rw ((orders_grow terms state).continues d i (rw start.quantities h), (coefficients_grow terms H balls).continues d i h) (next_enclosed terms H D (table d) (orders d) d w i)

  by_quantity : (k i : ℕ) → (i < length balls → Enclosed k k i) → Enclosed k k i
  by_quantity k i w = ⊎_elim w (past_enclosed k i) (before_or_past i (length balls))

  up_to : (d k i : ℕ) → k ≤ d → Enclosed k k i
  up_to zero zero i h = by_quantity 0 i (start_enclosed i)
  up_to zero (suc k) i h = absurd (omega arith)
  up_to (suc d) k i h =
      ⊎_elim (λ (e : k ≡ suc d). rw e (by_quantity (suc d) i (continued d i (λ l j le. still_enclosed d l j le (up_to d l j le))))) (λ (lt : k < suc d). up_to d k i (omega arith)) (eq-or-lt_of_le h)

  pub coefficients_enclosed : (d k i : ℕ) → k ≤ d → Enclosed d k i
  coefficients_enclosed d k i h = still_enclosed d k i h (up_to d k i h)

  -- order k of the exact sum's own recursion, against the table of all d orders
  pub summand_enclosed : (d k i : ℕ) → k ≤ d → SummandInside H D k (order (orders k) k i) (coefficient (table d) k i)
  summand_enclosed d k i h = rw ((coefficients_grow terms H balls).stays d k i h) (up_to d k i h)

  pub sums_enclosed : (d i : ℕ) → Within (partial_sum terms state H scale i d) (sum_denominator D scale d) (sum_ℤ (suc d) (λ k. (coefficient (table d) k i).value)) (sum (suc d) (λ k. (coefficient (table d) k i).radius))
  unfolding summand
  sums_enclosed d i = sums_within terms state H scale i _ _ d (λ k h. summand_enclosed d k i h)
