-- What the loop of `fill_orders` keeps.
use Prim.Native.Nat.{ℕ}
use mathlib.Core.List.{List}
use mathlib.Core.Path.{◌≡◌}
use lib.IntN.{ℤ}
use Rattle.model.specs.declared.Term.{Term}
use Rattle.products.specs.declared.table.Table.{Table}
use Rattle.coefficients.specs.Orders.{start_in, Filled}
use Rattle.coefficients.proofs.fill_orders.Given as goal

-- orders 0 .. k of a step of H are filled, and order 0 is that of the start
pub record To (terms : List Term) (H : ℤ) (n k : ℕ) (table₀ table : Table) : Type 0 where
  pub start : start_in n table ≡ start_in n table₀
  pub filled : Filled terms H n k table

abbrev pub invariant-loop-k : goal.invariant-loop-k
invariant-loop-k l = To l.terms l.step l.n l.k l.initial.table l.table
