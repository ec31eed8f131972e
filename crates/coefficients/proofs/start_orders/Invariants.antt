-- What the loop of `start_orders` keeps.
use Prim.Native.Nat.{ℕ, ◌<◌}
use mathlib.Core.List.{List}
use mathlib.Core.Path.{◌≡◌}
use lib.ListN.{length, get_or}
use Rattle.model.specs.Step.{no_ball}
use Rattle.model.specs.declared.Ball.{Ball}
use Rattle.products.specs.Table.{ball_at}
use Rattle.products.specs.declared.table.Table.{Table}
use Rattle.coefficients.specs.Orders.{Usable}
use Rattle.coefficients.proofs.start_orders.Given as goal

-- the first i quantities have their balls at order 0, in a table that may be used
pub record Started (start : List Ball) (i : ℕ) (table : Table) : Type 0 where
  pub usable : Usable (length start) table
  pub passed : (j : ℕ) → j < i → ball_at table 0 j ≡ get_or start j no_ball

abbrev pub invariant-loop-i : goal.invariant-loop-i
invariant-loop-i l = Started l.start l.i l.table
