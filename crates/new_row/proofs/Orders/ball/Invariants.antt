-- What the loop of `Orders::ball` keeps.
use Prim.Native.Nat.{ℕ, ◌+◌}
use mathlib.Core.Path.{◌≡◌}
use lib.IntN.{ℤ}
use Rattle.ranges.specs.Range.{sum, sum_ℤ}
use Rattle.products.specs.Table.{ball_at}
use Rattle.products.specs.declared.table.Table.{Table}
use Rattle.new_row.proofs.Orders.ball.Given as goal

-- the sums of c and of e over the orders below k
abbrev pub values_sum : ℕ → Table → ℕ → ℤ
values_sum i table k = sum_ℤ k (λ order. (ball_at table order i).value)

abbrev pub radii_sum : ℕ → Table → ℕ → ℕ
radii_sum i table k = sum k (λ order. (ball_at table order i).radius)

abbrev pub invariant-loop-k : goal.invariant-loop-k
invariant-loop-k l = record { value_is : l.value ≡ values_sum l.i l.self.table.now l.k; radius_is : l.radius ≡ radii_sum l.i l.self.table.now l.k + l.self.tail }
