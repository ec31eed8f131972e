-- `products::table::Table::ball` meets its contract. e is what |c| + e has besides |c|.
use Prim.Native.Nat.{ℕ, ◌-◌}
use mathlib.Core.Path.{◌≡◌, ap}
use native.Mathlib.Omega.{arith}
use borrow.Author.Rules.{rules}
use lib.IntN.{nat_abs}
use mir.Syntax.{w64}
use mir.Val.{SFits}
use mir.Facts.{to_z-of_z}
use Rattle.laws.proofs.Steps.Tables.{ball_equal}
use Rattle.products.specs.Orders.{kept}
use Rattle.products.specs.Table.{ball_at}
use Rattle.products.proofs.table.Table.ball.Goals as goal

pub overflow_sub-result : goal.overflow_sub-result
overflow_sub-result c =
    let f : SFits w64 (kept c.args.self.now.orders c.args.k c.args.i).value = search rules in
    omega (arith, ap nat_abs (to_z-of_z f), c.args.self.now.covered c.args.k c.args.i)

pub returns : goal.returns
unfolding ball_at
returns c =
    let f : SFits w64 (kept c.args.self.now.orders c.args.k c.args.i).value = search rules in
    let e : c.unsigned_abs.result ≡ nat_abs (kept c.args.self.now.orders c.args.k c.args.i).value = omega (arith, ap nat_abs (to_z-of_z f)) in
    ball_equal (to_z-of_z f) (ap (λ (m : ℕ). (kept c.args.self.now.orders c.args.k c.args.i).reach - m) e)
