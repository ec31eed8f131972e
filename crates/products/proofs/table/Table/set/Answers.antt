-- `products::table::Table::set` meets its contract. What it stores is c and |c| + e, and the others stay.
use Prim.Native.Nat.{ℕ, ◌+◌, ◌^◌, ◌<◌}
use mathlib.Core.Path.{◌≡◌, refl, ap}
use native.Mathlib.Omega.{arith}
use borrow.Author.Rules.{rules}
use lib.IntN.{nat_abs}
use lib.ListN.{length}
use mir.Syntax.{w64}
use mir.Val.{SFits, to_z, of_z}
use mir.Facts.{to_z-of_z}
use Rattle.model.specs.Sheet.{most_quantities}
use Rattle.model.specs.Step.{reach}
use Rattle.model.specs.declared.Ball.{Ball}
use Rattle.products.specs.Orders.{orders, kept}
use Rattle.products.specs.Table.{ball_at, Written}
use Rattle.products.specs.declared.table.Coefficient.{Coefficient}
use Rattle.products.specs.declared.table.Table.{Table}
use Rattle.laws.proofs.Steps.Tables.{ball_equal}
use Rattle.products.proofs.Kept.{stored, stored_here, stored_other, stored_whole, stored_covered}
use Rattle.products.proofs.table.Table.set.Goals as goal

-- the table with one coefficient stored in it
written : (table table' : Table) (i k : ℕ) (ball : Ball) (c : Coefficient) → length table.orders ≡ most_quantities → i < most_quantities → k < orders → table'.orders ≡ stored table.orders i k c →
    c.value ≡ ball.value → c.reach ≡ nat_abs ball.value + ball.radius → Written k i ball table table'
unfolding ball_at
written table table' i k ball c all quantity order e value reached =
    record {
      entry = rw (e, here) (ball_equal value (omega (arith, ap nat_abs value)));
      others = λ order' j l m apart. rw (e, stored_other table.orders i k c all table.whole quantity order order' j apart);
    }
  where
    here : kept (stored table.orders i k c) k i ≡ c
    here = stored_here table.orders i k c all table.whole quantity order

pub overflow_add-self : goal.overflow_add-self
unfolding reach
overflow_add-self c =
    let f : SFits w64 c.args.ball.value = search rules in
    let e : nat_abs (to_z w64 (of_z w64 c.args.ball.value)) ≡ nat_abs c.args.ball.value = ap nat_abs (to_z-of_z f) in
    let g : c.unsigned_abs.result + c.args.ball.radius < 2 ^ 64 = omega (arith, e) in
    search rules

pub invariant_of-self : goal.invariant_of-self
invariant_of-self c =
    let all : length c.args.self.now.orders ≡ most_quantities = search rules in
    record {
      whole = stored_whole c.args.self.now.orders c.args.i c.args.k _ all c.args.self.now.whole c.requires.quantity c.requires.order;
      covered = stored_covered c.args.self.now.orders c.args.i c.args.k _ all c.args.self.now.whole c.requires.quantity c.requires.order (omega arith) c.args.self.now.covered;
    }

pub returns : goal.returns
returns c =
    let f : SFits w64 c.args.ball.value = search rules in
    let all : length c.args.self.now.orders ≡ most_quantities = search rules in
    written c.args.self.now _ c.args.i c.args.k c.args.ball _ all c.requires.quantity c.requires.order refl (to_z-of_z f) (omega (arith, ap nat_abs (to_z-of_z f)))
