-- `taylor::step::row_of` meets its contract. The table is filled, and its row is the definition's.
use Prim.Native.Nat.{ℕ}
use mathlib.Core.List.{List}
use mathlib.Core.Path.{◌≡◌, ◌∙◌}
use borrow.Author.Rules.{rules}
use lib.IntN.{ℤ}
use lib.ListN.{length}
use mir.Syntax.{w64}
use mir.Val.{SFits, to_z, of_z}
use mir.Facts.{to_z-of_z}
use Rattle.model.specs.declared.Ball.{Ball}
use Rattle.model.specs.declared.Term.{Term}
use Rattle.laws.specs.Bounds.{InBounds}
use Rattle.products.specs.Table.{Small}
use Rattle.products.specs.declared.table.Table.{Table}
use Rattle.coefficients.specs.Orders.{start_in, Filled}
use Rattle.coefficients.proofs.Filled.{filled_small}
use Rattle.taylor.proofs.StepRow.{row_is}
use Rattle.taylor.proofs.step.row_of.Goals as goal

-- what is known after the two calls that fill the table
module _ (start : List Ball) (table table' : Table) {terms : List Term} {H : ℤ} {n d : ℕ}
    (fits : SFits w64 H) (all : length start ≡ n) (started : start_in (length start) table ≡ start) (stays : start_in n table' ≡ start_in n table) (filled : Filled terms (to_z w64 (of_z w64 H)) n d table') where
  -- order 0 is the start still ..
  still_started : start_in n table' ≡ start
  still_started = stays ∙ rw all at started

  -- .. and the orders are those of a step from there
  step_filled : Filled terms H n d table'
  step_filled = rw (to_z-of_z fits) at filled

  -- what the sums of its orders ask
  small_table : InBounds terms H start → Small d table'
  small_table bounds = filled_small step_filled (rw still_started bounds)

pub of-orders-requires-clause-small : goal.of-orders-requires-clause-small
of-orders-requires-clause-small c =
    small_table c.args.start.now _ _ (search rules) c.requires.all c.start_orders.ensures.started c.fill_orders.ensures.start c.fill_orders.ensures.filled c.requires.bounds

pub returns-clause-row : goal.returns-clause-row
returns-clause-row c =
    let fits : SFits w64 c.args.head.now.step = search rules in
    let orders = c.of-orders.ensures in
    row_is (step_filled c.args.start.now _ _ fits c.requires.all c.start_orders.ensures.started c.fill_orders.ensures.start c.fill_orders.ensures.filled) c.requires.room c.args.start.now c.args.cut.tail (still_started c.args.start.now _ _ fits c.requires.all c.start_orders.ensures.started c.fill_orders.ensures.start c.fill_orders.ensures.filled) c.requires.all (rw (orders.table, orders.degree, orders.tail) at c.balls.ensures) (rw (orders.table, orders.degree, orders.tail) at c.spans.ensures)
