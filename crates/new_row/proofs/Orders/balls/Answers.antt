-- `new_row::Orders::balls` meets its contract. Every call gives its number, or what stands past them.
use borrow.Author.Rules.{rules}
use Rattle.model.specs.Rows.{laid_out}
use Rattle.model.specs.Step.{no_ball, new_ball}
use Rattle.model.specs.Sheet.{most_quantities}
use Rattle.products.specs.Table.{table_in}
use Rattle.new_row.proofs.Made.{made_padded}
use Rattle.new_row.proofs.Orders.balls.Goals as goal

pub returns : goal.returns
unfolding laid_out no_ball new_ball table_in
returns c =
    made_padded _ most_quantities c.args.n no_ball (new_ball (table_in c.args.self.degree c.args.self.table.now) c.args.self.degree c.args.self.tail) c.from_fn.result _ (λ i y q r. search rules) c.requires c.from_fn.ensures.items.long c.from_fn.ensures.items.each
