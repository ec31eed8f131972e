-- `new_row::Orders::spans` meets its contract. Every call gives its number, or what stands past them.
use borrow.Author.Rules.{rules}
use Rattle.model.specs.Rows.{spans_laid_out}
use Rattle.model.specs.Step.{no_span, new_span}
use Rattle.model.specs.Sheet.{most_quantities}
use Rattle.products.specs.Table.{table_in}
use Rattle.new_row.proofs.Made.{made_padded}
use Rattle.new_row.proofs.Orders.spans.Goals as goal

pub returns : goal.returns
unfolding spans_laid_out no_span new_span table_in
returns c =
    made_padded _ most_quantities c.args.n no_span (new_span (table_in c.args.self.degree c.args.self.table.now) c.args.self.degree c.args.self.tail) c.from_fn.result _ (λ i y q r. search rules) c.requires c.from_fn.ensures.items.long c.from_fn.ensures.items.each
