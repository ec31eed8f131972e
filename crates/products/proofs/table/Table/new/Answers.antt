-- `products::table::Table::new` meets its contract.
use Rattle.model.specs.Step.{no_ball}
use Rattle.products.specs.Table.{ball_at}
use Rattle.products.proofs.Kept.{nothing_kept, nothing_whole, nothing_covered}
use Rattle.products.proofs.table.Table.new.Goals as goal

pub invariant_of-result : goal.invariant_of-result
invariant_of-result c = record { whole = nothing_whole; covered = nothing_covered }

pub returns : goal.returns
unfolding ball_at no_ball
returns c = λ order i. rw (nothing_kept order i)
