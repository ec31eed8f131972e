-- `clearance::run_and_find` meets its contract: what is found is found in the rows that the passage wrote.
use Rattle.model.specs.Sheet.{Outcome}
use Prim.Native.Nat.{ℕ}
use mathlib.Core.List.{List}
use mathlib.Core.Path.{◌≡◌}
use lib.IntN.{ℤ}
use lib.ListN.{length}
use Rattle.model.specs.Passage.{passage, rows_written}
use Rattle.model.specs.declared.Sheet.{Sheet}
use Rattle.laws.proofs.Passages.UnderWay.{RunInto}
use Rattle.clear_rule.specs.Clearance.{Found, first_clear}
use Rattle.clear_rule.specs.Claim.{Said, SaidOf}
use Rattle.clear_rule.specs.declared.Query.{Query}
use Rattle.clear_rule.proofs.PassageRows.{own_said}
use Rattle.clearance.proofs.run_and_find.Goals as goal

-- the rows that were written are those that are counted
said_of_own : (sheet : Sheet) (query : Query) (before : List ℤ) {after : List ℤ} {outcome : Outcome} {count : ℕ} {found : Found} → RunInto (passage sheet (length before)) before after outcome → count ≡ rows_written sheet outcome → found ≡ first_clear sheet.head.n count after query → Said sheet.head.n count after query found → SaidOf sheet query after outcome found
said_of_own sheet query before into counted is said = own_said sheet before into query (rw counted at is) (rw counted at said)

pub returns-clause-said : goal.returns-clause-said
returns-clause-said c =
    said_of_own c.args.sheet.now c.args.query.now c.args.rows.now (c.run-outcome.ensures.ended, c.run-outcome.ensures.leaves.buffer) c.rows_written-count.ensures c.first_clear.ensures.found c.first_clear.ensures.said
