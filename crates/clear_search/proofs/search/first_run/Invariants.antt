-- What the loop of `first_run` keeps.
use Rattle.model.specs.Rows.{rows_in}
use Rattle.rows.specs.View.{buffer_of}
use Rattle.clear_rule.proofs.FirstRun.{certainly}
use Rattle.clear_rule.proofs.Streaks.{Streak}
use Rattle.clear_search.proofs.search.first_run.Given as goal

abbrev pub invariant-loop-row : goal.invariant-loop-row
invariant-loop-row l = Streak (certainly l.query (rows_in l.rows.n l.rows.count (buffer_of l.rows))) l.query.run l.row l.streak
