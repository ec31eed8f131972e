-- What the loop of `rows_within` keeps: every row passed is in its ranges.
use mathlib.Core.Bool.{true}
use mathlib.Core.Path.{◌≡◌}
use Rattle.ranges.specs.Range as range
use Rattle.rows.specs.View.{buffer_of}
use Rattle.clear_rule.specs.Clearance.{row_within}
use Rattle.clear_search.proofs.questions.rows_within.Given as goal

abbrev pub invariant-loop-row : goal.invariant-loop-row
invariant-loop-row l = range.every l.row (row_within l.rows.n (buffer_of l.rows)) ≡ true
