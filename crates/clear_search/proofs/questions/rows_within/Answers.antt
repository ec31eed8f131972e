-- `clear_search::questions::rows_within` meets its contract. The loop stops at the first row with a number outside.
use mathlib.Core.Path.{sym, ◌∙◌}
use native.Mathlib.Omega.{arith}
use Rattle.ranges.proofs.EveryLaws.{every_none, every_more, every_fails}
use Rattle.rows.specs.View.{buffer_of}
use Rattle.clear_rule.specs.Clearance.{row_within}
use Rattle.clear_search.proofs.Asked.{row_led}
use Rattle.clear_search.proofs.questions.rows_within.Goals as goal

pub loop-row-init : goal.loop-row-init
loop-row-init c = every_none (row_within c.args.rows.n (buffer_of c.args.rows))

pub returns-then-not-row_within : goal.returns-then-not-row_within
returns-then-not-row_within c =
    sym (every_fails (row_within c.args.rows.n (buffer_of c.args.rows)) c.loop-row.row c.args.rows.count (omega arith) (sym (row_led c.args.rows.n c.loop-row.row (buffer_of c.args.rows) c.row.result c.row.ensures) ∙ sym c.row_within.ensures ∙ c.if-not-row_within.true))

pub loop-row-preserved : goal.loop-row-preserved
loop-row-preserved c =
    every_more (row_within c.args.rows.n (buffer_of c.args.rows)) c.loop-row.row c.loop-row.invariant (sym (row_led c.args.rows.n c.loop-row.row (buffer_of c.args.rows) c.row.result c.row.ensures) ∙ sym c.row_within.ensures ∙ c.if-not-row_within.false)
