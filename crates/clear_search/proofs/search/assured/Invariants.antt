-- What the loop of `assured` keeps: the base, and what the quantities passed count.
use mathlib.Core.Path.{◌≡◌}
use Rattle.rows.specs.View.{row_of}
use Rattle.clear_rule.proofs.SumsFit.{assured_to}
use Rattle.clear_search.proofs.search.assured.Given as goal

abbrev pub invariant-loop-i : goal.invariant-loop-i
invariant-loop-i l = l.sum ≡ assured_to l.query (row_of l.row) l.i
