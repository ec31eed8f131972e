-- The lines so far gave the front of the list.
use Rattle.model.specs.Sheet.{most_terms, no_term}
use Rattle.model.specs.Reading.{term}
use Rattle.sheet_body.proofs.Arrays.{Filled}
use Rattle.sheet_body.proofs.read_terms.Given as goal

abbrev pub invariant-loop-j : goal.invariant-loop-j
invariant-loop-j l = Filled (term l.n) most_terms no_term l.initial.rest l.j l.list l.rest
