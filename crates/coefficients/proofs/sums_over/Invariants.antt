-- What the loop of `sums_over` keeps.
use Rattle.products.specs.Table.{table_in}
use Rattle.coefficients.proofs.TermByTerm.{Held}
use Rattle.coefficients.proofs.sums_over.Given as goal

-- the sums over the terms passed
abbrev pub invariant-loop-term : goal.invariant-loop-term
invariant-loop-term l = Held l.terms l.step (table_in l.k l.table) l.k l.term-index l.sums
