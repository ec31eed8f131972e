-- What the loop of `terms_verdict` keeps: the terms passed pass.
use mathlib.Core.Path.{◌≡◌}
use lib.ListN.{get_or}
use Rattle.model.specs.Sheet.{passes, in_order, term_verdict, no_term}
use Rattle.verdict.proofs.terms_verdict.Given as goal

abbrev pub invariant-loop-term : goal.invariant-loop-term
invariant-loop-term l = in_order l.term-index (λ j. term_verdict l.n (get_or l.term-items j no_term)) ≡ passes
