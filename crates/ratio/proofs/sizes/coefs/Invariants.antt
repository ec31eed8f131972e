-- What the loop of `coefs` keeps: the sum over the terms passed.
use Prim.Native.Nat.{ℕ}
use mathlib.Core.Path.{◌≡◌}
use mathlib.Core.List.{List}
use lib.ListN.{get_or}
use Rattle.ranges.specs.Range as range
use Rattle.model.specs.Sheet.{no_term}
use Rattle.model.specs.Step as rule
use Rattle.model.specs.declared.Term.{Term}
use Rattle.ratio.proofs.sizes.coefs.Given as goal

-- the sum over the first j terms
unfoldable pub partial : ℕ → ℕ → List Term → ℕ → ℕ
partial target count terms j =
    range.sum j (λ j. rule.brings target (get_or terms j no_term) (rule.coef_of count (get_or terms j no_term)))

abbrev pub invariant-loop-term : goal.invariant-loop-term
invariant-loop-term l = l.sum ≡ partial l.target l.count l.terms l.term-index
