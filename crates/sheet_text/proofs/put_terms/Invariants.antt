-- What the loop of `put_terms` keeps: after j turns the first j terms are put.
use Prim.Native.Nat.{ℕ, ◌+◌, ◌*◌, ◌≤◌}
use mathlib.Core.Path.{◌≡◌}
use mathlib.Core.List.{List, ◌++◌, flatten}
use lib.ListN.{length, get_or}
use Rattle.ranges.specs.Range.{tabulate}
use Rattle.model.specs.Sheet.{no_term}
use Rattle.stored.specs.Conversion.{term_text}
use Rattle.model.specs.declared.Term.{Term}
use Rattle.printing.specs.SheetLength.{most_term}
use Rattle.sheet_text.proofs.put_terms.Given as goal

-- the lines of a term, and those of the first j
abbrev pub lines_of : List Term → ℕ → List ℕ
lines_of terms j = term_text (get_or terms j no_term)

abbrev pub first : List Term → ℕ → List ℕ
first terms j = flatten (tabulate j (lines_of terms))

abbrev pub invariant-loop-term : goal.invariant-loop-term
invariant-loop-term l =
    record {
      put : l.lines ≡ l.initial.lines ++ first l.terms l.term-index;
      bounded : length l.lines ≤ length l.initial.lines + l.term-index * most_term;
    }
