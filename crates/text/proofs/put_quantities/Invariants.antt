-- What the loop of `put_quantities` keeps: after i turns the first i quantities are put.
use Prim.Native.Nat.{ℕ, ◌+◌, ◌*◌, ◌≤◌}
use mathlib.Core.Path.{◌≡◌}
use mathlib.Core.List.{List, ◌++◌}
use lib.ListN.{length, get_or}
use Rattle.ranges.specs.Range.{tabulate}
use Rattle.model.specs.Step as step
use Rattle.model.specs.Step.{no_ball, no_span}
use Rattle.model.specs.Answer.{quantities_text}
use Rattle.printing.specs.AnswerLength.{value_digits, most_quantity}
use Rattle.rows.specs.View.{row_of}
use Rattle.text.proofs.put_quantities.Given as goal

-- the lines of the first i quantities of a row
abbrev pub first : step.Row → ℕ → List ℕ
first row i = quantities_text (tabulate i (λ k. get_or row.balls k no_ball)) (tabulate i (λ k. get_or row.spans k no_span))

abbrev pub invariant-loop-i : goal.invariant-loop-i
invariant-loop-i l =
    record {
      put : l.lines ≡ l.initial.lines ++ first (row_of l.row) l.i;
      bounded : length l.lines ≤ length l.initial.lines + l.i * most_quantity value_digits;
    }
