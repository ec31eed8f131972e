-- What the loop of `put_rows` keeps: after so many turns that many rows are put.
use Prim.Native.Nat.{ℕ, ◌*◌, ◌≤◌}
use mathlib.Core.List.{List}
use lib.IntN.{ℤ}
use Rattle.model.specs.Rows.{rows_in}
use Rattle.model.specs.Answer.{rows_text}
use Rattle.rows.specs.View.{buffer_of}
use Rattle.printing.specs.Pieces.{Put}
use Rattle.printing.specs.AnswerLength.{value_digits, most_row}
use Rattle.text.proofs.put_rows.Given as goal

-- the lines of the first so many rows
abbrev pub first : ℕ → List ℤ → ℕ → List ℕ
first n rows count = rows_text 1 (rows_in n count rows)

abbrev pub invariant-loop-row : goal.invariant-loop-row
invariant-loop-row l =
    record { put : Put l.initial.text 0 (first l.rows.n (buffer_of l.rows) l.row) l.next l.text; bounded : l.next ≤ l.row * most_row value_digits l.rows.n }
