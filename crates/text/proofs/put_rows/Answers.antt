-- `text::put_rows` meets its contract.
use Prim.Native.Nat.{ℕ, suc, ◌+◌, ◌*◌}
use mathlib.Core.Path.{◌≡◌, ap, ◌∙◌}
use mathlib.Core.List.{List, [], ◌∷◌, ◌++◌}
use native.Mathlib.Nat.{suc-mul}
use native.Mathlib.Numerals.{add-one}
use native.Mathlib.Omega.{arith}
use lib.IntN.{ℤ}
use lib.ListN.{length}
use Rattle.ranges.specs.Range.{tabulate}
use Rattle.model.specs.Step.{Row}
use Rattle.model.specs.Rows.{row_in, rows_in}
use Rattle.model.specs.Answer.{rows_text}
use Rattle.rows.specs.View.{buffer_of}
use Rattle.printing.specs.AnswerLength.{value_digits, most_row}
use Rattle.printing.proofs.Pieces.{Grows, put_nothing, put_turn, put_same}
use Rattle.printing.proofs.Lines.{rows_grow}
use Rattle.text.proofs.put_rows.Invariants.{first}
use Rattle.text.proofs.put_rows.Goals as goal

first_grows : (n : ℕ) (rows : List ℤ) → Grows (first n rows) (λ row. rows_text (suc row) (row_in n rows row ∷ []))
unfolding rows_in
first_grows n rows = rows_grow (row_in n rows)

-- the lines that stand in the buffer of a row are the row's
row_alone : (number : ℕ) {none lines shown : List ℕ} {row known : Row} → none ≡ [] → lines ≡ none ++ rows_text (number + 1) (row ∷ []) → shown ≡ lines → row ≡ known → shown ≡ rows_text (suc number) (known ∷ [])
row_alone number none put shown is = shown ∙ put ∙ rw (none, is, add-one number)

pub loop-row-init : goal.loop-row-init
unfolding rows_in tabulate rows_text
loop-row-init c = record { put = put_nothing _ _; bounded = omega arith }

pub loop-row-preserved : goal.loop-row-preserved
loop-row-preserved c =
    let row = row_alone c.loop-row.row c.clear.ensures c.put_row.ensures.put c.as_slice.ensures c.row.ensures.row_is in
    record {
      put = put_turn (first c.args.rows.n (buffer_of c.args.rows)) _ (first_grows c.args.rows.n (buffer_of c.args.rows)) c.loop-row.row c.loop-row.invariant.put (put_same row c.put_front-next.ensures);
      bounded = omega (arith, c.loop-row.invariant.bounded, c.put_row.ensures.bounded, c.put_front-next.ensures.counted, ap length c.clear.ensures, ap length c.as_slice.ensures, suc-mul c.loop-row.row (most_row value_digits c.args.rows.n), ap (λ (k : ℕ). k * most_row value_digits c.args.rows.n) (add-one c.loop-row.row), ap (λ (n : ℕ). most_row value_digits n) c.row.ensures.quantities);
    }
