-- `text::put_row` meets its contract: the lines of the number and the degree, and those of the quantities.
use Prim.Native.Nat.{ℕ, ◌≤◌}
use mathlib.Core.Path.{◌≡◌, ap, ◌∙◌}
use mathlib.Core.List.{List, [], ◌∷◌, ◌++◌, append-nil}
use native.Mathlib.Omega.{arith}
use lib.IntN.{pos}
use Rattle.ranges.specs.Range.{bytes}
use Rattle.model.specs.Sheet.{most_steps}
use Rattle.model.specs.Step.{Row, most_degree}
use Rattle.model.specs.Answer.{printed, quantities_text, rows_text}
use Rattle.rows.specs.View.{row_of}
use Rattle.printing.proofs.Pieces.{added_then}
use Rattle.printing.proofs.LineLength.{Short, short_natural, none_added, line_asked, line_added, length_added}
use Rattle.text.proofs.put_row.Goals as goal

row_lines : (number : ℕ) (row : Row) {degree : ℕ} → degree ≡ row.degree → printed "row" (pos number) ++ printed "degree" (pos degree) ++ quantities_text row.balls row.spans ≡ rows_text number (row ∷ [])
unfolding rows_text
row_lines number row e = rw (e, append-nil)

-- the number is at most 240, and the degree at most 28
number_short : {number : ℕ} → number ≤ most_steps → Short "row" 3 (pos number)
number_short h = short_natural "row" 3 (omega arith) (omega (arith, h)) (omega (arith, h))

degree_short : {degree known : ℕ} → degree ≡ known → known ≤ most_degree → Short "degree" 2 (pos degree)
degree_short is h = short_natural "degree" 2 (omega arith) (omega (arith, is, h)) (omega (arith, is, h))

pub line-requires : goal.line-requires
unfolding bytes printed
line-requires c =
    (omega arith, line_asked "row" (none_added _) (number_short c.requires.number_le_most_steps) (omega (arith, c.requires.n_in_bounds)))

pub line-requires-2 : goal.line-requires-2
unfolding bytes printed
line-requires-2 c =
    let number = line_added "row" (none_added _) (number_short c.requires.number_le_most_steps) c.line.ensures in
    (omega arith, line_asked "degree" number (degree_short c.degree.ensures c.requires.printable.degree) (omega (arith, c.requires.n_in_bounds)))

pub put_quantities-requires-clause-value_digits_in_bounds : goal.put_quantities-requires-clause-value_digits_in_bounds
unfolding bytes printed
put_quantities-requires-clause-value_digits_in_bounds c =
    let number = line_added "row" (none_added _) (number_short c.requires.number_le_most_steps) c.line.ensures in
    let degree = line_added "degree" number (degree_short c.degree.ensures c.requires.printable.degree) c.line-2.ensures in
    omega (arith, c.requires.n_in_bounds, length_added degree)

pub returns : goal.returns
unfolding bytes printed
returns c =
    let number = line_added "row" (none_added _) (number_short c.requires.number_le_most_steps) c.line.ensures in
    let degree = line_added "degree" number (degree_short c.degree.ensures c.requires.printable.degree) c.line-2.ensures in
    record {
      put = added_then _ _ _ degree.added c.put_quantities.ensures.put ∙ ap (λ (text : List ℕ). c.args.lines.now ++ text) (row_lines c.args.number (row_of c.args.row) c.degree.ensures);
      bounded = omega (arith, c.put_quantities.ensures.bounded, length_added degree);
    }
