-- The text of quantities and of rows, one more at a time.
use Prim.Native.Nat.{ℕ, suc, ◌+◌}
use mathlib.Core.Path.{◌≡◌, sym, ap, ◌∙◌}
use mathlib.Core.List.{List, [], ◌∷◌, ◌++◌, append_assoc, append-nil}
use native.Mathlib.Nat.{add-zero, add-suc, suc-add}
use native.Mathlib.Omega.{arith}
use lib.IntN.{pos}
use lib.ListN.{length}
use Rattle.ranges.specs.Range.{tabulate}
use Rattle.model.specs.Step.{Row}
use Rattle.model.specs.Answer.{printed, quantities_text, rows_text}
use Rattle.model.specs.declared.Ball.{Ball}
use Rattle.model.specs.declared.Span.{Span}
use Rattle.ranges.proofs.Ranges.{length_tabulate}
use Rattle.printing.proofs.Pieces.{Grows}

-- the lines of one quantity: of its ball, and of its span
abbrev pub quantity_lines : Ball → Span → List ℕ
quantity_lines ball span = printed "value" ball.value ++ printed "radius" (pos ball.radius) ++ (printed "low" span.low ++ printed "high" span.high)

pub quantity_first : (ball : Ball) (span : Span) (balls : List Ball) (spans : List Span) → quantities_text (ball ∷ balls) (span ∷ spans) ≡ quantity_lines ball span ++ quantities_text balls spans
unfolding quantities_text
quantity_first ball span balls spans =
    ap (λ (text : List ℕ). text ++ quantities_text balls spans) (append_assoc (printed "value" ball.value ++ printed "radius" (pos ball.radius)) (printed "low" span.low) (printed "high" span.high))

-- one quantity more
pub quantities_more : (balls : List Ball) (spans : List Span) (ball : Ball) (span : Span) → length balls ≡ length spans → quantities_text (balls ++ (ball ∷ [])) (spans ++ (span ∷ [])) ≡ quantities_text balls spans ++ quantity_lines ball span
unfolding quantities_text
quantities_more [] [] ball span h = quantity_first ball span [] [] ∙ append-nil (quantity_lines ball span)
quantities_more [] (other ∷ spans) ball span h = absurd (omega arith)
quantities_more (other ∷ balls) [] ball span h = absurd (omega arith)
quantities_more (b ∷ balls) (s ∷ spans) ball span h =
    quantity_first b s (balls ++ (ball ∷ [])) (spans ++ (span ∷ [])) ∙ ap (λ (text : List ℕ). quantity_lines b s ++ text) (quantities_more balls spans ball span (omega arith))
    ∙ sym (append_assoc (quantity_lines b s) (quantities_text balls spans) (quantity_lines ball span)) ∙ ap (λ (text : List ℕ). text ++ quantity_lines ball span) (sym (quantity_first b s balls spans))

pub rows_append : (number : ℕ) (some more : List Row) → rows_text number (some ++ more) ≡ rows_text number some ++ rows_text (number + length some) more
unfolding rows_text
rows_append number [] more = rw (add-zero number)
rows_append number (row ∷ some) more =
    rw (rows_append (suc number) some more, add-suc number (length some), suc-add number (length some)) (sym (append_assoc (printed "row" (pos number) ++ printed "degree" (pos row.degree) ++ quantities_text row.balls row.spans) (rows_text (suc number) some) (rows_text (suc (number + length some)) more)))

-- a quantity more
pub quantities_grow : (ball : ℕ → Ball) (span : ℕ → Span) → Grows (λ i. quantities_text (tabulate i ball) (tabulate i span)) (λ i. quantity_lines (ball i) (span i))
unfolding tabulate
quantities_grow ball span i = quantities_more (tabulate i ball) (tabulate i span) (ball i) (span i) (length_tabulate i ball ∙ sym (length_tabulate i span))

-- a row more: row j, from 0, has number j + 1
pub rows_grow : (row : ℕ → Row) → Grows (λ j. rows_text 1 (tabulate j row)) (λ j. rows_text (suc j) (row j ∷ []))
unfolding tabulate
rows_grow row j = rows_append 1 (tabulate j row) (row j ∷ []) ∙ ap (λ (number : ℕ). rows_text 1 (tabulate j row) ++ rows_text number (row j ∷ [])) numbered
  where
    numbered : 1 + length (tabulate j row) ≡ suc j
    numbered = omega (arith, length_tabulate j row)
