-- How long an answer can be, line by line.
use Rattle.std.specs.Prelude.{Ok, Err}
use Prim.Native.Nat.{ℕ, suc, ◌+◌, ◌*◌, ◌^◌, ◌≤◌, ◌<◌}
use mathlib.Core.Path.{◌≡◌, refl, ap}
use mathlib.Core.List.{List, [], ◌∷◌, ◌++◌, append-nil}
use native.Mathlib.Nat.{suc-mul, mul-le-mul_right}
use native.Mathlib.Omega.{arith}
use lib.IntN.{ℤ, pos, neg_ℤ, nat_abs}
use lib.ListN.{length, get_or, length-append}
use Rattle.ranges.specs.Range.{tabulate, bytes}
use Rattle.model.specs.Sheet.{Outcome, refused_at, most, most_quantities, most_steps, number, result, refused_step}
use Rattle.model.specs.Step.{no_ball, no_span, most_degree, Row}
use Rattle.model.specs.Passage.{Run}
use Rattle.enclosure.specs.RowRange.{most_value, most_span, Printable}
use Rattle.model.specs.Answer.{digit, decimal_by, decimal, printed, quantities_text, rows_text, outcome_text, run_text}
use Rattle.model.specs.declared.Ball.{Ball}
use Rattle.model.specs.declared.Span.{Span}
use Rattle.model.specs.declared.Refusal.TheVariants.{RowOutOfRange}
use Rattle.model.proofs.RefusalNumbers.{number_short}
use Rattle.ranges.proofs.Ranges.{get_or_tabulate}
use Rattle.ranges.proofs.Lists.{Each, none, entry_first}
use Rattle.laws.proofs.Passages.RowPlaces.{Wide}
use Rattle.laws.proofs.Passages.RowsOfPassage.{AllButLast, empty, last, earlier}
use Rattle.enclosure.proofs.RowRange.{Passed}
use Rattle.printing.proofs.LineLength.{length_natural, length_whole}
use Rattle.printing.specs.AnswerLength.{passed_digits, value_digits, most_ball, span_digits, most_span_lines, most_quantity, most_row, most_outcome, most_answer}
use Rattle.printing.proofs.Lines.{quantity_lines, quantity_first, rows_append}

pub length_ball : (digits : ℕ) (value : ℤ) (radius : ℕ) → 0 < digits → nat_abs value < 10 ^ digits → radius ≤ most → length (printed "value" value ++ printed "radius" (pos radius)) ≤ most_ball digits
unfolding bytes most
length_ball digits value radius l h k =
    rw length-append (omega (arith, length_whole "value" digits value l h, length_natural "radius" 9 radius (omega arith) (omega arith)))

pub length_span : (low high : ℤ) → nat_abs low ≤ most_span → nat_abs high ≤ most_span → length (printed "low" low ++ printed "high" high) ≤ most_span_lines
unfolding bytes most
length_span low high h k =
    rw length-append (omega (arith, length_whole "low" span_digits low (omega arith) (omega arith), length_whole "high" span_digits high (omega arith) (omega arith)))

-- ---- the outcome

pub result_short : (outcome : Outcome) → result outcome < 10 ^ 2
unfolding result
result_short (Ok done) = omega arith
result_short (Err refused) = number_short refused.refusal

pub length_outcome : (outcome : Outcome) → refused_step outcome ≤ suc most_steps → length (outcome_text outcome) ≤ most_outcome
unfolding outcome_text bytes
length_outcome outcome h =
    omega (arith, length-append (printed "result" (pos (result outcome))) (printed "at" (pos (refused_step outcome))), length_natural "result" 2 (result outcome) (omega arith) (result_short outcome), length_natural "at" 3 (refused_step outcome) (omega arith) (omega arith))

-- ---- rows

-- a row whose values have so many digits
length_quantities : (digits : ℕ) (balls : List Ball) (spans : List Span) → 0 < digits → ((i : ℕ) → i < length balls → nat_abs (get_or balls i no_ball).value < 10 ^ digits) → ((i : ℕ) → i < length balls → (get_or balls i no_ball).radius ≤ most) → ((i : ℕ) → i < length spans → nat_abs (get_or spans i no_span).low ≤ most_span) → ((i : ℕ) → i < length spans → nat_abs (get_or spans i no_span).high ≤ most_span) → length (quantities_text balls spans) ≤ length balls * most_quantity digits
unfolding quantities_text
length_quantities digits [] spans l values radii lows highs = omega arith
length_quantities digits (ball ∷ balls) [] l values radii lows highs = omega arith
length_quantities digits (ball ∷ balls) (span ∷ spans) l values radii lows highs =
    omega (arith, ap length (quantity_first ball span balls spans), length-append (quantity_lines ball span) (quantities_text balls spans), length-append (printed "value" ball.value ++ printed "radius" (pos ball.radius)) (printed "low" span.low ++ printed "high" span.high), length_ball digits ball.value ball.radius l (values 0 (omega arith)) (radii 0 (omega arith)), length_span span.low span.high (lows 0 (omega arith)) (highs 0 (omega arith)), length_quantities digits balls spans l (λ i h. values (suc i) (omega arith)) (λ i h. radii (suc i) (omega arith)) (λ i h. lows (suc i) (omega arith)) (λ i h. highs (suc i) (omega arith)), suc-mul (length balls) (most_quantity digits))

length_row : (digits number : ℕ) (row : Row) → 0 < digits → number ≤ most_steps → Printable row → ((i : ℕ) → i < length row.balls → nat_abs (get_or row.balls i no_ball).value < 10 ^ digits) → length (rows_text number (row ∷ [])) ≤ most_row digits (length row.balls)
unfolding rows_text bytes
length_row digits number row l h range values =
    rw append-nil (omega (arith, length-append (printed "row" (pos number) ++ printed "degree" (pos row.degree)) (quantities_text row.balls row.spans), length-append (printed "row" (pos number)) (printed "degree" (pos row.degree)), length_natural "row" 3 number (omega arith) (omega arith), length_natural "degree" 2 row.degree (omega arith) (omega (arith, range.degree)), length_quantities digits row.balls row.spans l values range.radii range.lows range.highs))

-- rows of n quantities, of which all but the last have passed
length_rows : (n number : ℕ) {rows : List Row} → Wide n rows → Each Printable rows → AllButLast (λ row. Passed row.balls) rows → number + length rows ≤ suc most_steps → length (rows_text number rows) ≤ length rows * most_row passed_digits n + n
unfolding rows_text most
length_rows n number none none empty h = omega arith
length_rows n number (entry_first {x = row} w none) (entry_first range none) last h =
    omega (arith, w.balls, length_row value_digits number row (omega arith) (omega arith) range (λ i k. omega (arith, range.values i k)), ap (λ (m : ℕ). most_row value_digits m) w.balls)
length_rows n number (entry_first {x = row} w (entry_first {x = next} {xs = rows} v wide)) (entry_first range ranges) (earlier p passed) h =
    omega (arith, ap length (rows_append number (row ∷ []) (next ∷ rows)), length-append (rows_text number (row ∷ [])) (rows_text (number + 1) (next ∷ rows)), length_row passed_digits number row (omega arith) (omega arith) range (λ i k. omega (arith, p i k)), ap (λ (m : ℕ). most_row passed_digits m) w.balls, length_rows n (number + 1) (entry_first v wide) ranges passed (omega arith), suc-mul (suc (length rows)) (most_row passed_digits n))

-- so many rows of n quantities, whichever is the last
pub rows_brief : (n count : ℕ) → n ≤ most_quantities → count ≤ most_steps → count * most_row value_digits n ≤ most_steps * most_row value_digits most_quantities
rows_brief n count h k = omega (arith, mul-le-mul_right (most_row value_digits n) k)

-- ---- the whole answer

pub length_run : (n : ℕ) (run : Run) → n ≤ most_quantities → length run.rows ≤ most_steps → Wide n run.rows → Each Printable run.rows → AllButLast (λ row. Passed row.balls) run.rows → refused_step run.outcome ≤ most_steps → length (run_text run) ≤ most_answer
unfolding run_text
length_run n run few short wide ranges passed step =
    omega (arith, length-append (rows_text 1 run.rows) (outcome_text run.outcome), length_rows n 1 wide ranges passed (omega arith), length_outcome run.outcome (omega (arith, step)), mul-le-mul_right (most_row passed_digits n) short)

-- ---- no fewer would do: there are a printable row and an outcome of so many bytes

longest_ball : Ball
longest_ball = record { value = neg_ℤ (pos most_value); radius = most }

longest_span : Span
longest_span = record { low = neg_ℤ (pos most_span); high = neg_ℤ (pos most_span) }

longest_row : Row
longest_row =
    record { degree = most_degree; balls = tabulate most_quantities (λ i. longest_ball); spans = tabulate most_quantities (λ i. longest_span) }

longest_printable : Printable longest_row
unfolding longest_row longest_ball longest_span most tabulate
longest_printable =
    record { degree = omega arith; values = λ i h. rw (each i h) (omega arith); radii = λ i h. rw (each i h) (omega arith); lows = λ i h. rw (each_span i h) (omega arith); highs = λ i h. rw (each_span i h) (omega arith) }
  where
    each_span : (i : ℕ) → i < length longest_row.spans → get_or longest_row.spans i no_span ≡ longest_span
    each_span i h = get_or_tabulate most_quantities (λ i. longest_span) no_span i h

    each : (i : ℕ) → i < length longest_row.balls → get_or longest_row.balls i no_ball ≡ longest_ball
    each i h = get_or_tabulate most_quantities (λ i. longest_ball) no_ball i h

row_reached : length (rows_text most_steps (longest_row ∷ [])) ≡ most_row value_digits most_quantities
unfolding longest_row longest_ball longest_span rows_text quantities_text printed bytes decimal decimal_by digit most tabulate
row_reached = refl

outcome_reached : length (outcome_text (refused_at RowOutOfRange most_steps)) ≡ most_outcome
unfolding outcome_text printed bytes decimal decimal_by digit number result refused_step
outcome_reached = refl

-- the bound is this number
pub most_answer_is : most_answer ≡ 132985
most_answer_is = refl
