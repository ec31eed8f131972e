-- Every row that a passage writes keeps to a range: by questions 4 and 5 and the sharp bound its values, lows and highs, by question 6 its radii. `most` is 2^29.
use Prim.Native.Nat.{ℕ, ◌+◌, ◌*◌, ◌≤◌, ◌<◌}
use mathlib.Core.Path.{◌≡◌, refl}
use mathlib.Core.List.{List}
use native.Mathlib.Nat.{le_trans, zero-mul, mul-le-mul_right}
use native.Mathlib.Omega.{arith}
use lib.IntN.{ℤ, nat_abs}
use lib.ListN.{length, get_or}
use Rattle.model.specs.Sheet.{most, most_steps, refused_step, passes, sheet_verdict, terms_of}
use Rattle.model.specs.LikeTerms.{gathered}
use Rattle.model.specs.Step.{no_span, no_ball, reach, greatest, Row, no_row}
use Rattle.model.specs.declared.Ball.{Ball}
use Rattle.model.specs.Passage.{moves, advance, refused, places_needed, passage}
use Rattle.model.specs.Rows.{width, written}
use Rattle.laws.specs.Bounds.{InBounds}
use Rattle.enclosure.specs.RowRange.{Printable, RowsPrintable}
use Rattle.model.specs.declared.Sheet.{Sheet}
use Rattle.enclosure.proofs.RowBounds.{row_sharp, Spread, spans_sharp}
use Rattle.laws.proofs.Bounds.Invariant.{greatest_le_most}
use Rattle.laws.proofs.Passages.RowsOfPassage.{AllButLast, empty, run_each, run_earlier, rows_of_run, rows_of_passage, passage_either}
use Rattle.ranges.proofs.Lists.{Each, none, each_at}
use Rattle.laws.proofs.Passages.RowPlaces.{Quantities, row_written}
use Rattle.laws.proofs.Bounds.SheetBounds.{bounds_of_step, counts_of_sheet}
use Rattle.laws.proofs.Gathering.GatheredBounds.{bounds_of_gathered}
use Rattle.laws.proofs.Steps.StepTaken.{Taken, step_taken, quantities_stay, row_of_quantities, degree_at_most}
use Rattle.enclosure.proofs.Orders.{all_tolerated}

row_in_range : (sheet : Sheet) → sheet_verdict sheet ≡ passes → (balls : List Ball) (row : Row) → length balls ≡ sheet.head.n → advance (gathered (terms_of sheet)) sheet.head.step sheet.head.tail sheet.head.tol balls ≡ moves row → Printable row
row_in_range sheet passed balls row l e =
    record {
      degree = degree_at_most _ _ _ _ balls e;
      values = λ i h. omega (arith, value_at i h, radius_at i h, greatest_le_most bounds);
      radii = radius_at;
      lows = λ i h. omega (arith, (span_at i h).0, radius_at i (held i h), greatest_le_most bounds);
      highs = λ i h. omega (arith, (span_at i h).1, radius_at i (held i h), greatest_le_most bounds);
    }
  where
    taken : Taken (gathered (terms_of sheet)) sheet.head.step sheet.head.tail sheet.head.tol balls row
    taken = step_taken _ _ _ _ balls e

    bounds : InBounds (gathered (terms_of sheet)) sheet.head.step balls
    bounds = bounds_of_step balls (rw l (bounds_of_gathered most_steps sheet passed)) taken.is_small taken.is_slow

    radius_at : (i : ℕ) → i < length row.balls → (get_or row.balls i no_ball).radius ≤ most
    radius_at i h = le_trans ((all_tolerated sheet.head.tol row.balls taken.is_tolerable).within i h) (counts_of_sheet sheet passed).tol_high

    value_at : (i : ℕ) → i < length row.balls → nat_abs (get_or row.balls i no_ball).value ≤ 2 * greatest balls + (get_or row.balls i no_ball).radius
    value_at i h =
        rw taken.is_row (row_sharp (gathered (terms_of sheet)) (record { absent = bounds.sheet.formed }) sheet.head.step balls taken.is_slow i sheet.head.tail (rw (quantities_stay _ _ _ _ balls e) at h))

    wide : Quantities (length balls) row
    wide = row_of_quantities _ _ _ _ balls e refl

    held : (i : ℕ) → i < length row.spans → i < length row.balls
    held i h = omega (arith, wide.balls, wide.spans)

    span_at : (i : ℕ) → i < length row.spans → Spread (greatest balls) row i
    span_at i h =
        rw taken.is_row (spans_sharp (gathered (terms_of sheet)) (record { absent = bounds.sheet.formed }) sheet.head.step balls taken.is_slow i sheet.head.tail (rw wide.spans at h))

pub passage_in_range : (sheet : Sheet) (places : ℕ) → Each Printable (passage sheet places).rows
unfolding refused
passage_in_range sheet places =
    passage_either sheet places (λ run. Each Printable run.rows) (λ r. none) (λ e room. run_each sheet Printable (row_in_range sheet e))

-- and question 4 has let every row pass that another one follows
abbrev pub Passed : List Ball → Type 0
Passed balls = (i : ℕ) → i < length balls → nat_abs (get_or balls i no_ball).value ≤ most

passed_before : (sheet : Sheet) → sheet_verdict sheet ≡ passes → (balls : List Ball) (row : Row) → length balls ≡ sheet.head.n → advance (gathered (terms_of sheet)) sheet.head.step sheet.head.tail sheet.head.tol balls ≡ moves row → Passed balls
unfolding reach
passed_before sheet passed balls row l e i h = omega (arith, bounds.small i h)
  where
    bounds : InBounds (gathered (terms_of sheet)) sheet.head.step balls
    bounds =
        let taken = step_taken _ _ _ _ balls e in
        bounds_of_step balls (rw l (bounds_of_gathered most_steps sheet passed)) taken.is_small taken.is_slow

pub passage_earlier : (sheet : Sheet) (places : ℕ) → AllButLast (λ row. Passed row.balls) (passage sheet places).rows
unfolding refused
passage_earlier sheet places =
    passage_either sheet places (λ run. AllButLast (λ row. Passed row.balls) run.rows) (λ r. empty) (λ e room. run_earlier sheet Passed (passed_before sheet e))

-- the same of its rows as they stand in the lent buffer
pub written_in_range : (sheet : Sheet) (lent : ℕ) (before : List ℤ) → let rows = (passage sheet lent).rows in RowsPrintable sheet.head.n (length rows) (written rows before)
written_in_range sheet lent before j h =
    rw (row_written (rows_of_passage sheet lent).wide before j h) (each_at no_row (passage_in_range sheet lent) j h)

-- refused at the last of the most steps, or before ..
pub passage_step : (sheet : Sheet) (lent : ℕ) → refused_step (passage sheet lent).outcome ≤ most_steps
unfolding refused refused_step
passage_step sheet lent =
    passage_either sheet lent (λ run. refused_step run.outcome ≤ most_steps) (λ r. omega arith) (λ e room. le_trans (rows_of_run sheet).refused_at (counts_of_sheet sheet e).steps_high)

-- .. no more rows than the most steps ..
pub passage_few : (sheet : Sheet) (places : ℕ) → length (passage sheet places).rows ≤ most_steps
unfolding refused
passage_few sheet places =
    passage_either sheet places (λ run. length run.rows ≤ most_steps) (λ r. omega arith) (λ e room. le_trans (rows_of_run sheet).fits (counts_of_sheet sheet e).steps_high)

-- .. and no more places than were lent
pub passage_fits : (sheet : Sheet) (lent : ℕ) → length (passage sheet lent).rows * width sheet.head.n ≤ lent
unfolding refused places_needed
passage_fits sheet lent =
    passage_either sheet lent (λ run. length run.rows * width sheet.head.n ≤ lent) (λ r. omega (arith, zero-mul (width sheet.head.n))) (λ e room. le_trans (mul-le-mul_right (width sheet.head.n) (rows_of_run sheet).fits) room)

-- what that range is, in numbers
pub printable_says : {row : Row} → Printable row → (row.degree ≤ 28) × (((i : ℕ) → i < length row.balls → (nat_abs (get_or row.balls i no_ball).value ≤ 1610612736) × ((get_or row.balls i no_ball).radius ≤ 536870912)) × ((i : ℕ) → i < length row.spans → (nat_abs (get_or row.spans i no_span).low ≤ 2147483648) × (nat_abs (get_or row.spans i no_span).high ≤ 2147483648)))
unfolding most
printable_says p = (p.degree, (λ i h. (p.values i h, p.radii i h), λ i h. (p.lows i h, p.highs i h)))
