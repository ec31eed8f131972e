-- The water between the rows, of every passage: each row's lows and highs hold every exact sum within its step, from every state within the radii that the
-- step started from.
use Prim.Native.Nat.{ℕ, zero, suc, ◌*◌, ◌≤◌, ◌<◌}
use mathlib.Core.List.{List, [], ◌∷◌}
use mathlib.Core.Path.{◌≡◌, refl, ap}
use native.Mathlib.Omega.{arith}
use lib.IntN.{ℤ, pos, ◌*ℤ◌}
use lib.ListN.{length, take}
use lib.Seq.{length-take-le, get_or-take}
use Rattle.model.specs.Sheet.{scale, most_steps, passes, sheet_verdict_to, terms_of, starts_of}
use Rattle.enclosure.specs.Exact.{State, exact_sum}
use Rattle.model.specs.LikeTerms.{gathered}
use Rattle.model.specs.Step.{Row, no_row}
use Rattle.model.specs.declared.Ball.{Ball}
use Rattle.model.specs.Passage.{Advance, moves, stops, advance, Run, refused, go_on, follow, run, passage}
use Rattle.enclosure.specs.Trust.{LiesWithin, LiesBetween, start_of, Spanned, SpannedOf}
use Rattle.model.specs.declared.Sheet.{Sheet}
use Rattle.model.specs.declared.Term.{Term}
use Rattle.enclosure.proofs.SpannedStep.{step_between}
use Rattle.laws.proofs.Gathering.GatheredBounds.{bounds_of_gathered}
use Rattle.enclosure.proofs.GatheredRates.{rates_gathered, sum_same}
use Rattle.enclosure.proofs.Majorant.{WellFormed}
use Rattle.laws.proofs.Passages.RowsOfPassage.{passage_either}
use Rattle.laws.proofs.Steps.StepTaken.{step_taken}

-- a row whose spans hold every exact sum within a step of H from these balls
abbrev Holds : List Term → ℤ → List Ball → Row → Type 0
Holds terms H balls row =
    (state : State) → LiesWithin balls state → (u w : ℕ) → 0 < w → u ≤ w → (K : ℕ) → row.degree ≤ K → LiesBetween row.spans (exact_sum terms (H *ℤ pos u) (scale * w) K state)

pub no_rows_spanned : (terms : List Term) (H : ℤ) (balls : List Ball) → Spanned terms H balls []
unfolding Spanned
no_rows_spanned terms H balls j lt = absurd (omega arith)

-- the rows behind the first start from its balls
start_shifts : (balls : List Ball) (row : Row) (rows : List Row) (j : ℕ) → start_of balls (row ∷ rows) (suc j) ≡ start_of row.balls rows j
unfolding start_of
start_shifts balls row rows zero = refl
start_shifts balls row rows (suc j) = refl

row_then_spanned : (terms : List Term) (H : ℤ) (balls : List Ball) (row : Row) (rows : List Row) → Holds terms H balls row → Spanned terms H row.balls rows → Spanned terms H balls (row ∷ rows)
unfolding Spanned start_of
row_then_spanned terms H balls row rows holds rest zero lt state within = holds state within
row_then_spanned terms H balls row rows holds rest (suc j) lt state within = rest j (omega arith) state (rw (start_shifts balls row rows j) at within)

-- the first rows of rows that are spanned are spanned
pub spanned_prefix : (terms : List Term) (H : ℤ) (starts : List Ball) (rows : List Row) (count : ℕ) → count ≤ length rows → Spanned terms H starts rows → Spanned terms H starts (take count rows)
unfolding Spanned start_of
spanned_prefix terms H starts rows count few spanned j lt state within u w positive part K h =
    let here : j < count = omega (arith, length-take-le count rows few) in
    rw (get_or-take count rows j no_row here) (spanned j (omega arith) state (rw (start_in_prefix j here) at within) u w positive part K (rw (get_or-take count rows j no_row here) at h))
  where
    start_in_prefix : (j : ℕ) → j < count → start_of starts (take count rows) j ≡ start_of starts rows j
    start_in_prefix zero h = refl
    start_in_prefix (suc j) h = ap (λ (row : Row). row.balls) (get_or-take count rows j no_row (omega arith))

-- ---- step after step

module _ (terms : List Term) (H : ℤ) (limit tol : ℕ) (formed : WellFormed terms) where
  taken_holds : (balls : List Ball) (row : Row) → advance terms H limit tol balls ≡ moves row → Holds terms H balls row
  taken_holds balls row e state within u w positive part K h =
      let taken = step_taken terms H limit tol balls e in
      rw taken.is_row (step_between terms formed H balls taken.is_slow state within u w positive part limit K (rw taken.is_row at h))

  go_on_spanned : (step : ℕ) (balls : List Ball) (rest : Row → Run) (next : Advance) → advance terms H limit tol balls ≡ next → ((row : Row) → Spanned terms H row.balls (rest row).rows) → Spanned terms H balls (go_on next step rest).rows
  unfolding go_on refused
  go_on_spanned step balls rest (moves row) e spanned = row_then_spanned terms H balls row (rest row).rows (taken_holds balls row e) (spanned row)
  go_on_spanned step balls rest (stops r) e spanned = no_rows_spanned terms H balls

  follow_spanned : (left step : ℕ) (balls : List Ball) → Spanned terms H balls (follow terms H limit tol left step balls).rows
  unfolding follow
  follow_spanned zero step balls = no_rows_spanned terms H balls
  follow_spanned (suc left) step balls =
      go_on_spanned step balls (λ row. follow terms H limit tol left (suc step) row.balls) (advance terms H limit tol balls) refl (λ row. follow_spanned left (suc step) row.balls)

-- ---- a sheet and its passage

-- any steps of a sheet, however many it may have, from any values and radii: the gathered terms have the exact sums of the terms as read
pub steps_spanned : (high : ℕ) (sheet : Sheet) → sheet_verdict_to high sheet ≡ passes → (left step : ℕ) (balls : List Ball) → Spanned (terms_of sheet) sheet.head.step balls (follow (gathered (terms_of sheet)) sheet.head.step sheet.head.tail sheet.head.tol left step balls).rows
unfolding Spanned
steps_spanned high sheet e left step balls j lt state within u w positive part K h =
    rw (← (sum_same (gathered (terms_of sheet)) (terms_of sheet) (rates_gathered (terms_of sheet)) (sheet.head.step *ℤ pos u) (scale * w) K state)) (follow_spanned (gathered (terms_of sheet)) sheet.head.step sheet.head.tail sheet.head.tol (record { absent = (bounds_of_gathered high sheet e).formed }) left step balls j lt state within u w positive part K h)

pub run_spanned : (high : ℕ) (sheet : Sheet) → sheet_verdict_to high sheet ≡ passes → SpannedOf sheet (run sheet).rows
unfolding SpannedOf run
run_spanned high sheet e = steps_spanned high sheet e sheet.head.steps 1 (starts_of sheet)

-- Of every sheet, with any number of places lent.
pub passage_spanned : (sheet : Sheet) (places : ℕ) → SpannedOf sheet (passage sheet places).rows
unfolding SpannedOf refused
passage_spanned sheet places =
    passage_either sheet places (λ run. SpannedOf sheet run.rows) (λ r. no_rows_spanned (terms_of sheet) sheet.head.step (starts_of sheet)) (λ e room. run_spanned most_steps sheet e)
