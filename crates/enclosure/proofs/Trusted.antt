-- Demand 3 of a whole passage: its rows are trusted, whatever the sheet and however many places are lent.
-- One induction over the rows, by the gathered terms, whose exact sums are those of the terms as read; each step taken had its questions answered
-- yes. The first of such rows are trusted too.
use Prim.Native.Nat.{ℕ, zero, suc, ◌≤◌, ◌<◌, max}
use mathlib.Core.List.{List, [], ◌∷◌}
use mathlib.Core.Path.{◌≡◌, refl, ap, ap₂, ◌∙◌}
use native.Mathlib.Omega.{arith}
use native.Mathlib.Nat.{suc_inj, le-max_right, max-eq_left}
use lib.IntN.{ℤ}
use lib.ListN.{length, get_or, take}
use lib.Seq.{get_or-take, length-take-le}
use Rattle.ranges.specs.Range.{tabulate}
use Rattle.model.specs.Sheet.{scale, most_steps, passes, sheet_verdict_to, terms_of, starts_of}
use Rattle.enclosure.specs.Exact.{State, exact_sum}
use Rattle.model.specs.LikeTerms.{gathered}
use Rattle.model.specs.Step.{Row, no_row}
use Rattle.model.specs.declared.Ball.{Ball}
use Rattle.model.specs.Passage.{Advance, moves, stops, advance, Run, refused, go_on, follow, run, passage}
use Rattle.enclosure.specs.Trust.{LiesWithin, Tolerated, state_after, NoLower, Trusted, TrustedOf}
use Rattle.model.specs.declared.Sheet.{Sheet}
use Rattle.model.specs.declared.Term.{Term}
use Rattle.enclosure.proofs.Enclosed.{step_encloses}
use Rattle.enclosure.proofs.Majorant.{WellFormed}
use Rattle.laws.proofs.Passages.RowsOfPassage.{passage_either}
use Rattle.ranges.proofs.Ranges.{below, length_tabulate, get_or_tabulate}
use Rattle.enclosure.proofs.GatheredRates.{rates_gathered, trusted_same}
use Rattle.laws.proofs.Gathering.GatheredBounds.{bounds_of_gathered}
use Rattle.laws.proofs.Steps.StepTaken.{Taken, step_taken}
use Rattle.enclosure.proofs.Orders.{all_tolerated}

-- ---- rows, one after the other

module _ (terms : List Term) (H : ℤ) where
  -- the states after the first step are those that the first state leads to
  state_shifts : (K : ℕ) (degrees : List ℕ) (state : State) (j : ℕ) → state_after terms H (K ∷ degrees) state (suc j) ≡ state_after terms H degrees (exact_sum terms H scale K state) j
  unfolding state_after
  state_shifts K degrees state zero = refl
  state_shifts K degrees state (suc j) = ap (exact_sum terms H scale (get_or degrees j 0)) (state_shifts K degrees state j)

  pub no_rows_trusted : (tol : ℕ) (balls : List Ball) → Trusted terms H tol balls []
  unfolding Trusted
  no_rows_trusted tol balls state within degrees lower j lt = absurd (omega arith)

  -- a row that encloses every exact sum from the balls before it, and then rows that are trusted from its own balls
  row_then_trusted : (tol : ℕ) (balls : List Ball) (row : Row) (rows : List Row) → ((state : State) → LiesWithin balls state → (K : ℕ) → row.degree ≤ K → LiesWithin row.balls (exact_sum terms H scale K state)) → Tolerated tol row.balls → Trusted terms H tol row.balls rows → Trusted terms H tol balls (row ∷ rows)
  unfolding Trusted state_after
  row_then_trusted tol balls row rows encloses tolerated rest state within [] lower j lt = absurd (omega (arith, lower.each))
  row_then_trusted tol balls row rows encloses tolerated rest state within (K ∷ degrees) lower zero lt =
      (encloses state within K (lower.lower 0 (omega arith)), tolerated)
  row_then_trusted tol balls row rows encloses tolerated rest state within (K ∷ degrees) lower (suc j) lt =
      rw (state_shifts K degrees state (suc j)) (rest (exact_sum terms H scale K state) (encloses state within K (lower.lower 0 (omega arith))) degrees later j (omega arith))
    where
      later : NoLower degrees rows
      later = record { each = suc_inj lower.each; lower = λ i lt. lower.lower (suc i) (omega arith) }

  -- state j looks at no more than the first j degrees
  states_alike : (degrees longer : List ℕ) (state : State) (j : ℕ) → ((i : ℕ) → i < j → get_or longer i 0 ≡ get_or degrees i 0) → state_after terms H longer state j ≡ state_after terms H degrees state j
  unfolding state_after
  states_alike degrees longer state zero h = refl
  states_alike degrees longer state (suc j) h = ap₂ (exact_sum terms H scale) (h j (omega arith)) (states_alike degrees longer state j (below j h))

  -- the first rows of rows that are trusted are trusted: the later rows get their own degrees
  pub trusted_prefix : (tol : ℕ) (starts : List Ball) (rows : List Row) (count : ℕ) → count ≤ length rows → Trusted terms H tol starts rows → Trusted terms H tol starts (take count rows)
  unfolding Trusted
  trusted_prefix tol starts rows count few trusted state within degrees lower j lt =
      let h : j < count = omega (arith, length-take-le count rows few) in
      rw (get_or-take count rows j no_row h, ← (states_alike degrees longer state (suc j) (λ i l. kept i (omega arith)))) (trusted state within longer no_lower j (omega arith))
    where
      raised : ℕ → ℕ
      raised i = max (get_or degrees i 0) (get_or rows i no_row).degree

      longer : List ℕ
      longer = tabulate (length rows) raised

      no_lower : NoLower longer rows
      no_lower = record { each = length_tabulate (length rows) raised; lower = λ i l. rw (get_or_tabulate (length rows) raised 0 i l) (le-max_right _ _) }

      kept : (i : ℕ) → i < count → get_or longer i 0 ≡ get_or degrees i 0
      kept i l =
          get_or_tabulate (length rows) raised 0 i (omega arith) ∙ max-eq_left (rw (get_or-take count rows i no_row) at (lower.lower i (omega (arith, length-take-le count rows few))))

-- ---- step after step

module _ (terms : List Term) (H : ℤ) (limit tol : ℕ) (formed : WellFormed terms) where
  taken_encloses : (balls : List Ball) (row : Row) → Taken terms H limit tol balls row → (state : State) → LiesWithin balls state → (K : ℕ) → row.degree ≤ K → LiesWithin row.balls (exact_sum terms H scale K state)
  taken_encloses balls row taken state within K h =
      rw taken.is_row (step_encloses terms formed H balls taken.is_slow state within limit K (rw taken.is_row at h))

  go_on_trusted : (step : ℕ) (balls : List Ball) (rest : Row → Run) (next : Advance) → advance terms H limit tol balls ≡ next → ((row : Row) → Trusted terms H tol row.balls (rest row).rows) → Trusted terms H tol balls (go_on next step rest).rows
  unfolding go_on refused
  go_on_trusted step balls rest (moves row) e trusted =
      let taken = step_taken terms H limit tol balls e in
      row_then_trusted terms H tol balls row (rest row).rows (taken_encloses balls row taken) (all_tolerated tol row.balls taken.is_tolerable) (trusted row)
  go_on_trusted step balls rest (stops r) e trusted = no_rows_trusted terms H tol balls

  pub follow_trusted : (left step : ℕ) (balls : List Ball) → Trusted terms H tol balls (follow terms H limit tol left step balls).rows
  unfolding follow
  follow_trusted zero step balls = no_rows_trusted terms H tol balls
  follow_trusted (suc left) step balls =
      go_on_trusted step balls (λ row. follow terms H limit tol left (suc step) row.balls) (advance terms H limit tol balls) refl (λ row. follow_trusted left (suc step) row.balls)

-- ---- a sheet and its passage

-- any steps of a sheet, however many it may have, from any values and radii
pub steps_trusted : (high : ℕ) (sheet : Sheet) → sheet_verdict_to high sheet ≡ passes → (left step : ℕ) (balls : List Ball) → Trusted (terms_of sheet) sheet.head.step sheet.head.tol balls (follow (gathered (terms_of sheet)) sheet.head.step sheet.head.tail sheet.head.tol left step balls).rows
steps_trusted high sheet e left step balls =
    trusted_same (gathered (terms_of sheet)) (terms_of sheet) (rates_gathered (terms_of sheet)) sheet.head.step sheet.head.tol balls _ (follow_trusted (gathered (terms_of sheet)) sheet.head.step sheet.head.tail sheet.head.tol (record { absent = (bounds_of_gathered high sheet e).formed }) left step balls)

pub run_trusted : (high : ℕ) (sheet : Sheet) → sheet_verdict_to high sheet ≡ passes → TrustedOf sheet (run sheet).rows
unfolding TrustedOf run
run_trusted high sheet e = steps_trusted high sheet e sheet.head.steps 1 (starts_of sheet)

-- Demand 3, of every sheet, with any number of places lent.
pub passage_trusted : (sheet : Sheet) (places : ℕ) → TrustedOf sheet (passage sheet places).rows
unfolding TrustedOf refused
passage_trusted sheet places =
    passage_either sheet places (λ run. TrustedOf sheet run.rows) (λ r. no_rows_trusted (terms_of sheet) sheet.head.step sheet.head.tol (starts_of sheet)) (λ e room. run_trusted most_steps sheet e)
