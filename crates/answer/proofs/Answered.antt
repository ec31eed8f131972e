-- What comes of a sheet's bytes with lent places: with places enough it is document 01's; its rows stand in the buffer and are trusted.
use Rattle.std.specs.Prelude.{Err, Ok}
use Prim.Native.Nat.{ℕ, ◌*◌, ◌≤◌, ◌<◌}
use mathlib.Core.List.{List, [], ◌∷◌}
use mathlib.Core.Path.{◌≡◌, refl, sym, ap, ◌∙◌}
use native.Mathlib.Omega.{arith}
use native.Mathlib.Nat.{le_trans, le_refl}
use lib.IntN.{ℤ}
use lib.ListN.{length, take}
use lib.Seq.{take_all}
use Rattle.model.specs.Answer.{answer, run_text, run_of}
use Rattle.model.specs.Rows.{width, places, written, rows_in}
use Rattle.enclosure.specs.RowRange.{RowsPrintable}
use Rattle.model.specs.Passage.{Run, passage, run, refused, places_needed, rows_written}
use Rattle.model.specs.Reading.{read_sheet}
use Rattle.model.specs.Sheet.{most_bytes, most_quantities, most_steps, result, refused_step, n_limits, head_verdict, no_head, sheet_verdict_to, sheet_verdict, refuses, no_sheet, in_range, ask, within, from◌to◌, ◌then◌, Outcome, not_refused, refused_at}
use Rattle.enclosure.specs.Trust.{TrustedOf, SpannedOf, Leaves}
use Rattle.model.specs.declared.Refusal.{Refusal}
use Rattle.model.specs.declared.Refusal.TheVariants.{OutOfRange}
use Rattle.model.specs.declared.ReadSheet.{ReadSheet}
use Rattle.model.specs.declared.Sheet.{Sheet}
use Rattle.laws.proofs.Text.Readings.{accepted_is_acceptable, refused_is_zeros, read_from_front}
use Rattle.laws.proofs.Passages.RowPlaces.{Wide, rows_in_written, places_length, written_length, rows_fit}
use Rattle.laws.proofs.Passages.RowsOfPassage.{rows_of_passage, passage_refused, passage_runs}
use Rattle.enclosure.proofs.RowRange.{passage_in_range, passage_earlier, written_in_range, passage_step, passage_few, passage_fits}
use Rattle.enclosure.proofs.PromisedRows.{rows_leave}
use Rattle.enclosure.proofs.Spanned.{passage_spanned}
use Rattle.enclosure.proofs.Trusted.{passage_trusted}
use Rattle.laws.proofs.Bounds.SheetBounds.{Counts, counts_of_sheet}
use Rattle.answer.specs.declared.Ended.{Ended}
use Rattle.rows.specs.Room.{HasRows}
use Rattle.printing.specs.Pieces.{Printed}
use Rattle.printing.proofs.Pieces.{printed_whole}
use Rattle.printing.specs.AnswerLength.{most_answer}
use Rattle.printing.proofs.AnswerLength.{length_run}
use Rattle.answer.specs.Answered.{run_lent, ended_of, Ran, summary_of, FrontOf, AnswersAlike}

-- ---- the sheet that is read

-- a sheet of zeros is out of range
zeros_refused : sheet_verdict no_sheet ≡ refuses OutOfRange
unfolding sheet_verdict_to head_verdict no_sheet no_head in_range ask within n_limits from◌to◌ ◌then◌
zeros_refused = refl

-- those of a sheet that was read
counts_of_accepted : (sheet : List ℕ) → (read_sheet sheet).outcome ≡ not_refused → Counts (read_sheet sheet).sheet
counts_of_accepted sheet e = counts_of_sheet (read_sheet sheet).sheet (accepted_is_acceptable most_steps sheet e).verdict

-- no more quantities than the most, and none where it was refused
few_quantities : (sheet : List ℕ) → (read_sheet sheet).sheet.head.n ≤ most_quantities
few_quantities sheet = go (read_sheet sheet).outcome refl
  where
    go : (outcome : Outcome) → (read_sheet sheet).outcome ≡ outcome → (read_sheet sheet).sheet.head.n ≤ most_quantities
    go (Ok done) e = (counts_of_accepted sheet e).n_high
    go (Err refused) e = unfold no_sheet no_head in rw (refused_is_zeros most_steps sheet e).zeros (omega arith)

-- ---- by what the sheet is read as

module _ (sheet : List ℕ) (lent : ℕ) where
  -- a sheet that is refused in reading has that refusal and no row, and any other is run with the places lent
  pub lent_refused : {r : Refusal} {step : ℕ} → (read_sheet sheet).outcome ≡ refused_at r step → run_lent sheet lent ≡ refused r step
  unfolding run_lent
  lent_refused e = rw (e, run_lent)

  pub lent_accepted : (read_sheet sheet).outcome ≡ not_refused → run_lent sheet lent ≡ passage (read_sheet sheet).sheet lent
  unfolding run_lent
  lent_accepted e = rw (e, run_lent)

  -- the rows are those of the passage of the sheet as read: a refused one is that of zeros, whose passage has no rows either
  pub rows_are : (run_lent sheet lent).rows ≡ (passage (read_sheet sheet).sheet lent).rows
  rows_are = go (read_sheet sheet).outcome refl
    where
      go : (outcome : Outcome) → (read_sheet sheet).outcome ≡ outcome → (run_lent sheet lent).rows ≡ (passage (read_sheet sheet).sheet lent).rows
      go (Ok done) e = ap (λ (run : Run). run.rows) (lent_accepted e)
      go (Err refused) e = unfold refused in rw (lent_refused e, (refused_is_zeros most_steps sheet e).zeros, passage_refused no_sheet lent zeros_refused)

  -- ---- the rows

  wide : Wide (read_sheet sheet).sheet.head.n (run_lent sheet lent).rows
  wide = rw rows_are (rows_of_passage (read_sheet sheet).sheet lent).wide

  -- they have their places, since refusal 5 comes first
  fit : length (run_lent sheet lent).rows * width (read_sheet sheet).sheet.head.n ≤ lent
  fit = rw rows_are (passage_fits (read_sheet sheet).sheet lent)

  few : length (run_lent sheet lent).rows ≤ most_steps
  few = rw rows_are (passage_few (read_sheet sheet).sheet lent)

  -- no step past the most is refused; a text that is refused in reading is so before step 1
  early : refused_step (run_lent sheet lent).outcome ≤ most_steps
  early = go (read_sheet sheet).outcome refl
    where
      go : (outcome : Outcome) → (read_sheet sheet).outcome ≡ outcome → refused_step (run_lent sheet lent).outcome ≤ most_steps
      go (Ok done) e = rw (lent_accepted e) (passage_step (read_sheet sheet).sheet lent)
      go (Err refused) e = unfold refused refused_step in rw (lent_refused e, (refused_is_zeros most_steps sheet e).before_steps) (omega arith)

  -- the text has no more bytes than the longest answer
  short : length (run_text (run_lent sheet lent)) ≤ most_answer
  short =
      let read = (read_sheet sheet).sheet in
      length_run read.head.n (run_lent sheet lent) (few_quantities sheet) few wide (rw rows_are (passage_in_range read lent)) (rw rows_are (passage_earlier read lent)) early

-- read back from the buffer, they are the same
read_back : (sheet : List ℕ) (before : List ℤ) → let rows = (run_lent sheet (length before)).rows in rows_in (read_sheet sheet).sheet.head.n (length rows) (written rows before) ≡ rows
read_back sheet before = rows_in_written (wide sheet (length before)) before

-- ---- a sheet that was read and run

module _ (sheet : List ℕ) {read : ReadSheet} (is : read ≡ read_sheet sheet) (before : List ℤ) where
  outcome_is : {outcome : Outcome} → read.outcome ≡ outcome → (read_sheet sheet).outcome ≡ outcome
  outcome_is told = ap (λ (x : ReadSheet). x.outcome) (sym is) ∙ told

  pub ran_refused : {r : Refusal} {step : ℕ} → read.outcome ≡ refused_at r step → Ran sheet before before (record { n = read.sheet.head.n; count = 0; outcome = read.outcome })
  unfolding ended_of refused written places
  ran_refused told =
      let e = outcome_is told in
      record { answer = rw (lent_refused sheet (length before) e, is, e); buffer = rw (lent_refused sheet (length before) e) }

  pub ran_accepted : {outcome : Outcome} {after : List ℤ} → read.outcome ≡ not_refused → outcome ≡ (passage read.sheet (length before)).outcome → after ≡ written (passage read.sheet (length before)).rows before → Ran sheet before after (record { n = read.sheet.head.n; count = rows_written read.sheet outcome; outcome = outcome })
  unfolding ended_of
  ran_accepted told ended left =
      let run = lent_accepted sheet (length before) (outcome_is told) ∙ ap (λ (x : ReadSheet). passage x.sheet (length before)) (sym is) in
      record {
        answer = rw (run, ended, (rows_of_passage read.sheet (length before)).count, is);
        buffer = rw run left;
      }

module _ (sheet : List ℕ) {before after : List ℤ} {ended : Ended} (ran : Ran sheet before after ended) where
  pub ran_text : run_text (record { rows = rows_in ended.n ended.count after; outcome = ended.outcome }) ≡ run_text (run_lent sheet (length before))
  unfolding ended_of
  ran_text = rw (ran.answer, ran.buffer, read_back sheet before)

  pub ran_bounds : HasRows ended.n ended.count after × (ended.count ≤ most_steps)
  unfolding ended_of
  ran_bounds = rw (ran.answer, ran.buffer) (record { few = few_quantities sheet; room = rw same_length (fit sheet lent) }, few sheet lent)
    where
      lent : ℕ
      lent = length before

      same_length : length (written (run_lent sheet lent).rows before) ≡ lent
      same_length = written_length (run_lent sheet lent).rows before (rw (places_length (wide sheet lent)) (fit sheet lent))

  pub ran_in_range : RowsPrintable ended.n ended.count after
  unfolding ended_of
  ran_in_range = rw (ran.answer, ran.buffer, rows_are sheet (length before)) (written_in_range (read_sheet sheet).sheet (length before) before)

  pub ran_step : refused_step ended.outcome ≤ most_steps
  unfolding ended_of
  ran_step = rw ran.answer (early sheet (length before))

  pub ran_short : {before_text after_text : List ℕ} {count : ℕ} → Printed before_text (run_text (run_lent sheet (length before))) count after_text → count ≤ most_answer
  ran_short p = omega (arith, p.counted, short sheet (length before))

  pub ran_leaves : Leaves (read_sheet sheet).sheet (run_lent sheet (length before)) before after
  ran_leaves = rows_leave (read_sheet sheet).sheet (run_lent sheet (length before)) before (wide sheet (length before)) trusted spanned ran.buffer
    where
      trusted : TrustedOf (read_sheet sheet).sheet (run_lent sheet (length before)).rows
      trusted = rw (rows_are sheet (length before)) (passage_trusted (read_sheet sheet).sheet (length before))

      spanned : SpannedOf (read_sheet sheet).sheet (run_lent sheet (length before)).rows
      spanned = rw (rows_are sheet (length before)) (passage_spanned (read_sheet sheet).sheet (length before))

-- ---- with places enough, document 01's answer

needs_at_most : (sheet : Sheet) {lent : ℕ} → sheet.head.n ≤ most_quantities → sheet.head.steps ≤ most_steps → most_steps * width most_quantities ≤ lent → places_needed sheet ≤ lent
unfolding places_needed
needs_at_most sheet n steps enough = le_trans (rows_fit sheet.head.steps sheet.head.n steps n) enough

enough_is_run : (sheet : List ℕ) (lent : ℕ) → most_steps * width most_quantities ≤ lent → run_lent sheet lent ≡ run_of sheet
unfolding run_of
enough_is_run sheet lent enough = go (read_sheet sheet).outcome refl
  where
    go : (outcome : Outcome) → (read_sheet sheet).outcome ≡ outcome → run_lent sheet lent ≡ run_of sheet
    go (Ok done) e =
        let counts = counts_of_accepted sheet e in
        lent_accepted sheet lent e ∙ passage_runs (read_sheet sheet).sheet lent (accepted_is_acceptable most_steps sheet e).verdict (needs_at_most (read_sheet sheet).sheet counts.n_high counts.steps_high enough) ∙ sym (rw (e, run_of))
    go (Err refused) e = lent_refused sheet lent e ∙ sym (rw (e, run_of))

pub enough_is_answer : (sheet : List ℕ) (lent : ℕ) → most_steps * width most_quantities ≤ lent → run_text (run_lent sheet lent) ≡ answer sheet
unfolding answer
enough_is_answer sheet lent enough = ap run_text (enough_is_run sheet lent enough)

pub answer_trusted : (sheet : List ℕ) → TrustedOf (read_sheet sheet).sheet (run_of sheet).rows
unfolding TrustedOf
answer_trusted sheet =
    let places = most_steps * width most_quantities in
    rw (← (enough_is_run sheet places (le_refl places)), rows_are sheet places) (passage_trusted (read_sheet sheet).sheet places)

pub answer_spanned : (sheet : List ℕ) → SpannedOf (read_sheet sheet).sheet (run_of sheet).rows
unfolding SpannedOf
answer_spanned sheet =
    let places = most_steps * width most_quantities in
    rw (← (enough_is_run sheet places (le_refl places)), rows_are sheet places) (passage_spanned (read_sheet sheet).sheet places)

-- ---- an input of which the front was read

-- an input has a front, and bytes that fit are the front of an input: of themselves
front_of_each : (room : ℕ) (input : List ℕ) → FrontOf room input (take room input)
unfolding FrontOf
front_of_each room input = refl

front_of_itself : (room : ℕ) (bytes : List ℕ) → length bytes ≤ room → FrontOf room bytes bytes
unfolding FrontOf
front_of_itself room bytes fits = sym (take_all room bytes fits)

-- they are read alike, and so answered alike
answer_by_reading : {one other : List ℕ} → read_sheet one ≡ read_sheet other → AnswersAlike one other
unfolding answer run_of
answer_by_reading e =
    record {
      reading = e;
      text = ap (λ (read : ReadSheet). run_text (elim read.outcome [ Ok done ↦ run read.sheet | Err stop ↦ refused stop.refusal stop.step ])) e;
    }

pub alike_by_front : (room : ℕ) (input bytes : List ℕ) → most_bytes < room → FrontOf room input bytes → AnswersAlike input bytes
unfolding FrontOf
alike_by_front room input bytes enough e = answer_by_reading (sym (read_from_front most_steps room input enough) ∙ sym (ap read_sheet e))

-- ---- what the promises say

-- an answer that fits stands at the text's start, and is the text of the rows of which demand 3 holds
pub answer_stands : (sheet : List ℕ) {before after : List ℕ} {count : ℕ} → Printed before (answer sheet) count after → length (answer sheet) ≤ length before → take count after ≡ run_text (run_of sheet)
unfolding answer
answer_stands sheet printed h = printed_whole printed h

-- the four numbers: result, refused step, quantities, rows
pub summary_says : (sheet : List ℕ) (lent : ℕ) → let run = run_lent sheet lent in summary_of (ended_of sheet lent) ≡ result run.outcome ∷ refused_step run.outcome ∷ (read_sheet sheet).sheet.head.n ∷ length run.rows ∷ []
unfolding summary_of ended_of
summary_says sheet lent = refl

-- two inputs that are answered alike are read alike and have one answer
pub alike_answers : {one other : List ℕ} → AnswersAlike one other → (read_sheet one ≡ read_sheet other) × (answer one ≡ answer other)
alike_answers a = (a.reading, a.text)
