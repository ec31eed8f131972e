-- What the conversion prints, by what a stored sheet is read as and what its first part comes to; with places enough it is document 02's.
use Rattle.std.specs.Prelude.{Err, Ok}
use Prim.Native.Nat.{ℕ, suc, ◌-◌, ◌*◌, ◌≤◌, ◌<◌}
use mathlib.Core.Bool.{true, false}
use mathlib.Core.List.{List, [], ◌++◌}
use mathlib.Core.Logic.{⊎_elim}
use mathlib.Core.Path.{◌≡◌, refl, sym, ap, ◌∙◌}
use native.Mathlib.Nat.{le_refl, le_trans}
use native.Mathlib.Omega.{arith}
use borrow.Author.Tests.{le-leb, lt-leb}
use lib.IntN.{ℤ}
use lib.ListN.{length, get_or, take}
use lib.Seq.{take_all}
use Rattle.ranges.specs.Range.{bytes}
use Rattle.model.specs.Sheet.{most_bytes, most_quantities, most_steps, stored_steps, number, result, refused_step, passes, sheet_verdict_to, no_head, no_sheet, Outcome, not_refused, refused_at}
use Rattle.model.specs.Reading.{read_sheet_to}
use Rattle.model.specs.Step.{Row, no_row}
use Rattle.model.specs.Passage.{small, Run, refused, run, passage, places_needed, rows_written}
use Rattle.model.specs.Rows.{width, places, written, row_in}
use Rattle.enclosure.specs.Trust.{TrustedOf, SpannedOf, Leaves}
use Rattle.model.specs.Answer.{outcome_text}
use Rattle.stored.specs.Conversion.{sheet_text, with_steps, first_part, second_part, last_balls, parts_text, split_text, converted_by, converted, ComesOutAs}
use Rattle.model.specs.declared.Ball.{Ball}
use Rattle.model.specs.declared.Sheet.{Sheet}
use Rattle.model.specs.declared.ReadSheet.{ReadSheet}
use Rattle.model.specs.declared.Refusal.{Refusal}
use Rattle.model.specs.declared.Refusal.TheVariants.{Oversized, TooLarge}
use Rattle.stored.proofs.Conversion.{first_passes, comes_out}
use Rattle.stored.proofs.LentInWords.{lent_refused, lent_short, lent_long}
use Rattle.ranges.proofs.Ranges.{before_or_past}
use Rattle.laws.proofs.Text.Readings.{accepted_is_acceptable, refused_is_zeros, long_text_is_oversized, read_from_front}
use Rattle.ranges.proofs.Lists as lists
use Rattle.laws.proofs.Passages.UnderWay.{RunInto}
use Rattle.enclosure.proofs.PromisedRows.{rows_leave}
use Rattle.enclosure.proofs.Spanned.{no_rows_spanned, passage_spanned}
use Rattle.enclosure.proofs.Trusted.{no_rows_trusted, passage_trusted}
use Rattle.laws.proofs.Passages.RowPlaces.{Wide, row_written, places_length, written_length, rows_fit}
use Rattle.laws.proofs.Passages.RowsOfPassage.{rows_of_passage, passage_runs}
use Rattle.enclosure.proofs.RowRange.{passage_step, passage_fits}
use Rattle.laws.proofs.Text.Verdicts.{few_in_sheet}
use Rattle.rows.specs.Room.{HasRow}
use Rattle.rows.proofs.Places.{has_row}
use Rattle.printing.specs.Pieces.{Printed}
use Rattle.printing.proofs.Pieces.{printed_whole}
use Rattle.printing.proofs.AnswerLength.{length_outcome}
use Rattle.answer.specs.Answered.{FrontOf}
use Rattle.stored.specs.Lent.{converted_lent, split_lent}
use Rattle.conversion.specs.Converted.{ComesOutWith, ConvertsAlike}

-- ---- the two parts

module _ (sheet : Sheet) (balls : List Ball) where
  pub parts_refused : small balls ≡ false → parts_text most_steps sheet balls ≡ outcome_text (refused_at TooLarge (suc most_steps))
  unfolding parts_text
  parts_refused e = rw (e, parts_text)

  pub parts_printed : small balls ≡ true → parts_text most_steps sheet balls ≡ sheet_text (first_part most_steps sheet) ++ bytes "\n" ++ sheet_text (second_part most_steps sheet balls)
  unfolding parts_text
  parts_printed e = rw (e, parts_text)

-- ---- a sheet of more steps than a passage may have

module _ (sheet : Sheet) (first : Run) where
  split_refused : {r : Refusal} {step : ℕ} → first.outcome ≡ refused_at r step → split_text most_steps sheet first ≡ outcome_text (refused_at r step)
  unfolding split_text
  split_refused e = rw (e, split_text)

  split_accepted : first.outcome ≡ not_refused → split_text most_steps sheet first ≡ parts_text most_steps sheet (last_balls first.rows)
  unfolding split_text parts_text
  split_accepted e = rw (e, split_text)

-- its first part has run
module _ (sheet : Sheet) {first : Sheet} (is : first ≡ first_part most_steps sheet) (before : List ℤ) {after : List ℤ} {outcome : Outcome} (ran : RunInto (passage first (length before)) before after outcome) where
  lent : Run
  lent = passage (first_part most_steps sheet) (length before)

  kept : RunInto lent before after outcome
  unfolding lent
  kept = rw is at ran

  pub kept_written : after ≡ written (passage (first_part most_steps sheet) (length before)).rows before
  unfolding lent
  kept_written = kept.1

  -- refused, no later than at its last step
  pub kept_early : refused_step outcome ≤ suc most_steps
  unfolding lent
  kept_early = rw kept.0 (omega (arith, passage_step (first_part most_steps sheet) (length before)))

  pub kept_refused : {r : Refusal} {step : ℕ} → outcome ≡ refused_at r step → outcome_text outcome ≡ split_text most_steps sheet (passage (first_part most_steps sheet) (length before))
  unfolding lent
  kept_refused told = ap outcome_text told ∙ sym (split_refused sheet lent (sym kept.0 ∙ told))

  -- or accepted, and then there is a row for each step
  module _ (told : outcome ≡ not_refused) where
    count : length lent.rows ≡ most_steps
    unfolding lent rows_written first_part with_steps
    count = (rows_of_passage (first_part most_steps sheet) (length before)).count ∙ ap (rows_written (first_part most_steps sheet)) (sym kept.0 ∙ told)

    fits : length (places lent.rows) ≤ length before
    unfolding lent
    fits =
        rw (places_length (rows_of_passage (first_part most_steps sheet) (length before)).wide) (passage_fits (first_part most_steps sheet) (length before))

    pub kept_last : sheet.head.n ≤ most_quantities → HasRow sheet.head.n (most_steps - 1) after
    unfolding lent first_part with_steps
    kept_last few =
        rw kept.1 (has_row {count = length lent.rows} (most_steps - 1) (omega (arith, count)) (record { few = few; room = rw (written_length lent.rows before fits) (passage_fits (first_part most_steps sheet) (length before)) }))

    last_row : row_in sheet.head.n after (most_steps - 1) ≡ get_or lent.rows (most_steps - 1) no_row
    unfolding lent first_part with_steps
    last_row =
        rw kept.1 (row_written (rows_of_passage (first_part most_steps sheet) (length before)).wide before (most_steps - 1) (omega (arith, count)))

    last_is : (row_in sheet.head.n after (most_steps - 1)).balls ≡ last_balls lent.rows
    unfolding lent last_balls first_part with_steps
    last_is =
        ap (λ (row : Row). row.balls) last_row ∙ ap (λ (k : ℕ). (get_or lent.rows (k - 1) no_row).balls) (sym count)

    pub kept_accepted : {balls : List Ball} → balls ≡ (row_in sheet.head.n after (most_steps - 1)).balls → parts_text most_steps sheet balls ≡ split_text most_steps sheet (passage (first_part most_steps sheet) (length before))
    unfolding lent
    kept_accepted read = ap (parts_text most_steps sheet) (read ∙ last_is) ∙ sym (split_accepted sheet lent (sym kept.0 ∙ told))

-- ---- a stored sheet, whatever its first part comes to

abbrev read_as : List ℕ → ReadSheet
read_as text = read_sheet_to stored_steps text

module _ (runs : Sheet → Run) (text : List ℕ) where
  by_refused : {r : Refusal} {step : ℕ} → (read_as text).outcome ≡ refused_at r step → converted_by most_steps stored_steps runs text ≡ outcome_text (refused_at r step)
  unfolding converted_by
  by_refused e = rw (e, converted_by)

  by_short : (read_as text).outcome ≡ not_refused → (read_as text).sheet.head.steps ≤ most_steps → converted_by most_steps stored_steps runs text ≡ text
  unfolding converted_by
  by_short e short = rw (e, converted_by, le-leb (read_as text).sheet.head.steps most_steps short)

  by_long : (read_as text).outcome ≡ not_refused → most_steps < (read_as text).sheet.head.steps → converted_by most_steps stored_steps runs text ≡ split_text most_steps (read_as text).sheet (runs (first_part most_steps (read_as text).sheet))
  unfolding converted_by
  by_long e long = rw (e, converted_by, lt-leb (read_as text).sheet.head.steps most_steps long)

-- ---- a stored sheet that was read

no_rows : (rows : List Row) (before : List ℤ) → rows ≡ [] → before ≡ written rows before
unfolding written places
no_rows rows before none = rw none

pub length_refused : (outcome : Outcome) → refused_step outcome ≤ suc most_steps → length (outcome_text outcome) ≤ most_bytes
length_refused outcome early = omega (arith, length_outcome outcome early)

not_oversized : not_refused ≡ refused_at Oversized 0 → ⊥
unfolding result number
not_oversized e = omega (arith, ap result e)

accepted_fits : (text : List ℕ) → (read_as text).outcome ≡ not_refused → length text ≤ most_bytes
accepted_fits text e = ⊎_elim too_long (λ (h : length text ≤ most_bytes). h) (before_or_past most_bytes (length text))
  where
    too_long : most_bytes < length text → length text ≤ most_bytes
    too_long h = absurd (not_oversized (sym e ∙ long_text_is_oversized stored_steps text h))

module _ (text : List ℕ) {read : ReadSheet} (is : read ≡ read_as text) (before : List ℤ) where
  came : {outcome : Outcome} → read.outcome ≡ outcome → (read_as text).outcome ≡ outcome
  came told = ap (λ (x : ReadSheet). x.outcome) (sym is) ∙ told

  module _ {r : Refusal} {step : ℕ} (told : read.outcome ≡ refused_at r step) where
    pub refused_printed : outcome_text read.outcome ≡ converted_lent text (length before)
    unfolding converted_lent
    refused_printed = ap outcome_text told ∙ sym (by_refused _ text (came told))

    pub refused_unwritten : before ≡ written (split_lent text (length before)).rows before
    refused_unwritten = no_rows _ before (unfold refused in ap (λ (run : Run). run.rows) (lent_refused text (length before) (came told)))

    pub refused_early : refused_step read.outcome ≤ suc most_steps
    unfolding refused_step
    refused_early = rw told (omega (arith, (refused_is_zeros stored_steps text (came told)).before_steps))

  module _ (told : read.outcome ≡ not_refused) where
    pub read_passes : sheet_verdict_to stored_steps read.sheet ≡ passes
    read_passes = rw is (accepted_is_acceptable stored_steps text (came told)).verdict

    pub read_fits : length text ≤ most_bytes
    read_fits = accepted_fits text (came told)

    module _ (short : read.sheet.head.steps ≤ most_steps) where
      pub short_printed : text ≡ converted_lent text (length before)
      unfolding converted_lent
      short_printed = sym (by_short _ text (came told) (rw is at short))

      pub short_unwritten : before ≡ written (split_lent text (length before)).rows before
      short_unwritten = no_rows _ before (ap (λ (run : Run). run.rows) (lent_short text (length before) (came told) (rw is at short)))

    module _ (long : most_steps < read.sheet.head.steps) where
      pub long_printed : split_text most_steps read.sheet (passage (first_part most_steps read.sheet) (length before)) ≡ converted_lent text (length before)
      unfolding converted_lent
      long_printed = sym (by_long _ text (came told) (rw is at long) ∙ ap (λ (x : ReadSheet). split_text most_steps x.sheet (passage (first_part most_steps x.sheet) (length before))) (sym is))

      pub long_written : {after : List ℤ} → after ≡ written (passage (first_part most_steps read.sheet) (length before)).rows before → after ≡ written (split_lent text (length before)).rows before
      long_written e =
          e ∙ ap (λ (x : ReadSheet). written (passage (first_part most_steps x.sheet) (length before)).rows before) is ∙ ap (λ (run : Run). written run.rows before) (sym (lent_long text (length before) (came told) (rw is at long)))

-- ---- the rows of the first part

-- a sheet that is refused, or has no more steps, has none of it; any other has those of its passage
module _ (text : List ℕ) (places : ℕ) where
  rows_either : (P : List Row → Type 0) → P [] → P (passage (first_part most_steps (read_as text).sheet) places).rows → P (split_lent text places).rows
  rows_either P none some = go (read_as text).outcome refl
    where
      go : (outcome : Outcome) → (read_as text).outcome ≡ outcome → P (split_lent text places).rows
      go (Err refused) e = unfold refused in rw (lent_refused text places e) none
      go (Ok done) e =
          ⊎_elim (λ (long : most_steps < (read_as text).sheet.head.steps). rw (lent_long text places e long) some) (λ (short : (read_as text).sheet.head.steps ≤ most_steps). rw (lent_short text places e short) none) (before_or_past most_steps (read_as text).sheet.head.steps)

  wide : Wide (first_part most_steps (read_as text).sheet).head.n (split_lent text places).rows
  wide = rows_either (Wide (first_part most_steps (read_as text).sheet).head.n) lists.none (rows_of_passage (first_part most_steps (read_as text).sheet) places).wide

module _ (text : List ℕ) (before : List ℤ) {after : List ℤ} (buffer : after ≡ written (split_lent text (length before)).rows before) where
  pub split_leaves : Leaves (first_part most_steps (read_as text).sheet) (split_lent text (length before)) before after
  split_leaves = rows_leave (first_part most_steps (read_as text).sheet) (split_lent text (length before)) before (wide text (length before)) trusted spanned buffer
    where
      trusted : TrustedOf (first_part most_steps (read_as text).sheet) (split_lent text (length before)).rows
      trusted =
          rows_either text (length before) (TrustedOf (first_part most_steps (read_as text).sheet)) (unfold TrustedOf in no_rows_trusted _ _ _ _) (passage_trusted (first_part most_steps (read_as text).sheet) (length before))

      spanned : SpannedOf (first_part most_steps (read_as text).sheet) (split_lent text (length before)).rows
      spanned =
          rows_either text (length before) (SpannedOf (first_part most_steps (read_as text).sheet)) (unfold SpannedOf in no_rows_spanned _ _ _) (passage_spanned (first_part most_steps (read_as text).sheet) (length before))

-- ---- with places enough, document 02's conversion

-- for a row of each step that a passage may have, where there are more
pub enough_is_converted : (text : List ℕ) (places : ℕ) → (most_steps < (read_as text).sheet.head.steps → most_steps * width (read_as text).sheet.head.n ≤ places) → converted_lent text places ≡ converted text
unfolding converted_lent converted
enough_is_converted text places enough = go (read_as text).outcome refl
  where
    runs : (read_as text).outcome ≡ not_refused → most_steps < (read_as text).sheet.head.steps → passage (first_part most_steps (read_as text).sheet) places ≡ run (first_part most_steps (read_as text).sheet)
    runs e long =
        passage_runs (first_part most_steps (read_as text).sheet) places (first_passes stored_steps most_steps most_steps (read_as text).sheet (accepted_is_acceptable stored_steps text e).verdict (omega arith) (le_refl most_steps)) (unfold places_needed first_part with_steps in enough long)

    go : (outcome : Outcome) → (read_as text).outcome ≡ outcome → converted_by most_steps stored_steps (λ sheet. passage sheet places) text ≡ converted_by most_steps stored_steps run text
    go (Err refused) e = by_refused _ text e ∙ sym (by_refused run text e)
    go (Ok done) e =
        ⊎_elim (λ (long : most_steps < (read_as text).sheet.head.steps). by_long _ text e long ∙ ap (split_text most_steps (read_as text).sheet) (runs e long) ∙ sym (by_long run text e long)) (λ (short : (read_as text).sheet.head.steps ≤ most_steps). by_short _ text e short ∙ sym (by_short run text e short)) (before_or_past most_steps (read_as text).sheet.head.steps)

-- places for the most quantities are enough for every sheet
pub most_are_enough : (text : List ℕ) (places : ℕ) → most_steps * width most_quantities ≤ places → converted_lent text places ≡ converted text
most_are_enough text places enough = enough_is_converted text places (λ long. le_trans (rows_fit most_steps _ (le_refl most_steps) quantities) enough)
  where
    quantities : (read_as text).sheet.head.n ≤ most_quantities
    quantities = go (read_as text).outcome refl
      where
        go : (outcome : Outcome) → (read_as text).outcome ≡ outcome → (read_as text).sheet.head.n ≤ most_quantities
        go (Ok done) e = few_in_sheet stored_steps (read_as text).sheet (accepted_is_acceptable stored_steps text e).verdict
        go (Err refused) e = unfold no_sheet no_head in rw (refused_is_zeros stored_steps text e).zeros (omega arith)

-- ---- how a stored sheet comes out

pub lent_comes_out : (places : ℕ) (sheet : List ℕ) → ComesOutWith places sheet
unfolding ComesOutWith
lent_comes_out places sheet enough = rw (enough_is_converted sheet places enough) (comes_out sheet)

-- what the promise says: with places enough, a text that fits stands at the buffer's start, and is what the stored sheet comes out as
pub lent_stands : (places : ℕ) (sheet : List ℕ) {before after : List ℕ} {count : ℕ} → (most_steps < (read_sheet_to stored_steps sheet).sheet.head.steps → most_steps * width (read_sheet_to stored_steps sheet).sheet.head.n ≤ places) → Printed before (converted_lent sheet places) count after → ComesOutWith places sheet → length (converted_lent sheet places) ≤ length before → ComesOutAs sheet (take count after)
unfolding ComesOutWith
lent_stands places sheet enough printed promised fits = rw (printed_whole printed fits) (promised enough)

-- two inputs that come out alike are read alike and come out as one text
pub alike_converts : {one other : List ℕ} → ConvertsAlike one other → (read_sheet_to stored_steps one ≡ read_sheet_to stored_steps other) × (converted one ≡ converted other)
alike_converts a = (a.reading, a.text)

-- ---- an input of which the front was read

-- read alike, they come out alike: a text that is unaltered is no longer than a sheet may be, and so all of it was read
pub alike_by_front : (room : ℕ) (input bytes : List ℕ) → most_bytes < room → FrontOf room input bytes → ConvertsAlike input bytes
unfolding FrontOf
alike_by_front room input bytes enough e = record { reading = reading; text = alike (read_as input).outcome refl }
  where
    reading : read_as input ≡ read_as bytes
    reading = sym (read_from_front stored_steps room input enough) ∙ ap (read_sheet_to stored_steps) (sym e)

    alike : (outcome : Outcome) → (read_as input).outcome ≡ outcome → converted input ≡ converted bytes
    alike (Err refused) f =
        unfold converted in
        by_refused run input f ∙ sym (by_refused run bytes (ap (λ (x : ReadSheet). x.outcome) (sym reading) ∙ f))
    alike (Ok done) f = ap converted (sym (e ∙ take_all room input (omega (arith, accepted_fits input f))))
