-- The conversion of a stored sheet: a long one comes out as two sheets, whose passages are together the long one; where only a refusal is printed, it
-- is the long passage's own; any other text comes out as itself, or as the reader's refusal.
use Rattle.std.specs.Prelude.{Ok, Err}
use Prim.Native.Nat.{ℕ, suc, ◌+◌, ◌-◌, ◌≤◌, ◌<◌}
use mathlib.Core.Logic.{inl, inr, ⊎_elim}
use mathlib.Core.Path.{◌≡◌, refl, sym, ap, ap₂, subst, ◌∙◌}
use mathlib.Core.Bool.{Bool, true, false}
use mathlib.Core.List.{List, ◌++◌, map}
use native.Mathlib.Omega.{arith}
use borrow.Author.Tests.{le-leb, lt-leb}
use lib.ListN.{length, get_or, length-map}
use lib.Seq.{take_at}
use Rattle.model.specs.Sheet.{Outcome, not_refused, refused_at, most, most_steps, stored_steps, refused_step, passes, ask, in_range, steps_limits, start_limits, radius_limits, start_verdict, quantity_verdict, sheet_verdict_to, sheet_verdict, padded, quantities_held, starts_of}
use Rattle.laws.specs.ReadingMeans.{ZeroPastCounts}
use Rattle.model.specs.Reading.{read_sheet_to, read_sheet}
use Rattle.model.specs.Step.{no_ball, reach}
use Rattle.model.specs.declared.Ball.{Ball}
use Rattle.enclosure.specs.Trust.{TrustedOf, SpannedOf}
use Rattle.enclosure.proofs.Spanned.{run_spanned}
use Rattle.enclosure.proofs.Trusted.{run_trusted}
use Rattle.model.specs.Passage.{small, Run, run}
use Rattle.model.specs.Answer.{outcome_text}
use Rattle.stored.specs.Conversion.{sheet_text, with_steps, first_part, starting_from, second_part, last_balls, parts_text, split_text, converted_by, converted, joined, Split, ComesOut, ComesOutAs, refused_sheet, unaltered, refused_passage, two_sheets}
use Rattle.model.specs.declared.Head.{Head}
use Rattle.model.specs.declared.Sheet.{Sheet}
use Rattle.model.specs.declared.ReadSheet.{ReadSheet}
use Rattle.model.specs.declared.Refusal.{Refusal}
use Rattle.model.specs.declared.Refusal.TheVariants.{TooLarge}
use Rattle.laws.proofs.Text.Verdicts.{pass_then, natural_passes, signed_passes, in_range_lem, HeadInRange, SheetInRange, sheet_in_range, in_range_passes}
use Rattle.laws.proofs.Passages.RowsOfPassage.{rows_of_run}
use Rattle.ranges.proofs.Ranges.{before_or_past}
use Rattle.laws.proofs.Bounds.SheetBounds.{each_small}
use Rattle.laws.proofs.Text.Readings.{Acceptable, accepted_is_acceptable}
use Rattle.stored.proofs.RoundTrip.{read_printed}
use Rattle.stored.proofs.Parts.{second_quantity, second_starts, first_refusal_is_whole, last_wide, parts_are_whole, large_is_refused}

-- ---- the parts of a sheet are sheets

-- a head that is in range, with so many steps
with_steps_lem : {high : ℕ} (other count : ℕ) (head : Head) → 1 ≤ count → count ≤ other → HeadInRange high head → HeadInRange other (with_steps count head)
unfolding with_steps in_range ask steps_limits
with_steps_lem other count head low fits range =
    record { n = range.n; steps = rw (natural_passes {low = 1} {high = other} count low fits); step = range.step; tail = range.tail; tol = range.tol }

-- values and radii that are small can be started from
small_passes : (ball : Ball) → reach ball ≤ most → quantity_verdict (starting_from ball) ≡ passes
unfolding reach quantity_verdict start_verdict starting_from start_limits radius_limits in_range ask
small_passes ball h =
    pass_then (rw (signed_passes most ball.value (omega arith))) (rw (natural_passes {low = 0} {high = most} ball.radius (omega arith) (omega arith)))

module _ (high other count : ℕ) (sheet : Sheet) (passed : sheet_verdict_to high sheet ≡ passes) where
  ranges : SheetInRange high sheet
  ranges = sheet_in_range high sheet passed

  pub first_passes : 1 ≤ count → count ≤ other → sheet_verdict_to other (first_part count sheet) ≡ passes
  unfolding first_part with_steps
  first_passes some fits =
      in_range_passes other (first_part count sheet) (record { head = with_steps_lem other count sheet.head some fits ranges.head; quantity = ranges.quantity; terms = ranges.terms; term = ranges.term })

  -- the second by its values and radii, which are small, and by its steps, which are not too many
  pub second_passes : (balls : List Ball) → count < sheet.head.steps → high ≤ count + other → length balls ≡ sheet.head.n → small balls ≡ true → sheet_verdict_to other (second_part count sheet balls) ≡ passes
  unfolding second_part with_steps steps_limits
  second_passes balls more left wide is_small =
      in_range_passes other (second_part count sheet balls) (record {
        head = with_steps_lem other (sheet.head.steps - count) sheet.head (omega arith) (omega (arith, in_range_lem sheet.head.steps ranges.head.steps)) ranges.head;
        quantity = λ i h. let inside : i < length balls = omega (arith, wide) in rw (second_quantity balls i inside) (small_passes (get_or balls i no_ball) (each_small balls is_small i inside));
        terms = ranges.terms;
        term = ranges.term;
      })

first_zeros : (count : ℕ) (sheet : Sheet) → ZeroPastCounts sheet → ZeroPastCounts (first_part count sheet)
unfolding first_part with_steps
first_zeros count sheet zeros = record { quantities = zeros.quantities; terms = zeros.terms }

second_zeros : (count : ℕ) (sheet : Sheet) (balls : List Ball) → length balls ≡ sheet.head.n → ZeroPastCounts sheet → ZeroPastCounts (second_part count sheet balls)
unfolding second_part with_steps quantities_held padded
second_zeros count sheet balls wide zeros =
    record { quantities = ap quantities_held (sym (take_at (map starting_from balls) _ sheet.head.n (length-map balls starting_from ∙ wide))); terms = zeros.terms }

-- ---- what is printed

module _ (text : List ℕ) where
  -- the sheet that a text is read as
  abbrev stored : Sheet
  stored = (read_sheet_to stored_steps text).sheet

  -- as many of its steps as a passage may have, and what they come to
  abbrev first_sheet : Sheet
  first_sheet = first_part most_steps stored

  abbrev reached : List Ball
  reached = last_balls (run first_sheet).rows

  -- the steps that are left
  abbrev second_sheet : Sheet
  second_sheet = second_part most_steps stored reached

  -- a text that is refused comes out as its refusal
  pub refused_comes_out : {r : Refusal} {step : ℕ} → (read_sheet_to stored_steps text).outcome ≡ refused_at r step → converted text ≡ outcome_text (refused_at r step)
  unfolding converted converted_by
  refused_comes_out e = rw (e, converted_by)

  module _ (read : (read_sheet_to stored_steps text).outcome ≡ not_refused) where
    -- a sheet that a passage takes comes out as itself
    pub short_comes_out : stored.head.steps ≤ most_steps → converted text ≡ text
    unfolding converted converted_by
    short_comes_out short = rw (read, converted_by, le-leb stored.head.steps most_steps short)

    acceptable : Acceptable stored_steps stored
    acceptable = accepted_is_acceptable stored_steps text read

    -- the first part passes the questions of a passage's sheet
    pub first_part_passes : sheet_verdict first_sheet ≡ passes
    first_part_passes = first_passes stored_steps most_steps most_steps stored acceptable.verdict (omega arith) (omega arith)

    module _ (long : most_steps < stored.head.steps) where
      long_comes_out : converted text ≡ split_text most_steps stored (run first_sheet)
      unfolding converted converted_by
      long_comes_out = rw (read, converted_by, lt-leb stored.head.steps most_steps long)

      -- a refusal in the first part is the long passage's own ..
      pub refusal_is_own : {r : Refusal} {step : ℕ} → (run first_sheet).outcome ≡ refused_at r step → (converted text ≡ outcome_text (refused_at r step)) × ((run stored).outcome ≡ refused_at r step)
      unfolding split_text
      refusal_is_own e = (long_comes_out ∙ rw (e, split_text), rw (first_refusal_is_whole stored most_steps (omega arith) e) e)

      module _ (accepted : (run first_sheet).outcome ≡ not_refused) where
        -- .. and so is that of the step after it
        pub large_is_own : small reached ≡ false → (converted text ≡ outcome_text (refused_at TooLarge (suc most_steps))) × ((run stored).outcome ≡ refused_at TooLarge (suc most_steps))
        unfolding split_text parts_text
        large_is_own large = (long_comes_out ∙ rw (accepted, split_text, large, parts_text), large_is_refused stored most_steps (omega arith) (omega arith) accepted long large)

        module _ (is_small : small reached ≡ true) where
          wide : length reached ≡ stored.head.n
          wide = last_wide stored most_steps (omega arith) (omega arith) accepted

          -- the second part passes too
          pub second_part_passes : sheet_verdict second_sheet ≡ passes
          second_part_passes = second_passes stored_steps most_steps most_steps stored acceptable.verdict reached long (omega arith) wide is_small

          first_read : read_sheet (sheet_text first_sheet) ≡ record { outcome = not_refused; sheet = first_sheet }
          first_read = read_printed most_steps first_sheet (omega arith) first_part_passes (first_zeros most_steps stored acceptable.zeros)

          second_read : read_sheet (sheet_text second_sheet) ≡ record { outcome = not_refused; sheet = second_sheet }
          second_read = read_printed most_steps second_sheet (omega arith) second_part_passes (second_zeros most_steps stored reached wide acceptable.zeros)

          -- a long sheet comes out as two, whose passages are together its own
          pub conversion_keeps_rows : Split stored (converted text)
          unfolding split_text parts_text first_part with_steps
          conversion_keeps_rows =
              record {
                first = sheet_text first_sheet;
                second = sheet_text second_sheet;
                text_is = long_comes_out ∙ rw (accepted, split_text, is_small, parts_text);
                first_read = ap (λ (read : ReadSheet). read.outcome) first_read;
                second_read = ap (λ (read : ReadSheet). read.outcome) second_read;
                first_taken = ap (λ (read : ReadSheet). (run read.sheet).outcome) first_read ∙ accepted;
                second_starts = ap (λ (read : ReadSheet). starts_of read.sheet) second_read ∙ second_starts most_steps stored reached wide ∙ sym (ap (λ (read : ReadSheet). last_balls (run read.sheet).rows) first_read);
                first_steps = ap (λ (read : ReadSheet). read.sheet.head.steps) first_read;
                second_small = ap (λ (read : ReadSheet). small (starts_of read.sheet)) second_read ∙ ap small (second_starts most_steps stored reached wide) ∙ is_small;
                whole = both;
                trusted = subst (TrustedOf stored) rows (run_trusted stored_steps stored acceptable.verdict);
                spanned = subst (SpannedOf stored) rows (run_spanned stored_steps stored acceptable.verdict);
              }
            where
              both : run stored ≡ joined (run (read_sheet (sheet_text first_sheet)).sheet) (run (read_sheet (sheet_text second_sheet)).sheet)
              both =
                  parts_are_whole stored most_steps (omega arith) (omega arith) accepted ∙ sym (ap₂ (λ (first second : ReadSheet). joined (run first.sheet) (run second.sheet)) first_read second_read)

              rows : (run stored).rows ≡ (run (read_sheet (sheet_text first_sheet)).sheet).rows ++ (run (read_sheet (sheet_text second_sheet)).sheet).rows
              rows = unfold joined in ap (λ (run : Run). run.rows) both

-- Every stored sheet comes out so.
pub comes_out : (text : List ℕ) → ComesOutAs text (converted text)
unfolding ComesOutAs
comes_out text = go (read_sheet_to stored_steps text).outcome refl
  where
    by_size : (read_sheet_to stored_steps text).outcome ≡ not_refused → most_steps < (stored text).head.steps → (run (first_sheet text)).outcome ≡ not_refused → (b : Bool) → small (reached text) ≡ b → ComesOut (read_sheet_to stored_steps text) text (converted text)
    by_size read long accepted true e = two_sheets read long (conversion_keeps_rows text read long accepted e)
    by_size read long accepted false e =
        let own = large_is_own text read long accepted e in
        refused_passage read long own.1 (inr (refl, refl)) own.0

    by_run : (read_sheet_to stored_steps text).outcome ≡ not_refused → most_steps < (stored text).head.steps → (outcome : Outcome) → (run (first_sheet text)).outcome ≡ outcome → ComesOut (read_sheet_to stored_steps text) text (converted text)
    by_run read long (Ok done) e = by_size read long e (small (reached text)) refl
    by_run read long (Err refused) e =
        let own = refusal_is_own text read long e in
        refused_passage read long own.1 (inl (first_refused (rows_of_run (first_sheet text)).refused_at e)) own.0
      where
        first_refused : refused_step (run (first_sheet text)).outcome ≤ (first_sheet text).head.steps → (run (first_sheet text)).outcome ≡ Err refused → refused.step ≤ most_steps
        first_refused h e = unfold refused_step first_part with_steps in omega (arith, rw e at h)

    go : (outcome : Outcome) → (read_sheet_to stored_steps text).outcome ≡ outcome → ComesOut (read_sheet_to stored_steps text) text (converted text)
    go (Err refused) e = refused_sheet e (refused_comes_out text e)
    go (Ok done) e =
        ⊎_elim (λ (long : most_steps < (stored text).head.steps). by_run e long (run (first_sheet text)).outcome refl) (λ (short : (stored text).head.steps ≤ most_steps). unaltered e short (short_comes_out text e short)) (before_or_past most_steps (stored text).head.steps)
