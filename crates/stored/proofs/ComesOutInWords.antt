-- What is said of a stored sheet's conversion, in the words of document 02: each clause of `Split` and each case of `ComesOut` is used here, so that none can be
-- left out.
use Prim.Native.Nat.{ℕ, suc, ◌≤◌, ◌<◌}
use mathlib.Core.Logic.{◌⊎◌, inl, inr}
use mathlib.Core.Path.{◌≡◌, sym, ap, ◌∙◌}
use mathlib.Core.Bool.{true}
use mathlib.Core.List.{List, ◌++◌}
use native.Mathlib.Omega.{arith}
use lib.ListN.{length}
use Rattle.ranges.specs.Range.{bytes}
use Rattle.model.specs.Sheet.{not_refused, refused_at, most_steps, stored_steps, starts_of}
use Rattle.model.specs.Reading.{read_sheet_to, read_sheet}
use Rattle.model.specs.Passage.{small, Run, run, rows_written}
use Rattle.model.specs.Answer.{outcome_text}
use Rattle.enclosure.specs.Trust.{TrustedOf, SpannedOf}
use Rattle.model.specs.declared.Sheet.{Sheet}
use Rattle.model.specs.declared.ReadSheet.{ReadSheet}
use Rattle.model.specs.declared.Refusal.{Refusal}
use Rattle.model.specs.declared.Refusal.TheVariants.{TooLarge}
use Rattle.laws.proofs.Passages.RowsOfPassage.{rows_of_run}
use Rattle.stored.specs.Conversion.{last_balls, later, joined, Split, ComesOut, ComesOutAs, refused_sheet, unaltered, refused_passage, two_sheets}
use Rattle.stored.proofs.Parts.{accepted_not_refused}

-- ---- in two

module _ (long : Sheet) (text : List ℕ) (split : Split long text) where
  abbrev first : ReadSheet
  first = read_sheet split.first

  abbrev second : ReadSheet
  second = read_sheet split.second

  -- two sheets are printed with an empty line between
  pub two_printed : text ≡ split.first ++ bytes "\n" ++ split.second
  two_printed = split.text_is

  -- the reader of a passage's sheet takes both
  pub both_read : (first.outcome ≡ not_refused) × (second.outcome ≡ not_refused)
  both_read = (split.first_read, split.second_read)

  -- the first has as many steps as a passage may have, and all of them are taken
  pub first_whole : (first.sheet.head.steps ≡ most_steps) × ((run first.sheet).outcome ≡ not_refused)
  first_whole = (split.first_steps, split.first_taken)

  -- the next starts from the last printed values and radii, and these pass question 4
  pub second_from_last : (starts_of second.sheet ≡ last_balls (run first.sheet).rows) × (small (starts_of second.sheet) ≡ true)
  second_from_last = (split.second_starts, split.second_small)

  -- the rows together are those of the long passage, ..
  pub rows_together : (run long).rows ≡ (run first.sheet).rows ++ (run second.sheet).rows
  unfolding joined
  rows_together = ap (λ (run : Run). run.rows) split.whole

  -- .. which ends as the second does: a refusal of its step k is that of the step so many later
  pub ends_as_second : (run long).outcome ≡ later most_steps (run second.sheet).outcome
  unfolding joined rows_written
  ends_as_second = ap (λ (run : Run). run.outcome) split.whole ∙ ap (λ (count : ℕ). later count (run second.sheet).outcome) count
    where
      count : length (run first.sheet).rows ≡ most_steps
      count = (rows_of_run first.sheet).count ∙ ap (rows_written first.sheet) split.first_taken ∙ split.first_steps

  -- and demand 3 holds of all of them as one list, with what is said of the water between them
  pub together_trusted : let rows = (run first.sheet).rows ++ (run second.sheet).rows in TrustedOf long rows × SpannedOf long rows
  together_trusted = (split.trusted, split.spanned)

-- ---- every stored sheet

module _ (text into : List ℕ) (comes : ComesOutAs text into) where
  abbrev read : ReadSheet
  read = read_sheet_to stored_steps text

  -- one that is refused as a sheet: nothing is printed but that refusal
  pub refused_says : {r : Refusal} {step : ℕ} → read.outcome ≡ refused_at r step → into ≡ outcome_text (refused_at r step)
  unfolding ComesOutAs
  refused_says {r} {step} e = go comes
    where
      go : ComesOut read text into → into ≡ outcome_text (refused_at r step)
      go (refused_sheet own is) = is ∙ ap outcome_text (sym own ∙ e)
      go (unaltered own short is) = absurd (accepted_not_refused (sym own ∙ e))
      go (refused_passage own long ends at is) = absurd (accepted_not_refused (sym own ∙ e))
      go (two_sheets own long split) = absurd (accepted_not_refused (sym own ∙ e))

  module _ (accepted : read.outcome ≡ not_refused) where
    -- one with no more steps than a passage may have: unaltered
    pub short_says : read.sheet.head.steps ≤ most_steps → into ≡ text
    unfolding ComesOutAs
    short_says short = go comes
      where
        go : ComesOut read text into → into ≡ text
        go (refused_sheet own is) = absurd (accepted_not_refused (sym accepted ∙ own))
        go (unaltered own short is) = is
        go (refused_passage own long ends at is) = absurd (omega (arith, long, short))
        go (two_sheets own long split) = absurd (omega (arith, long, short))

    -- one with more: in two, or as the long passage's own refusal, at one of its first steps or, by question 4, at the step after them
    pub long_says : most_steps < read.sheet.head.steps →
        Split read.sheet into ⊎
        ((r : Refusal) × ((step : ℕ) × (((run read.sheet).outcome ≡ refused_at r step) × (((step ≤ most_steps) ⊎ ((r ≡ TooLarge) × (step ≡ suc most_steps))) × (into ≡ outcome_text (refused_at r step))))))
    unfolding ComesOutAs
    long_says long = go comes
      where
        go : ComesOut read text into → Split read.sheet into ⊎ ((r : Refusal) × ((step : ℕ) × (((run read.sheet).outcome ≡ refused_at r step) × (((step ≤ most_steps) ⊎ ((r ≡ TooLarge) × (step ≡ suc most_steps))) × (into ≡ outcome_text (refused_at r step))))))
        go (refused_sheet own is) = absurd (accepted_not_refused (sym accepted ∙ own))
        go (unaltered own short is) = absurd (omega (arith, long, short))
        go (refused_passage {r} {step} own more ends at is) = inr (r, (step, (ends, (at, is))))
        go (two_sheets own more split) = inl split
