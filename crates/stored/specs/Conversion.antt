-- Document 02, the conversion of stored sheets: a sheet of more steps than a passage may have comes out as two, whose rows together are those of the
-- long passage (proofs/Conversion.antt).
use Rattle.std.specs.Prelude.{ℤ, ℕ, suc, ◌+◌, ◌-◌, ◌≤◌, ◌<◌, true, false, ◌⊎◌, ◌≡◌, leb, pos, length, get_or, Option, Some, None, Ok, Err}
use mathlib.Core.List.{List, ◌++◌, map, flatten}
use Rattle.ranges.specs.Range.{bytes, tabulate}
use Rattle.model.specs.Sheet.{most_steps, stored_steps, no_quantity, no_term, quantities_held, starts_of, Outcome, not_refused, refused_at}
use Rattle.model.specs.Reading.{read_sheet_to, read_sheet}
use Rattle.model.specs.Step.{Row, no_row}
use Rattle.model.specs.Passage.{small, Run, run}
use Rattle.model.specs.Answer.{printed, outcome_text}
use Rattle.enclosure.specs.Trust.{TrustedOf, SpannedOf}
use Rattle.model.specs.declared.Head.{Head}
use Rattle.model.specs.declared.Ball.{Ball}
use Rattle.model.specs.declared.Quantity.{Quantity}
use Rattle.model.specs.declared.Term.{Term}
use Rattle.model.specs.declared.Sheet.{Sheet}
use Rattle.model.specs.declared.ReadSheet.{ReadSheet}
use Rattle.model.specs.declared.Refusal.{Refusal}
use Rattle.model.specs.declared.Refusal.TheVariants.{TooLarge}

-- ---- a sheet's text

-- the lines above the quantities
unfoldable pub head_text : Head → List ℕ
head_text head =
    printed "n" (pos head.n) ++
    printed "steps" (pos head.steps) ++
    printed "step" head.step ++
    printed "tail" (pos head.tail) ++
    printed "tol" (pos head.tol)

-- a start
unfoldable pub start_text : Option ℤ → List ℕ
start_text (Some z) = printed "start" z
start_text None = bytes "start=none\n"

-- a start and its radius
unfoldable pub quantity_text : Quantity → List ℕ
quantity_text quantity = start_text quantity.start ++ printed "radius" (pos quantity.radius)

-- a term
unfoldable pub term_text : Term → List ℕ
term_text term =
    printed "to" (pos term.to) ++
    printed "coef" term.coef ++
    printed "first" (pos term.first) ++
    printed "second" (pos term.second)

-- a sheet: the lines above the quantities, these, how many terms there are, and the terms
unfoldable pub sheet_text : Sheet → List ℕ
sheet_text sheet =
    head_text sheet.head ++
    flatten (tabulate sheet.head.n (λ i. quantity_text (get_or sheet.quantities i no_quantity))) ++
    printed "terms" (pos sheet.terms.count) ++
    flatten (tabulate sheet.terms.count (λ j. term_text (get_or sheet.terms.list j no_term)))

-- ---- a passage in two parts

-- the same with so many steps
unfoldable pub with_steps : ℕ → Head → Head
with_steps steps head = record { n = head.n; steps = steps; step = head.step; tail = head.tail; tol = head.tol }

-- the first steps of a sheet, so many
unfoldable pub first_part : ℕ → Sheet → Sheet
first_part count sheet = record { head = with_steps count sheet.head; quantities = sheet.quantities; terms = sheet.terms }

-- a quantity that starts from a value and a radius
unfoldable pub starting_from : Ball → Quantity
starting_from ball = record { start = Some ball.value; radius = ball.radius }

-- the steps that are left after so many, from these values and radii
unfoldable pub second_part : ℕ → Sheet → List Ball → Sheet
second_part count sheet balls =
    record {
      head = with_steps (sheet.head.steps - count) sheet.head;
      quantities = quantities_held (map starting_from balls);
      terms = sheet.terms;
    }

-- the values and radii of the last row
unfoldable pub last_balls : List Row → List Ball
last_balls rows = (get_or rows (length rows - 1) no_row).balls

-- ---- a stored sheet

-- what is printed for a sheet of more than `most` steps, its first part having come to these values and radii: question 4 is asked
unfoldable pub parts_text : ℕ → Sheet → List Ball → List ℕ
parts_text most sheet balls =
    elim (small balls) [
      | true ↦ sheet_text (first_part most sheet) ++ bytes "\n" ++ sheet_text (second_part most sheet balls)
      | false ↦ outcome_text (refused_at TooLarge (suc most))
    ]

-- the same, its first part having come to this run
unfoldable pub split_text : ℕ → Sheet → Run → List ℕ
split_text most sheet first =
    elim first.outcome [ Err refused ↦ outcome_text (Err refused) | Ok done ↦ parts_text most sheet (last_balls first.rows) ]

-- what is printed for a stored sheet's bytes, where a passage may have `most` steps and a stored sheet `high`, and a part's passage comes to this
unfoldable pub converted_by : ℕ → ℕ → (Sheet → Run) → List ℕ → List ℕ
converted_by most high runs text =
    let read = read_sheet_to high text in
    elim read.outcome [
      | Err refused ↦ outcome_text (Err refused)
      | Ok done ↦ elim (leb read.sheet.head.steps most) [
        | true ↦ text
        | false ↦ split_text most read.sheet (runs (first_part most read.sheet))
      ]
    ]

-- what is printed for a stored sheet
unfoldable pub converted : List ℕ → List ℕ
converted text = converted_by most_steps stored_steps run text

-- ---- what the two parts come to

-- an outcome, its steps counted after so many others
unfoldable pub later : ℕ → Outcome → Outcome
later count (Ok done) = Ok done
later count (Err refused) = refused_at refused.refusal (count + refused.step)

-- one passage and then another: the rows of both, and the second's outcome
unfoldable pub joined : Run → Run → Run
joined first second =
    record { rows = first.rows ++ second.rows; outcome = later (length first.rows) second.outcome }

-- A long passage in two: what is printed is two sheets with an empty line between them, and the reader of a passage's sheet takes each. The first has as
-- many steps as a passage may have, all of which are taken; the second starts from its last values and radii, which pass question 4. One passage and then
-- the other is the long one, with its rows and its outcome; and of the rows of both, as one list, demand 3 holds and what is said of the water between them.
pub record Split (long : Sheet) (text : List ℕ) : Type 0 where
  pub first : List ℕ
  pub second : List ℕ
  pub text_is : text ≡ first ++ bytes "\n" ++ second
  pub first_read : (read_sheet first).outcome ≡ not_refused
  pub second_read : (read_sheet second).outcome ≡ not_refused
  pub first_steps : (read_sheet first).sheet.head.steps ≡ most_steps
  pub first_taken : (run (read_sheet first).sheet).outcome ≡ not_refused
  pub second_starts : starts_of (read_sheet second).sheet ≡ last_balls (run (read_sheet first).sheet).rows
  pub second_small : small (starts_of (read_sheet second).sheet) ≡ true
  pub whole : run long ≡ joined (run (read_sheet first).sheet) (run (read_sheet second).sheet)
  pub trusted : TrustedOf long ((run (read_sheet first).sheet).rows ++ (run (read_sheet second).sheet).rows)
  pub spanned : SpannedOf long ((run (read_sheet first).sheet).rows ++ (run (read_sheet second).sheet).rows)

-- How a stored sheet's text comes out of its conversion, by what it is read as.
pub data ComesOut (read : ReadSheet) (text into : List ℕ) : Type 0 where
  -- refused as a sheet: as its refusal
  refused_sheet : {r : Refusal} {step : ℕ} → read.outcome ≡ refused_at r step → into ≡ outcome_text (refused_at r step) → ComesOut read text into
  -- with no more steps than a passage may have: unaltered
  unaltered : read.outcome ≡ not_refused → read.sheet.head.steps ≤ most_steps → into ≡ text → ComesOut read text into
  -- with more: as the long passage's own refusal, at one of the steps of the first part or, by question 4, at the step after them ..
  refused_passage : {r : Refusal} {step : ℕ} → read.outcome ≡ not_refused → most_steps < read.sheet.head.steps → (run read.sheet).outcome ≡ refused_at r step → (step ≤ most_steps) ⊎ ((r ≡ TooLarge) × (step ≡ suc most_steps)) → into ≡ outcome_text (refused_at r step) → ComesOut read text into
  -- .. or in two
  two_sheets : read.outcome ≡ not_refused → most_steps < read.sheet.head.steps → Split read.sheet into → ComesOut read text into

-- how a stored sheet comes out
unfoldable pub ComesOutAs : List ℕ → List ℕ → Type 0
ComesOutAs text into = ComesOut (read_sheet_to stored_steps text) text into
