-- Document 01, questions 3 to 6: a passage given as numbers, its rows and its refusal.
use Rattle.std.specs.Prelude.{ℕ, zero, suc, ◌-◌, ◌*◌, Bool, true, false, List, [], ◌∷◌, leb, ℤ, length, get_or, Ok, Err}
use Rattle.ranges.specs.Range.{every}
use Rattle.model.specs.Sheet.{most, Outcome, not_refused, refused_at, sheet_verdict, passes, refuses, terms_of, starts_of}
use Rattle.model.specs.LikeTerms.{gathered}
use Rattle.model.specs.Step.{Ball, no_ball, reach, greatest, ratio, Row, step_row}
use Rattle.model.specs.Rows.{width}
use Rattle.model.specs.declared.Term.{Term}
use Rattle.model.specs.declared.Sheet.{Sheet}
use Rattle.model.specs.declared.Refusal.{Refusal}
use Rattle.model.specs.declared.Refusal.TheVariants.{TooFewPlaces, TooLarge, StepTooLong, Intolerable}

-- ---- one step, with its questions

-- what a step comes to: a row, or the refusal of the first question that is answered no
pub data Advance : Type 0 where
  moves : Row → Advance
  stops : Refusal → Advance

-- a question: the step goes on where the answer is yes, and stops with this refusal where it is no
unfoldable pub question : Bool → Refusal → Advance → Advance
question true r next = next
question false r next = stops r

-- question 4: is |value| + radius at most 536,870,912 for every quantity?
unfoldable pub small : List Ball → Bool
small balls = every (length balls) (λ i. leb (reach (get_or balls i no_ball)) most)

-- the largest ratio of a step: one half
unfoldable pub most_ratio : ℕ
most_ratio = 8388608

-- question 5: is the ratio at most 8,388,608?
unfoldable pub slow : List Term → ℤ → List Ball → Bool
slow terms H balls = leb (ratio terms H (length balls) (greatest balls)) most_ratio

-- question 6: is every new radius at most `tol`?
unfoldable pub tolerable : ℕ → List Ball → Bool
tolerable tol balls = every (length balls) (λ i. leb (get_or balls i no_ball).radius tol)

-- the row of a step, with question 6
unfoldable pub tolerated : ℕ → Row → Advance
tolerated tol row = question (tolerable tol row.balls) Intolerable (moves row)

module _ (terms : List Term) (H : ℤ) (limit tol : ℕ) where
  -- a step of H from these values and radii, with questions 4 to 6
  unfoldable pub advance : List Ball → Advance
  advance balls =
      question (small balls) TooLarge (question (slow terms H balls) StepTooLong (tolerated tol (step_row terms H limit balls)))

-- ---- step after step

-- the rows written, and what comes of the passage
pub record Run : Type 0 where
  pub rows : List Row
  pub outcome : Outcome

-- no row, and a refusal at this step
unfoldable pub refused : Refusal → ℕ → Run
refused r step = record { rows = []; outcome = refused_at r step }

-- step number `step` came to this; the passage goes on from its row
unfoldable pub go_on : Advance → ℕ → (Row → Run) → Run
go_on (moves row) step rest = let run = rest row in record { rows = row ∷ run.rows; outcome = run.outcome }
go_on (stops r) step rest = refused r step

module _ (terms : List Term) (H : ℤ) (limit tol : ℕ) where
  -- so many steps, the first of them with this number, each from the values and radii that the last one left
  unfoldable pub follow : ℕ → ℕ → List Ball → Run
  follow zero step balls = record { rows = []; outcome = not_refused }
  follow (suc left) step balls = go_on (advance terms H limit tol balls) step (λ row. follow left (suc step) row.balls)

-- ---- a passage given as numbers

-- how many places its rows take
unfoldable pub places_needed : Sheet → ℕ
places_needed sheet = sheet.head.steps * width sheet.head.n

-- all steps of a sheet, by its gathered terms
unfoldable pub run : Sheet → Run
run sheet = follow (gathered (terms_of sheet)) sheet.head.step sheet.head.tail sheet.head.tol sheet.head.steps 1 (starts_of sheet)

-- the passage of a sheet, with so many places lent
unfoldable pub passage : Sheet → ℕ → Run
passage sheet places =
    elim (sheet_verdict sheet) [
      | refuses r ↦ refused r 0
      | passes ↦ elim (leb (places_needed sheet) places) [ true ↦ run sheet | false ↦ refused TooFewPlaces 0 ]
    ]

-- one step of a sheet by its gathered terms, from any values and radii: the refusal of its fields first, and then the step's own questions
unfoldable pub step_of : Sheet → List Ball → Advance
step_of sheet balls =
    elim (sheet_verdict sheet) [
      | refuses r ↦ stops r
      | passes ↦ advance (gathered (terms_of sheet)) sheet.head.step sheet.head.tail sheet.head.tol balls
    ]

-- how many rows are written: all in an accepted passage, the earlier ones where a step is refused, none before step 1 (0 - 1 is 0)
unfoldable pub rows_written : Sheet → Outcome → ℕ
rows_written sheet (Ok done) = sheet.head.steps
rows_written sheet (Err refused) = refused.step - 1
