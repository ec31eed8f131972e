-- What a run leaves: rows that have their quantities, of which demand 3 holds and what is said of the water between them, stand in the buffer so; and the
-- promise of a passage, by the way that it ends, and of one step by itself.
use Prim.Native.Nat.{◌≤◌, ◌<◌}
use mathlib.Core.Path.{◌≡◌, refl, ap}
use mathlib.Core.List.{List, [], ◌∷◌}
use lib.IntN.{ℤ}
use lib.ListN.{length}
use Rattle.model.specs.Sheet.{Outcome, refused_at, result, refused_step, Gives, most_steps, Verdict, passes, refuses, sheet_verdict, terms_of}
use Rattle.model.specs.LikeTerms.{gathered}
use Rattle.model.specs.Step.{Row}
use Rattle.model.specs.Passage.{Advance, moves, stops, advance, Run, go_on, follow, places_needed, run, passage, refused, step_of}
use Rattle.model.specs.Rows.{places, written}
use Rattle.enclosure.specs.Trust.{Trusted, TrustedOf, Spanned, SpannedOf, Leaves}
use Rattle.model.specs.declared.Ball.{Ball}
use Rattle.model.specs.declared.Sheet.{Sheet}
use Rattle.model.specs.declared.Refusal.{Refusal}
use Rattle.model.specs.declared.Refusal.TheVariants.{TooFewPlaces}
use Rattle.laws.proofs.Passages.RowPlaces.{Wide, rows_in_written}
use Rattle.laws.proofs.Passages.RowsOfPassage.{rows_of_passage, passage_refused, passage_too_few_places, passage_runs}
use Rattle.laws.proofs.Passages.SingleSteps.{step_of_refused, step_of_passing}
use Rattle.laws.proofs.Passages.UnderWay.{RunInto}
use Rattle.enclosure.proofs.Spanned.{no_rows_spanned, steps_spanned, passage_spanned}
use Rattle.enclosure.proofs.Trusted.{no_rows_trusted, steps_trusted, passage_trusted}

-- ---- what a run leaves

pub rows_leave : (sheet : Sheet) (run : Run) (before : List ℤ) {after : List ℤ} → Wide sheet.head.n run.rows → TrustedOf sheet run.rows → SpannedOf sheet run.rows → after ≡ written run.rows before → Leaves sheet run before after
unfolding TrustedOf SpannedOf
rows_leave sheet run before wide trusted spanned e =
    record {
      buffer = e;
      trusted = rw (e, rows_in_written wide before) trusted;
      spanned = rw (e, rows_in_written wide before) spanned;
    }

-- ---- a passage, by the way that it ends

module _ (sheet : Sheet) (buffer : List ℤ) where
  -- no row is written, and the buffer is as it was
  before_steps : (r : Refusal) → passage sheet (length buffer) ≡ refused r 0 → RunInto (passage sheet (length buffer)) buffer buffer (refused_at r 0)
  unfolding refused written places
  before_steps r e = (rw e, rw e)

  pub run_refused : {r : Refusal} → sheet_verdict sheet ≡ refuses r → RunInto (passage sheet (length buffer)) buffer buffer (refused_at r 0)
  run_refused {r} e = before_steps r (passage_refused sheet (length buffer) e)

  pub run_too_few_places : sheet_verdict sheet ≡ passes → length buffer < places_needed sheet → RunInto (passage sheet (length buffer)) buffer buffer (refused_at TooFewPlaces 0)
  run_too_few_places e few = before_steps TooFewPlaces (passage_too_few_places sheet (length buffer) e few)

  pub run_through : {outcome : Outcome} {after : List ℤ} → sheet_verdict sheet ≡ passes → places_needed sheet ≤ length buffer → RunInto (run sheet) buffer after outcome → RunInto (passage sheet (length buffer)) buffer after outcome
  unfolding run
  run_through e room f = let runs = passage_runs sheet (length buffer) e room in (rw runs f.0, rw runs f.1)

-- all that a passage promises
module _ (sheet : Sheet) (before : List ℤ) {after : List ℤ} {outcome : Outcome} (into : RunInto (passage sheet (length before)) before after outcome) where
  abbrev passed : Run
  passed = passage sheet (length before)

  leaves : Leaves sheet passed before after
  leaves =
      rows_leave sheet passed before (rows_of_passage sheet (length before)).wide (passage_trusted sheet (length before)) (passage_spanned sheet (length before)) into.1

  gives : Gives outcome (result passed.outcome) (refused_step passed.outcome)
  gives = record { result_is = ap result into.0; step_is = ap refused_step into.0 }

  pub promised : record {
    ended : outcome ≡ (passage sheet (length before)).outcome;
    leaves : Leaves sheet (passage sheet (length before)) before after;
    numbered : Gives outcome (result (passage sheet (length before)).outcome) (refused_step (passage sheet (length before)).outcome);
  }
  promised = record { ended = into.0; leaves = leaves; numbered = gives }

-- ---- one step by itself

-- the row that a step comes to, alone, or none
unfoldable pub rows_moved : Advance → List Row
rows_moved (moves row) = row ∷ []
rows_moved (stops r) = []

module _ (sheet : Sheet) (balls : List Ball) where
  -- what holds of no row, and of the rows of one step of a sheet that passes, holds of the row that a step comes to
  step_either : (P : List Row → Type 0) → P [] → (sheet_verdict sheet ≡ passes → P (follow (gathered (terms_of sheet)) sheet.head.step sheet.head.tail sheet.head.tol 1 1 balls).rows) → P (rows_moved (step_of sheet balls))
  unfolding rows_moved follow go_on refused
  step_either P none one = judged (sheet_verdict sheet) refl
    where
      taken : (next : Advance) → P (go_on next 1 (λ row. follow (gathered (terms_of sheet)) sheet.head.step sheet.head.tail sheet.head.tol 0 2 row.balls)).rows → P (rows_moved next)
      taken (moves row) p = p
      taken (stops r) p = p

      judged : (v : Verdict) → sheet_verdict sheet ≡ v → P (rows_moved (step_of sheet balls))
      judged (refuses r) e = rw (step_of_refused sheet balls e) none
      judged passes e = rw (step_of_passing sheet balls e) (taken (advance (gathered (terms_of sheet)) sheet.head.step sheet.head.tail sheet.head.tol balls) (one e))

  -- Demand 3, and the water until that row, from any values and radii.
  pub step_trusted : Trusted (terms_of sheet) sheet.head.step sheet.head.tol balls (rows_moved (step_of sheet balls))
  step_trusted =
      step_either (Trusted (terms_of sheet) sheet.head.step sheet.head.tol balls) (no_rows_trusted _ _ _ _) (λ e. steps_trusted most_steps sheet e 1 1 balls)

  pub step_spanned : Spanned (terms_of sheet) sheet.head.step balls (rows_moved (step_of sheet balls))
  step_spanned = step_either (Spanned (terms_of sheet) sheet.head.step balls) (no_rows_spanned _ _ _) (λ e. steps_spanned most_steps sheet e 1 1 balls)
