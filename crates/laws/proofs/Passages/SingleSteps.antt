-- One step of a sheet by itself: refused where the sheet is, and otherwise a step of its passage. Taken one after the other such steps are the run.
use Prim.Native.Nat.{ℕ, zero, suc}
use mathlib.Core.Path.{◌≡◌, refl, sym, ap}
use mathlib.Core.List.{List, []}
use Rattle.model.specs.Sheet.{not_refused, Verdict, passes, refuses, sheet_verdict, terms_of, starts_of}
use Rattle.model.specs.LikeTerms.{gathered}
use Rattle.model.specs.Passage.{stops, advance, step_of, Run, go_on, follow, run}
use Rattle.model.specs.declared.Ball.{Ball}
use Rattle.model.specs.declared.Sheet.{Sheet}
use Rattle.model.specs.declared.Refusal.{Refusal}

module _ (sheet : Sheet) (balls : List Ball) where
  pub step_of_refused : {r : Refusal} → sheet_verdict sheet ≡ refuses r → step_of sheet balls ≡ stops r
  unfolding step_of
  step_of_refused e = rw (e, step_of)

  pub step_of_passing : sheet_verdict sheet ≡ passes → step_of sheet balls ≡ advance (gathered (terms_of sheet)) sheet.head.step sheet.head.tail sheet.head.tol balls
  unfolding step_of
  step_of_passing e =
      ap (λ (verdict : Verdict). elim verdict [ refuses r ↦ stops r | passes ↦ advance (gathered (terms_of sheet)) sheet.head.step sheet.head.tail sheet.head.tol balls ]) e

-- ---- a passage, step by step

-- so many steps of a sheet, the first of them with this number, each from what the last one left
pub stepwise : Sheet → ℕ → ℕ → List Ball → Run
stepwise sheet zero step balls = record { rows = []; outcome = not_refused }
stepwise sheet (suc left) step balls = go_on (step_of sheet balls) step (λ row. stepwise sheet left (suc step) row.balls)

-- one step by itself is a step of the passage: taken one after the other they are the run
pub run_is_stepwise : (sheet : Sheet) → sheet_verdict sheet ≡ passes → run sheet ≡ stepwise sheet sheet.head.steps 1 (starts_of sheet)
unfolding run stepwise follow
run_is_stepwise sheet e = go sheet.head.steps 1 (starts_of sheet)
  where
    go : (left step : ℕ) (balls : List Ball) → follow (gathered (terms_of sheet)) sheet.head.step sheet.head.tail sheet.head.tol left step balls ≡ stepwise sheet left step balls
    go zero step balls = refl
    go (suc left) step balls = λ t. go_on (sym (step_of_passing sheet balls e) t) step (λ row. go left (suc step) row.balls t)
