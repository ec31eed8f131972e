-- A passage's rows: one induction for what each of them has, as the sheet's n quantities, and one for how many there are.
use Prim.Native.Nat.{ℕ, zero, suc, ◌+◌, ◌≤◌, ◌<◌}
use mathlib.Core.Path.{◌≡◌, refl, ap, ◌∙◌}
use mathlib.Core.Bool.{Bool, true, false}
use mathlib.Core.List.{List, [], ◌∷◌}
use native.Mathlib.Omega.{arith}
use borrow.Author.Tests.{le-leb, lt-leb, leb-true, leb-false}
use lib.IntN.{ℤ}
use lib.Dec.{leb}
use lib.ListN.{length}
use Rattle.model.specs.Sheet.{Outcome, not_refused, refused_at, refused_step, Verdict, passes, refuses, sheet_verdict, terms_of, starts_of}
use Rattle.model.specs.LikeTerms.{gathered}
use Rattle.model.specs.Step.{Row}
use Rattle.model.specs.declared.Ball.{Ball}
use Rattle.model.specs.Passage.{Advance, moves, stops, advance, Run, refused, go_on, follow, places_needed, run, passage, rows_written}
use Rattle.model.specs.declared.Term.{Term}
use Rattle.model.specs.declared.Sheet.{Sheet}
use Rattle.model.specs.declared.Refusal.{Refusal}
use Rattle.model.specs.declared.Refusal.TheVariants.{TooFewPlaces}
use Rattle.ranges.proofs.Ranges.{length_tabulate}
use Rattle.ranges.proofs.Lists.{Each, none, entry_first}
use Rattle.laws.proofs.Passages.RowPlaces.{Quantities, Wide}
use Rattle.laws.proofs.Steps.StepTaken.{quantities_stay, row_of_quantities}

-- ---- what every row of a passage has

-- what every row has that a step from balls of n quantities moves to, every row of a run from such balls has
module _ (terms : List Term) (H : ℤ) (limit tol n : ℕ) (P : Row → Type 0)
    (holds : (balls : List Ball) (row : Row) → length balls ≡ n → advance terms H limit tol balls ≡ moves row → P row) where
  go_on_each : (step : ℕ) (rest : Row → Run) (balls : List Ball) → length balls ≡ n → (next : Advance) → advance terms H limit tol balls ≡ next → ((row : Row) → length row.balls ≡ n → Each P (rest row).rows) → Each P (go_on next step rest).rows
  unfolding go_on refused
  go_on_each step rest balls l (moves row) e later = entry_first (holds balls row l e) (later row (quantities_stay terms H limit tol balls e ∙ l))
  go_on_each step rest balls l (stops r) e later = none

  pub follow_each : (left step : ℕ) (balls : List Ball) → length balls ≡ n → Each P (follow terms H limit tol left step balls).rows
  unfolding follow
  follow_each zero step balls l = none
  follow_each (suc left) step balls l =
      go_on_each step (λ row. follow terms H limit tol left (suc step) row.balls) balls l (advance terms H limit tol balls) refl (λ row m. follow_each left (suc step) row.balls m)

pub run_each : (sheet : Sheet) (P : Row → Type 0) → ((balls : List Ball) (row : Row) → length balls ≡ sheet.head.n → advance (gathered (terms_of sheet)) sheet.head.step sheet.head.tail sheet.head.tol balls ≡ moves row → P row) → Each P (run sheet).rows
unfolding run starts_of
run_each sheet P holds =
    follow_each (gathered (terms_of sheet)) sheet.head.step sheet.head.tail sheet.head.tol sheet.head.n P holds sheet.head.steps 1 (starts_of sheet) (length_tabulate sheet.head.n _)

-- ---- what every row has that another one follows

pub data AllButLast (P : Row → Type 0) : List Row → Type 0 where
  empty : AllButLast P []
  last : {row : Row} → AllButLast P (row ∷ [])
  earlier : {row next : Row} {rows : List Row} → P row → AllButLast P (next ∷ rows) → AllButLast P (row ∷ next ∷ rows)

-- what all balls of n quantities have that a step moves from
module _ (terms : List Term) (H : ℤ) (limit tol n : ℕ) (P : List Ball → Type 0)
    (holds : (balls : List Ball) (row : Row) → length balls ≡ n → advance terms H limit tol balls ≡ moves row → P balls) where
  joined : (row : Row) → length row.balls ≡ n → (left step : ℕ) → AllButLast (λ row. P row.balls) (follow terms H limit tol left step row.balls).rows → AllButLast (λ row. P row.balls) (row ∷ (follow terms H limit tol left step row.balls).rows)
  unfolding follow go_on refused
  joined row l zero step later = last
  joined row l (suc left) step later = go (advance terms H limit tol row.balls) refl later
    where
      go : (next : Advance) → advance terms H limit tol row.balls ≡ next → AllButLast (λ row. P row.balls) (go_on next step (λ row. follow terms H limit tol left (suc step) row.balls)).rows → AllButLast (λ row. P row.balls) (row ∷ (go_on next step (λ row. follow terms H limit tol left (suc step) row.balls)).rows)
      go (moves next) e later = earlier (holds row.balls next l e) later
      go (stops r) e later = last

  follow_earlier : (left step : ℕ) (balls : List Ball) → length balls ≡ n → AllButLast (λ row. P row.balls) (follow terms H limit tol left step balls).rows
  unfolding follow go_on refused
  follow_earlier zero step balls l = empty
  follow_earlier (suc left) step balls l = go (advance terms H limit tol balls) refl (λ row m. follow_earlier left (suc step) row.balls m)
    where
      go : (next : Advance) → advance terms H limit tol balls ≡ next → ((row : Row) → length row.balls ≡ n → AllButLast (λ row. P row.balls) (follow terms H limit tol left (suc step) row.balls).rows) → AllButLast (λ row. P row.balls) (go_on next step (λ row. follow terms H limit tol left (suc step) row.balls)).rows
      go (moves row) e later =
          let m : length row.balls ≡ n = quantities_stay terms H limit tol balls e ∙ l in
          joined row m left (suc step) (later row m)
      go (stops r) e later = empty

pub run_earlier : (sheet : Sheet) (P : List Ball → Type 0) → ((balls : List Ball) (row : Row) → length balls ≡ sheet.head.n → advance (gathered (terms_of sheet)) sheet.head.step sheet.head.tail sheet.head.tol balls ≡ moves row → P balls) → AllButLast (λ row. P row.balls) (run sheet).rows
unfolding run starts_of
run_earlier sheet P holds =
    follow_earlier (gathered (terms_of sheet)) sheet.head.step sheet.head.tail sheet.head.tol sheet.head.n P holds sheet.head.steps 1 (starts_of sheet) (length_tabulate sheet.head.n _)

-- ---- how many rows a passage has

-- after so many steps more from step number `step`, so many rows: all where every step moves, the earlier ones where one is refused
data Counts (left step : ℕ) : ℕ → Outcome → Type 0 where
  all : {count : ℕ} → count ≡ left → Counts left step count not_refused
  stopped : (count : ℕ) {r : Refusal} (refusedAt : ℕ) → count + step ≡ refusedAt → count < left → Counts left step count (refused_at r refusedAt)

abbrev CountsOf : ℕ → ℕ → Run → Type 0
CountsOf left step run = Counts left step (length run.rows) run.outcome

counts_one_more : {left step count : ℕ} {outcome : Outcome} → Counts left (suc step) count outcome → Counts (suc left) step (suc count) outcome
counts_one_more (all e) = all (ap suc e)
counts_one_more (stopped count j e l) = stopped (suc count) j (omega arith) (omega arith)

go_on_counts : (left step : ℕ) (next : Advance) (rest : Row → Run) → ((row : Row) → CountsOf left (suc step) (rest row)) → CountsOf (suc left) step (go_on next step rest)
unfolding go_on refused
go_on_counts left step (moves row) rest later = counts_one_more (later row)
go_on_counts left step (stops r) rest later = stopped 0 step (omega arith) (omega arith)

follow_counts : (terms : List Term) (H : ℤ) (limit tol left step : ℕ) (balls : List Ball) → CountsOf left step (follow terms H limit tol left step balls)
unfolding follow
follow_counts terms H limit tol zero step balls = all refl
follow_counts terms H limit tol (suc left) step balls =
    go_on_counts left step (advance terms H limit tol balls) _ (λ row. follow_counts terms H limit tol left (suc step) row.balls)

-- a passage's rows: each of n quantities, as many as its outcome says, and never more than `steps`; nor is a step past these refused
pub record Rows (sheet : Sheet) (run : Run) : Type 0 where
  pub wide : Wide sheet.head.n run.rows
  pub count : length run.rows ≡ rows_written sheet run.outcome
  pub fits : length run.rows ≤ sheet.head.steps
  pub refused_at : refused_step run.outcome ≤ sheet.head.steps

pub rows_of_run : (sheet : Sheet) → Rows sheet (run sheet)
unfolding run rows_written
rows_of_run sheet =
    let counts : CountsOf sheet.head.steps 1 (run sheet) = follow_counts (gathered (terms_of sheet)) sheet.head.step sheet.head.tail sheet.head.tol sheet.head.steps 1 (starts_of sheet) in
    record {
      wide = run_each sheet (Quantities sheet.head.n) (λ balls row l e. row_of_quantities _ _ _ _ balls e l);
      count = counted counts;
      fits = few counts;
      refused_at = within counts;
    }
  where
    counted : {count : ℕ} {outcome : Outcome} → Counts sheet.head.steps 1 count outcome → count ≡ rows_written sheet outcome
    counted (all e) = e
    counted (stopped _ _ e l) = omega arith

    few : {count : ℕ} {outcome : Outcome} → Counts sheet.head.steps 1 count outcome → count ≤ sheet.head.steps
    few (all e) = omega arith
    few (stopped _ _ e l) = omega arith

    within : {count : ℕ} {outcome : Outcome} → Counts sheet.head.steps 1 count outcome → refused_step outcome ≤ sheet.head.steps
    within (all e) = unfold refused_step in omega arith
    within (stopped _ _ e l) = unfold refused_step in omega arith

-- ---- the questions before step 1

module _ (sheet : Sheet) (lent : ℕ) where
  pub passage_refused : {r : Refusal} → sheet_verdict sheet ≡ refuses r → passage sheet lent ≡ refused r 0
  unfolding passage
  passage_refused e = rw (e, passage)

  pub passage_too_few_places : sheet_verdict sheet ≡ passes → lent < places_needed sheet → passage sheet lent ≡ refused TooFewPlaces 0
  unfolding passage
  passage_too_few_places e few = rw (e, passage, lt-leb (places_needed sheet) lent few)

  pub passage_runs : sheet_verdict sheet ≡ passes → places_needed sheet ≤ lent → passage sheet lent ≡ run sheet
  unfolding passage
  passage_runs e room = rw (e, passage, le-leb (places_needed sheet) lent room)

  -- what holds of a refusal before step 1, and of the run of a sheet that passes with places enough, holds of the passage
  pub passage_either : (P : Run → Type 0) → ((r : Refusal) → P (refused r 0)) → (sheet_verdict sheet ≡ passes → places_needed sheet ≤ lent → P (run sheet)) → P (passage sheet lent)
  passage_either P before runs = judged (sheet_verdict sheet) (leb (places_needed sheet) lent) refl refl
    where
      judged : (v : Verdict) (room : Bool) → sheet_verdict sheet ≡ v → leb (places_needed sheet) lent ≡ room → P (passage sheet lent)
      judged (refuses r) room e l = rw (passage_refused e) (before r)
      judged passes true e l = let enough = leb-true (places_needed sheet) lent l in rw (passage_runs e enough) (runs e enough)
      judged passes false e l = rw (passage_too_few_places e (leb-false (places_needed sheet) lent l)) (before TooFewPlaces)

-- two sheets with the same verdict, the same places and the same run have the same passage
pub passage_alike : (a b : Sheet) (lent : ℕ) → sheet_verdict a ≡ sheet_verdict b → places_needed a ≡ places_needed b → run a ≡ run b → passage a lent ≡ passage b lent
unfolding passage
passage_alike a b lent verdict needed ran =
    λ t. elim (verdict t) [
      | refuses r ↦ refused r 0
      | passes ↦ elim (leb (needed t) lent) [ true ↦ ran t | false ↦ refused TooFewPlaces 0 ]
    ]

pub rows_of_passage : (sheet : Sheet) (places : ℕ) → Rows sheet (passage sheet places)
rows_of_passage sheet places = passage_either sheet places (Rows sheet) no_rows (λ e room. rows_of_run sheet)
  where
    no_rows : (r : Refusal) → Rows sheet (refused r 0)
    no_rows r = unfold refused rows_written refused_step in record { wide = none; count = refl; fits = omega arith; refused_at = omega arith }
