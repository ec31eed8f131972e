-- A passage in two parts, whatever their counts: its rows are those of the first steps and then those of the steps that are left, from the values and
-- radii of the last row; where one of the first steps is refused, so is the passage.
use Prim.Native.Nat.{ℕ, zero, suc, ◌+◌, ◌-◌, ◌≤◌, ◌<◌}
use mathlib.Core.Path.{◌≡◌, refl, sym, ap, ◌∙◌}
use mathlib.Core.Bool.{false}
use mathlib.Core.List.{List, [], ◌∷◌, map}
use native.Mathlib.Nat.{add-zero, zero-add, add-suc, suc-add, add-sub_of_le}
use native.Mathlib.Numerals.{add-one, one-add}
use native.Mathlib.Omega.{arith}
use lib.IntN.{ℤ}
use lib.ListN.{length, get_or, length-map, get_or-append, get_or-map}
use Rattle.model.specs.Sheet.{not_refused, refused_at, terms_of, start_ball, start_value, starts_of, no_quantity, padded, quantities_held}
use Rattle.model.specs.LikeTerms.{gathered}
use Rattle.model.specs.Step.{no_ball, Row, no_row}
use Rattle.model.specs.declared.Ball.{Ball}
use Rattle.model.specs.Passage.{Advance, moves, stops, question, small, advance, Run, refused, go_on, follow, run, rows_written}
use Rattle.stored.specs.Conversion.{with_steps, first_part, starting_from, second_part, last_balls, later, joined}
use Rattle.model.specs.declared.Term.{Term}
use Rattle.model.specs.declared.Sheet.{Sheet}
use Rattle.model.specs.declared.Refusal.{Refusal}
use Rattle.model.specs.declared.Refusal.TheVariants.{TooLarge}
use Rattle.ranges.proofs.Ranges.{tabulate_is}
use Rattle.ranges.proofs.Lists.{each_at}
use Rattle.laws.proofs.Passages.RowsOfPassage.{rows_of_run}
use Rattle.laws.proofs.Passages.UnderWay.{after}

pub accepted_not_refused : {r : Refusal} {step : ℕ} → not_refused ≡ refused_at r step → ⊥
accepted_not_refused e = let z : ◌≡◌ {A = ℕ} 0 1 = cc in omega arith

-- the same rows, and a refusal so many steps later
abbrev postponed : ℕ → Run → Run
postponed count run = record { rows = run.rows; outcome = later count run.outcome }

-- the values and radii that rows lead to from these
pub reached : List Ball → List Row → List Ball
reached balls [] = balls
reached balls (row ∷ rows) = reached row.balls rows

-- the last row is that of the rows behind the first
last_behind : (row next : Row) (rows : List Row) → last_balls (next ∷ rows) ≡ last_balls (row ∷ next ∷ rows)
unfolding last_balls
last_behind row next rows =
    ap (λ (j : ℕ). (get_or (next ∷ rows) j no_row).balls) (before (length rows)) ∙ ap (λ (j : ℕ). (get_or (row ∷ next ∷ rows) j no_row).balls) (sym (before (suc (length rows))))
  where
    before : (n : ℕ) → suc n - 1 ≡ n
    before n = omega arith

reached_last : (balls : List Ball) (rows : List Row) → 0 < length rows → reached balls rows ≡ last_balls rows
unfolding reached last_balls
reached_last balls [] some = absurd (omega arith)
reached_last balls (row ∷ []) some = refl
reached_last balls (row ∷ next ∷ rows) some = reached_last row.balls (next ∷ rows) (omega arith) ∙ last_behind row next rows

module _ (terms : List Term) (H : ℤ) (limit tol : ℕ) where
  abbrev steps : ℕ → ℕ → List Ball → Run
  steps = follow terms H limit tol

  -- so many steps with later numbers are the same steps, refused so much later
  pub follow_later : (left count step : ℕ) (balls : List Ball) → follow terms H limit tol left (count + step) balls ≡ postponed count (follow terms H limit tol left step balls)
  unfolding follow later after
  follow_later zero count step balls = refl
  follow_later (suc left) count step balls = go (advance terms H limit tol balls) (λ row. rw add-suc at (follow_later left count (suc step) row.balls))
    where
      go : (next : Advance) → ((row : Row) → steps left (suc (count + step)) row.balls ≡ postponed count (steps left (suc step) row.balls)) → go_on next (count + step) (λ row. steps left (suc (count + step)) row.balls) ≡ postponed count (go_on next step (λ row. steps left (suc step) row.balls))
      go (moves row) same = unfold go_on in ap (after (row ∷ [])) (same row)
      go (stops r) same = unfold go_on refused later in refl

  -- where the first steps are all taken, the others follow from the values and radii that these lead to ..
  pub follow_parts : (first second step : ℕ) (balls : List Ball) → (follow terms H limit tol first step balls).outcome ≡ not_refused → let rows = (follow terms H limit tol first step balls).rows in follow terms H limit tol (first + second) step balls ≡ after rows (follow terms H limit tol second (step + first) (reached balls rows))
  unfolding follow after reached
  follow_parts zero second step balls e = rw (zero-add second, add-zero step)
  follow_parts (suc first) second step balls e =
      rw (suc-add first second, add-suc step first) (go (advance terms H limit tol balls) (λ row e. rw (suc-add step first) at (follow_parts first second (suc step) row.balls e)) e)
    where
      go : (next : Advance) → ((row : Row) → (steps first (suc step) row.balls).outcome ≡ not_refused → let rows = (steps first (suc step) row.balls).rows in steps (first + second) (suc step) row.balls ≡ after rows (steps second (suc (step + first)) (reached row.balls rows))) → let run = go_on next step (λ row. steps first (suc step) row.balls) in run.outcome ≡ not_refused → go_on next step (λ row. steps (first + second) (suc step) row.balls) ≡ after run.rows (steps second (suc (step + first)) (reached balls run.rows))
      go (moves row) same e = unfold go_on after reached in ap (after (row ∷ [])) (same row e)
      go (stops r) same e = unfold go_on refused in absurd (accepted_not_refused (sym e))

  -- .. and where one of them is refused, none follows
  pub follow_refused : (first second step : ℕ) (balls : List Ball) {r : Refusal} {at : ℕ} → (follow terms H limit tol first step balls).outcome ≡ refused_at r at → follow terms H limit tol (first + second) step balls ≡ follow terms H limit tol first step balls
  unfolding follow after
  follow_refused zero second step balls e = absurd (accepted_not_refused e)
  follow_refused (suc first) second step balls {r} {at} e =
      rw (suc-add first second) (go (advance terms H limit tol balls) (λ row e. follow_refused first second (suc step) row.balls e) e)
    where
      go : (next : Advance) → ((row : Row) → (steps first (suc step) row.balls).outcome ≡ refused_at r at → steps (first + second) (suc step) row.balls ≡ steps first (suc step) row.balls) → (go_on next step (λ row. steps first (suc step) row.balls)).outcome ≡ refused_at r at → go_on next step (λ row. steps (first + second) (suc step) row.balls) ≡ go_on next step (λ row. steps first (suc step) row.balls)
      go (moves row) same e = unfold go_on after in ap (after (row ∷ [])) (same row e)
      go (stops r) same e = unfold go_on in refl

-- ---- the parts of a sheet

-- the second part's quantities are the values and radii that it is given ..
pub second_quantity : (balls : List Ball) (i : ℕ) → i < length balls → get_or (quantities_held (map starting_from balls)) i no_quantity ≡ starting_from (get_or balls i no_ball)
unfolding quantities_held padded starting_from no_quantity no_ball
second_quantity balls i h =
    get_or-append (map starting_from balls) _ no_quantity i (rw (length-map balls starting_from) h) ∙ get_or-map starting_from balls i no_ball

-- .. and it starts from them
pub second_starts : (count : ℕ) (sheet : Sheet) (balls : List Ball) → length balls ≡ sheet.head.n → starts_of (second_part count sheet balls) ≡ balls
unfolding starts_of second_part with_steps start_ball start_value starting_from
second_starts count sheet balls same =
    tabulate_is sheet.head.n _ no_ball balls same (λ i h. ap start_ball (second_quantity balls i (rw same h)))

module _ (sheet : Sheet) (count : ℕ) (few : count ≤ sheet.head.steps) where
  -- so many steps of the sheet
  abbrev steps_of : ℕ → ℕ → List Ball → Run
  steps_of = follow (gathered (terms_of sheet)) sheet.head.step sheet.head.tail sheet.head.tol

  all_steps : run sheet ≡ steps_of (count + (sheet.head.steps - count)) 1 (starts_of sheet)
  unfolding run
  all_steps = ap (λ (left : ℕ). steps_of left 1 (starts_of sheet)) (sym (add-sub_of_le few))

  -- a refusal of the first part is the passage's own
  pub first_refusal_is_whole : {r : Refusal} {step : ℕ} → (run (first_part count sheet)).outcome ≡ refused_at r step → run sheet ≡ run (first_part count sheet)
  unfolding run first_part with_steps terms_of starts_of
  first_refusal_is_whole e = all_steps ∙ follow_refused _ _ _ _ count (sheet.head.steps - count) 1 (starts_of sheet) e

  module _ (some : 0 < count) (accepted : (run (first_part count sheet)).outcome ≡ not_refused) where
    first_count : length (run (first_part count sheet)).rows ≡ count
    unfolding first_part with_steps rows_written
    first_count = rw accepted at (rows_of_run (first_part count sheet)).count

    -- its last row has all quantities
    pub last_wide : length (last_balls (run (first_part count sheet)).rows) ≡ sheet.head.n
    unfolding last_balls first_part with_steps
    last_wide = (each_at no_row (rows_of_run (first_part count sheet)).wide (length (run (first_part count sheet)).rows - 1) (omega (arith, first_count))).balls

    -- the steps that are left follow from that
    left_follow : let rows = (run (first_part count sheet)).rows in run sheet ≡ after rows (steps_of (sheet.head.steps - count) (suc count) (last_balls rows))
    unfolding run first_part with_steps terms_of starts_of
    left_follow =
        all_steps ∙ rw (← (reached_last (starts_of sheet) (run (first_part count sheet)).rows (omega (arith, first_count))), ← (one-add count)) (follow_parts _ _ _ _ count (sheet.head.steps - count) 1 (starts_of sheet) accepted)

    second_later : let first = run (first_part count sheet) in steps_of (sheet.head.steps - count) (suc count) (last_balls first.rows) ≡ postponed (length first.rows) (run (second_part count sheet (last_balls first.rows)))
    unfolding run second_part with_steps terms_of
    second_later =
        rw (first_count, second_starts count sheet (last_balls (run (first_part count sheet)).rows) last_wide, ← (add-one count)) (follow_later _ _ _ _ (sheet.head.steps - count) count 1 (last_balls (run (first_part count sheet)).rows))

    -- the passage is its two parts, one after the other
    pub parts_are_whole : let first = run (first_part count sheet) in run sheet ≡ joined first (run (second_part count sheet (last_balls first.rows)))
    unfolding joined after
    parts_are_whole = left_follow ∙ ap (after (run (first_part count sheet)).rows) second_later

    -- where the last row is too large to go on from, the step after the first part is refused
    pub large_is_refused : count < sheet.head.steps → small (last_balls (run (first_part count sheet)).rows) ≡ false → (run sheet).outcome ≡ refused_at TooLarge (suc count)
    unfolding follow advance question go_on refused after
    large_is_refused more large = rw (left_follow, one_more, large, question)
      where
        one_more : sheet.head.steps - count ≡ suc (sheet.head.steps - suc count)
        one_more = omega arith
