-- A step that was taken: questions 4 to 6 were answered yes, and its row is the rule's, with a ball and a span for each that it started from and a degree
-- of at most 28.
use Prim.Native.Nat.{ℕ, ◌≤◌}
use mathlib.Core.Bool.{Bool, true, false}
use mathlib.Core.List.{List}
use mathlib.Core.Path.{◌≡◌, refl, ◌∙◌}
use native.Mathlib.Omega.{arith}
use lib.IntN.{ℤ}
use lib.ListN.{length}
use Rattle.model.specs.Step.{most_degree, degree, Row, new_row, step_row}
use Rattle.model.specs.declared.Ball.{Ball}
use Rattle.model.specs.Passage.{Advance, moves, question, small, slow, tolerable, tolerated, advance}
use Rattle.model.specs.declared.Refusal.{Refusal}
use Rattle.model.specs.declared.Refusal.TheVariants.{TooLarge, StepTooLong, Intolerable}
use Rattle.model.specs.declared.Term.{Term}
use Rattle.ranges.proofs.Least.{least_le}
use Rattle.ranges.proofs.Ranges.{length_tabulate}
use Rattle.laws.proofs.Passages.RowPlaces.{Quantities}

pub length_row : (terms : List Term) (H : ℤ) (limit : ℕ) (balls : List Ball) → length (step_row terms H limit balls).balls ≡ length balls
unfolding step_row new_row
length_row terms H limit balls = length_tabulate (length balls) _

spans_of_row : (terms : List Term) (H : ℤ) (limit : ℕ) (balls : List Ball) → length (step_row terms H limit balls).spans ≡ length balls
unfolding step_row new_row
spans_of_row terms H limit balls = length_tabulate (length balls) _

question_passed : (b : Bool) (r : Refusal) (next : Advance) {row : Row} → question b r next ≡ moves row → (b ≡ true) × (next ≡ moves row)
unfolding question
question_passed true r next e = (refl, e)
question_passed false r next e = let z : ◌≡◌ {A = ℕ} 0 1 = cc in absurd (omega arith)

module _ (terms : List Term) (H : ℤ) (limit tol : ℕ) where
  pub record Taken (balls : List Ball) (row : Row) : Type 0 where
    pub is_small : small balls ≡ true
    pub is_slow : slow terms H balls ≡ true
    pub is_row : row ≡ step_row terms H limit balls
    pub is_tolerable : tolerable tol row.balls ≡ true

  module _ (balls : List Ball) {row : Row} (moved : advance terms H limit tol balls ≡ moves row) where
    pub step_taken : Taken balls row
    unfolding advance tolerated
    step_taken =
        let a = question_passed (small balls) TooLarge _ moved in
        let b = question_passed (slow terms H balls) StepTooLong _ a.1 in
        let c = question_passed (tolerable tol (step_row terms H limit balls).balls) Intolerable _ b.1 in
        let same : row ≡ step_row terms H limit balls = cc c.1 in
        record { is_small = a.0; is_slow = b.0; is_row = same; is_tolerable = rw same c.0 }

    pub quantities_stay : length row.balls ≡ length balls
    quantities_stay = rw step_taken.is_row (length_row terms H limit balls)

    pub row_of_quantities : {n : ℕ} → length balls ≡ n → Quantities n row
    row_of_quantities l =
        record { balls = quantities_stay ∙ l; spans = rw step_taken.is_row (spans_of_row terms H limit balls ∙ l) }

    pub degree_at_most : row.degree ≤ most_degree
    unfolding step_row new_row degree
    degree_at_most = rw step_taken.is_row (least_le most_degree _)
