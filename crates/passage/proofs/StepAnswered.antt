-- What the code's answer to a step says of the step by the definition.
use Prim.Native.Nat.{ℕ, ◌≤◌, ◌<◌}
use mathlib.Core.Path.{◌≡◌, refl, ap}
use mathlib.Core.List.{List}
use lib.IntN.{ℤ}
use lib.ListN.{get_or}
use Rattle.model.specs.Step.{no_ball, Row}
use Rattle.model.specs.Rows.{balls_of}
use Rattle.model.specs.Passage.{Advance, moves, stops, advance}
use Rattle.model.specs.declared.Ball.{Ball}
use Rattle.model.specs.declared.Term.{Term}
use Rattle.model.specs.declared.Refusal.{Refusal}
use Rattle.ranges.proofs.Ranges.{length_tabulate, get_or_tabulate}
use Rattle.laws.proofs.Steps.StepTaken.{step_taken, row_of_quantities}
use Rattle.enclosure.proofs.Orders.{all_tolerated}
use Rattle.taylor.specs.StepAnswers.{advance_of, row_laid_out, answered, row_of}
use Rattle.taylor.specs.declared.step.Numbers.{Numbers}
use Rattle.taylor.specs.declared.step.Stepped.{Stepped}
use Rattle.std.specs.Prelude.{Ok, Err}
use Rattle.laws.proofs.Passages.LaidOut.{balls_laid_out, spans_laid_out_lem}
use Rattle.laws.proofs.Passages.RowPlaces.{Quantities, length_balls}

-- ---- a row or a refusal, where the definition's is

-- an answer with a degree: the definition's row has it, and has the answer's numbers
moves_to : (n : ℕ) (start : List Ball) (next : Advance) (stepped : Stepped) (degree : ℕ) → ((row : Row) → next ≡ moves row → Quantities n row) → stepped ≡ answered start next → stepped.advance ≡ Ok degree → next ≡ moves (row_of n degree stepped.numbers)
unfolding answered advance_of row_laid_out
moves_to n start (moves row) stepped degree full is e =
    let told : stepped.advance ≡ Ok row.degree = ap (λ (s : Stepped). s.advance) is in
    let same : degree ≡ row.degree = cc told in
    rw (is, same, balls_laid_out n row.balls (full row refl).balls, spans_laid_out_lem n row.spans (full row refl).spans)
moves_to n start (stops r) stepped degree full is e =
    let told : stepped.advance ≡ Err r = ap (λ (s : Stepped). s.advance) is in
    cc told

-- an answer with a refusal: it is the definition's
pub step_stops : (start : List Ball) (next : Advance) (stepped : Stepped) (r : Refusal) → stepped ≡ answered start next → stepped.advance ≡ Err r → next ≡ stops r
unfolding answered advance_of
step_stops start (moves row) stepped r is e =
    let told : stepped.advance ≡ Ok row.degree = ap (λ (s : Stepped). s.advance) is in
    cc told
step_stops start (stops refusal) stepped r is e =
    let told : stepped.advance ≡ Err refusal = ap (λ (s : Stepped). s.advance) is in
    let same : refusal ≡ r = cc told in
    rw same

module _ (terms : List Term) (H : ℤ) (limit tol : ℕ) where
  pub step_moves : (n : ℕ) (start : List Ball) (stepped : Stepped) (degree : ℕ) → stepped ≡ answered start (advance terms H limit tol (balls_of n start)) → stepped.advance ≡ Ok degree → advance terms H limit tol (balls_of n start) ≡ moves (row_of n degree stepped.numbers)
  step_moves n start stepped degree =
      moves_to n start (advance terms H limit tol (balls_of n start)) stepped degree (λ row e. row_of_quantities terms H limit tol _ e (length_balls n start))

  pub radii_at_most : (balls : List Ball) (n degree : ℕ) (row : Numbers) → advance terms H limit tol balls ≡ moves (row_of n degree row) → (i : ℕ) → i < n → (get_or row.balls i no_ball).radius ≤ tol
  unfolding balls_of
  radii_at_most balls n degree row e i h =
      let tolerated = all_tolerated tol (balls_of n row.balls) (step_taken terms H limit tol balls e).is_tolerable in
      rw (get_or_tabulate n _ no_ball i h) at (tolerated.within i (rw length_tabulate h))
