-- What the code answers to a step is what the definition of the step says, question by question.
use Prim.Native.Nat.{ℕ, ◌≤◌, ◌<◌}
use mathlib.Core.Bool.{true, false}
use mathlib.Core.List.{List}
use mathlib.Core.Path.{◌≡◌, sym, ap, ◌∙◌}
use native.Mathlib.Nat.{max-le}
use native.Mathlib.Omega.{arith}
use borrow.Author.Tests.{le-leb, lt-leb, leb-true}
use lib.Dec.{leb}
use lib.IntN.{ℤ}
use lib.ListN.{length, get_or, take}
use Rattle.model.specs.Sheet.{scale, most}
use Rattle.model.specs.Step.{Row, no_ball, reach, greatest, ratio, step_row}
use Rattle.model.specs.Passage as passage
use Rattle.model.specs.Passage.{question, small, slow, most_ratio, tolerable, tolerated}
use Rattle.model.specs.Rows.{balls_of}
use Rattle.model.specs.declared.Ball.{Ball}
use Rattle.model.specs.declared.Head.{Head}
use Rattle.model.specs.declared.Refusal.TheVariants.{TooLarge, StepTooLong, Intolerable}
use Rattle.model.specs.declared.Term.{Term}
use Rattle.std.specs.Prelude.{Ok}
use Rattle.laws.specs.Bounds.{TermsInBounds, InBounds}
use Rattle.ranges.proofs.EveryLaws.{every_holds}
use Rattle.ranges.proofs.Ranges.{largest_bounded, tabulate_front}
use Rattle.laws.proofs.Bounds.Invariant.{scale_le_greatest}
use Rattle.laws.proofs.Passages.LaidOut.{balls_laid_out}
use Rattle.laws.proofs.Steps.StepTaken.{length_row}
use Rattle.ratio.specs.Ratio.{Reaching}
use Rattle.taylor.specs.StepAnswers.{advance_of, row_laid_out, answered}
use Rattle.taylor.specs.declared.step.Numbers.{Numbers}
use Rattle.taylor.specs.declared.step.Stepped.{Stepped}

-- the first n balls of an array
pub front_is : (n : ℕ) (balls : List Ball) → n ≤ length balls → balls_of n balls ≡ take n balls
unfolding balls_of
front_is n balls h = tabulate_front n no_ball balls h

-- ---- the answers, of a step from n balls

module _ (terms : List Term) (head : Head) (start balls : List Ball) (all : length balls ≡ head.n) where
  -- what the definition comes to, as the code says it
  abbrev answer : Stepped
  answer = answered start (passage.advance terms head.step head.tail head.tol balls)

  -- question 4 is answered no
  pub too_large : small balls ≡ false → answered start (passage.stops TooLarge) ≡ answer
  unfolding passage.advance question answered advance_of
  too_large no-4 = rw no-4

  module _ (yes-4 : small balls ≡ true) (q : ℕ) (is-ratio : q ≡ ratio terms head.step head.n (greatest balls)) where
    -- question 5
    slow_is : slow terms head.step balls ≡ leb q most_ratio
    unfolding slow
    slow_is = rw (is-ratio, all)

    -- it is answered no
    pub too_long : most_ratio < q → answered start (passage.stops StepTooLong) ≡ answer
    unfolding passage.advance question answered advance_of
    too_long no-5 = rw (yes-4, slow_is, lt-leb q most_ratio no-5)

    module _ (yes-5 : q ≤ most_ratio) (row : Numbers) (is_row : row ≡ row_laid_out (step_row terms head.step head.tail balls)) (held : head.n ≤ length row.balls) where
      -- the row that the step comes to
      abbrev next_row : Row
      next_row = step_row terms head.step head.tail balls

      -- its balls are the first in their array
      row_balls : next_row.balls ≡ take head.n row.balls
      unfolding row_laid_out
      row_balls =
          sym (balls_laid_out head.n next_row.balls (length_row terms head.step head.tail balls ∙ all)) ∙ ap (λ (numbers : Numbers). balls_of head.n numbers.balls) (sym is_row) ∙ front_is head.n row.balls held

      -- question 6 is left
      goes_on : passage.advance terms head.step head.tail head.tol balls ≡ question (tolerable head.tol (take head.n row.balls)) Intolerable (passage.moves next_row)
      unfolding passage.advance question tolerated
      goes_on = rw (yes-4, slow_is, le-leb q most_ratio yes-5, ← row_balls)

      -- it is answered no
      pub intolerable : tolerable head.tol (take head.n row.balls) ≡ false → answered start (passage.stops Intolerable) ≡ answer
      unfolding question answered advance_of
      intolerable no-6 = rw (goes_on, no-6)

      -- all are answered yes
      pub moved : {d : ℕ} → d ≡ next_row.degree → tolerable head.tol (take head.n row.balls) ≡ true → record { advance = Ok d; numbers = row } ≡ answer
      unfolding question answered advance_of
      moved is-degree yes-6 = rw (goes_on, yes-6, is_row, is-degree)

-- ---- what questions 4 and 5, answered yes, give the calls after them

module _ (balls : List Ball) (yes-4 : small balls ≡ true) where
  pub each : (i : ℕ) → i < length balls → reach (get_or balls i no_ball) ≤ most
  unfolding small
  each i h = leb-true _ _ (every_holds (length balls) (λ i. leb (reach (get_or balls i no_ball)) most) yes-4 i h)

  -- G is one whole at least and 32 at most
  pub greatest_within : {G : ℕ} → G ≡ greatest balls → Reaching G
  greatest_within e = rw e (record { low = scale_le_greatest balls; high = high })
    where
      high : greatest balls ≤ most
      high = unfold greatest scale most in max-le (omega arith) (largest_bounded (length balls) _ _ each)

  -- the balls are in bounds
  pub in_bounds : {terms : List Term} {H : ℤ} {n : ℕ} → length balls ≡ n → TermsInBounds terms H n → ratio terms H n (greatest balls) ≤ most_ratio → InBounds terms H balls
  in_bounds all bounds s = record { sheet = rw all bounds; small = each; slow = rw all s }
