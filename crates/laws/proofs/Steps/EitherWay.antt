-- A step back beside the step forward of the same length, from the same values and radii: both have the same ratio, degree, tail and new radii,
-- and are refused alike.
use Prim.Native.Nat.{ℕ, suc, ◌+◌}
use mathlib.Core.Bool.{Bool, true, false}
use mathlib.Core.List.{List, map}
use mathlib.Core.Path.{◌≡◌, refl, sym, ap, ap₂, ◌∙◌}
use native.Mathlib.Omega.{arith}
use lib.Dec.{leb}
use lib.IntN.{ℤ, neg_ℤ}
use lib.ListN.{length, get_or, get_or-map}
use Rattle.rounding.proofs.Integers.{abs_neg}
use Rattle.ranges.specs.Range.{tabulate, every}
use Rattle.model.specs.Step.{no_ball, greatest, ratio_by, ratio, Row, Coefficients, new_ball, new_row, step_row}
use Rattle.model.specs.declared.Ball.{Ball}
use Rattle.model.specs.Sheet.{Verdict, passes, refuses}
use Rattle.model.specs.Passage.{Advance, moves, stops, question, most_ratio, slow, tolerable, tolerated, advance}
use Rattle.model.specs.declared.Refusal.{Refusal}
use Rattle.model.specs.declared.Refusal.TheVariants.{TooLarge, StepTooLong, Intolerable}
use Rattle.model.specs.declared.Term.{Term}
use Rattle.ranges.proofs.Ranges.{sum_equal, length_tabulate, map_tabulate}
use Rattle.laws.proofs.Steps.SignOfPowers.{forth, back, coefficients_turned}

-- ---- its row

module _ (terms : List Term) (H : ℤ) (balls : List Ball) where
  ratio_either_way : (n G : ℕ) → ratio terms (neg_ℤ H) n G ≡ ratio terms H n G
  unfolding ratio ratio_by
  ratio_either_way n G = rw (abs_neg H)

  radius_either_way : (d tail i : ℕ) → (new_ball (back terms H balls d) d tail i).radius ≡ (new_ball (forth terms H balls d) d tail i).radius
  unfolding new_ball
  radius_either_way d tail i = ap (λ (m : ℕ). m + tail) (sum_equal (suc d) _ _ (λ k h. ap (λ (ball : Ball). ball.radius) ((coefficients_turned terms H balls d).is k i (omega arith))))

-- two rows have the same degree and the same radii
pub record SameRadii (a b : Row) : Type 0 where
  pub degree : a.degree ≡ b.degree
  pub quantities : length a.balls ≡ length b.balls
  pub radius : (i : ℕ) → (get_or a.balls i no_ball).radius ≡ (get_or b.balls i no_ball).radius

radius_of : Ball → ℕ
radius_of ball = ball.radius

row_of_degree : (terms : List Term) (H : ℤ) (balls : List Ball) (d tail : ℕ) → SameRadii (new_row terms (neg_ℤ H) balls d tail) (new_row terms H balls d tail)
unfolding new_row no_ball radius_of
row_of_degree terms H balls d tail =
    record {
      degree = refl;
      quantities = length_tabulate (length balls) _ ∙ sym (length_tabulate (length balls) _);
      radius = λ i. sym (get_or-map radius_of (new back) i no_ball) ∙ ap (λ (radii : List ℕ). get_or radii i 0) same ∙ get_or-map radius_of (new forth) i no_ball;
    }
  where
    new : (List Term → ℤ → List Ball → ℕ → Coefficients) → List Ball
    new table = tabulate (length balls) (new_ball (table terms H balls d) d tail)

    same : map radius_of (new back) ≡ map radius_of (new forth)
    same = map_tabulate (length balls) _ radius_of ∙ ap (tabulate (length balls)) (λ t i. radius_either_way terms H balls d tail i t) ∙ sym (map_tabulate (length balls) _ radius_of)

pub row_either_way : (terms : List Term) (H : ℤ) (limit : ℕ) (balls : List Ball) → SameRadii (step_row terms (neg_ℤ H) limit balls) (step_row terms H limit balls)
unfolding step_row
row_either_way terms H limit balls = rw (ratio_either_way terms H balls (length balls) (greatest balls)) (row_of_degree terms H balls _ _)

-- ---- its questions

tolerable_alike : (tol : ℕ) {a b : Row} → SameRadii a b → tolerable tol a.balls ≡ tolerable tol b.balls
unfolding tolerable
tolerable_alike tol same = ap₂ every same.quantities (λ t i. leb (same.radius i t) tol)

-- the refusal that a step comes to, if it is refused
unfoldable pub refusal_of : Advance → Verdict
refusal_of (moves row) = passes
refusal_of (stops r) = refuses r

question_alike : {a b : Bool} (r : Refusal) (x y : Advance) → a ≡ b → refusal_of x ≡ refusal_of y → refusal_of (question a r x) ≡ refusal_of (question b r y)
unfolding question
question_alike {a} {b} r x y e h = rw e (go b)
  where
    go : (b : Bool) → refusal_of (question b r x) ≡ refusal_of (question b r y)
    go true = h
    go false = refl

-- a step back is refused just where the step forward is, and by the same refusal
pub refused_either_way : (terms : List Term) (H : ℤ) (limit tol : ℕ) (balls : List Ball) → refusal_of (advance terms (neg_ℤ H) limit tol balls) ≡ refusal_of (advance terms H limit tol balls)
unfolding advance tolerated slow refusal_of
refused_either_way terms H limit tol balls =
    question_alike TooLarge _ _ refl
    (question_alike StepTooLong _ _ (ap (λ (q : ℕ). leb q most_ratio) (ratio_either_way terms H balls (length balls) (greatest balls)))
    (question_alike Intolerable _ _ (tolerable_alike tol (row_either_way terms H limit balls)) refl))
