-- `taylor::step::take_step` meets its contract. Question after question, as the definition asks them.
use Prim.Native.Nat.{ℕ, ◌^◌, ◌≤◌}
use mathlib.Core.List.{List}
use mathlib.Core.Path.{◌≡◌, sym, ap, ◌∙◌}
use native.Mathlib.Omega.{arith}
use borrow.Author.Rules.{rules}
use lib.IntN.{ℤ}
use lib.ListN.{length, take}
use mir.Syntax.{w64}
use mir.Val.{SFits, to_z, of_z}
use mir.Facts.{to_z-of_z}
use Rattle.std.proofs.lemmas.List.{length-take-le}
use Rattle.model.specs.Step.{Row, most_degree, greatest, ratio, ratio_by, degree, tail_at, new_row, step_row}
use Rattle.model.specs.Passage as passage
use Rattle.model.specs.Passage.{most_ratio}
use Rattle.model.specs.Rows.{balls_of}
use Rattle.model.specs.declared.Ball.{Ball}
use Rattle.model.specs.declared.Head.{Head}
use Rattle.model.specs.declared.Term.{Term}
use Rattle.laws.proofs.Steps.Degree.{IsDegree, degree_is_least}
use Rattle.ratio.specs.Ratio.{sum_at, SumsOf}
use Rattle.taylor.specs.StepAnswers.{row_laid_out, answered}
use Rattle.taylor.specs.declared.step.Numbers.{Numbers}
use Rattle.taylor.specs.declared.step.Stepped.{Stepped}
use Rattle.ratio.proofs.Ratios as ratios
use Rattle.taylor.proofs.Answers.{front_is, too_large, too_long, intolerable, moved, each, greatest_within, in_bounds}
use Rattle.taylor.proofs.step.take_step.Goals as goal

-- the answer to a step from the first n balls of an array
whole : {stepped : Stepped} (terms : List Term) (head : Head) (start : List Ball) → head.n ≤ length start → stepped ≡ answered start (passage.advance terms head.step head.tail head.tol (take head.n start)) →
    stepped ≡ answered start (passage.advance terms head.step head.tail head.tol (balls_of head.n start))
whole terms head start held e =
    e ∙ ap (λ (balls : List Ball). answered start (passage.advance terms head.step head.tail head.tol balls)) (sym (front_is head.n start held))

-- ---- the ratio, of a step by its bits

ratio_kept : {terms : List Term} {n : ℕ} {sums : List (List ℕ)} {H : ℤ} {G q : ℕ} (balls : List Ball) → SumsOf terms n sums → SFits w64 H → G ≡ greatest balls → q ≡ ratio_by (sum_at (take n sums)) (to_z w64 (of_z w64 H)) (length (take n sums)) G → q ≡ ratio terms H n (greatest balls)
ratio_kept {H} balls of fits g e = ratios.ratio_is of H balls g (rw (to_z-of_z fits) at e)

-- ---- the row, by its degree and tail

module _ (terms : List Term) (head : Head) (balls : List Ball) (len : length balls ≡ head.n) {G q d tail : ℕ} (g : G ≡ greatest balls) (r : q ≡ ratio terms head.step head.n (greatest balls)) (hd : d ≡ degree G q head.tail) (ht : tail ≡ tail_at G q (degree G q head.tail)) where
  -- the row of this degree and tail is that of the step ..
  row_is_step : new_row terms head.step balls d tail ≡ step_row terms head.step head.tail balls
  unfolding step_row
  row_is_step = rw (hd, ht, r, g, len)

  -- .. as the code holds it too ..
  laid_out_is_step : {row : Numbers} → row ≡ row_laid_out (new_row terms head.step balls d tail) → row ≡ row_laid_out (step_row terms head.step head.tail balls)
  laid_out_is_step e = e ∙ ap row_laid_out row_is_step

  -- .. and has this degree
  degree_is_step : d ≡ (step_row terms head.step head.tail balls).degree
  unfolding new_row
  degree_is_step = ap (λ (row : Row). row.degree) row_is_step

-- ---- the answers

pub returns-then-not-small-clause-stepped : goal.returns-then-not-small-clause-stepped
returns-then-not-small-clause-stepped c =
    let terms = c.args.terms.now in
    let head = c.args.head.now in
    let start = c.args.start.now in
    let balls = take head.n start in
    let held : head.n ≤ length start = search rules in
    whole terms head start held (c.stopped.ensures ∙ too_large terms head start balls (length-take-le head.n start held) (sym c.small.ensures ∙ c.if-not-small.true))

pub returns-then-q-gt-MOST_RATIO-clause-stepped : goal.returns-then-q-gt-MOST_RATIO-clause-stepped
unfolding most_ratio
returns-then-q-gt-MOST_RATIO-clause-stepped c =
    let terms = c.args.terms.now in
    let head = c.args.head.now in
    let start = c.args.start.now in
    let balls = take head.n start in
    let held : head.n ≤ length start = search rules in
    let all = length-take-le head.n start held in
    let yes-4 = sym c.small.ensures ∙ c.if-not-small.false in
    let is-ratio = ratio_kept balls c.requires.sums_of (search rules) c.largest_reach-reach.ensures c.ratio-q.ensures in
    whole terms head start held (c.stopped-then-q-gt-MOST_RATIO.ensures ∙ too_long terms head start balls all yes-4 c.ratio-q.result is-ratio c.if-q-gt-MOST_RATIO.true)

pub returns-then-not-tolerable-clause-stepped : goal.returns-then-not-tolerable-clause-stepped
unfolding most_ratio
returns-then-not-tolerable-clause-stepped c =
    let terms = c.args.terms.now in
    let head = c.args.head.now in
    let start = c.args.start.now in
    let balls = take head.n start in
    let held : head.n ≤ length start = search rules in
    let all = length-take-le head.n start held in
    let yes-4 = sym c.small.ensures ∙ c.if-not-small.false in
    let held-row : head.n ≤ length c.row_of-numbers.result.balls = search rules in
    let is-ratio = ratio_kept balls c.requires.sums_of (search rules) c.largest_reach-reach.ensures c.ratio-q.ensures in
    let is-row = laid_out_is_step terms head balls all c.largest_reach-reach.ensures is-ratio c.truncate-cut.ensures.degree c.truncate-cut.ensures.tail c.row_of-numbers.ensures.row in
    whole terms head start held (c.stopped-then-not-tolerable.ensures ∙ intolerable terms head start balls all yes-4 c.ratio-q.result is-ratio c.if-q-gt-MOST_RATIO.false c.row_of-numbers.result is-row held-row (sym c.tolerable.ensures ∙ c.if-not-tolerable.true))

pub returns-clause-stepped : goal.returns-clause-stepped
unfolding most_ratio
returns-clause-stepped c =
    let terms = c.args.terms.now in
    let head = c.args.head.now in
    let start = c.args.start.now in
    let balls = take head.n start in
    let held : head.n ≤ length start = search rules in
    let all = length-take-le head.n start held in
    let yes-4 = sym c.small.ensures ∙ c.if-not-small.false in
    let held-row : head.n ≤ length c.row_of-numbers.result.balls = search rules in
    let is-ratio = ratio_kept balls c.requires.sums_of (search rules) c.largest_reach-reach.ensures c.ratio-q.ensures in
    let is-row = laid_out_is_step terms head balls all c.largest_reach-reach.ensures is-ratio c.truncate-cut.ensures.degree c.truncate-cut.ensures.tail c.row_of-numbers.ensures.row in
    let is-degree = degree_is_step terms head balls all c.largest_reach-reach.ensures is-ratio c.truncate-cut.ensures.degree c.truncate-cut.ensures.tail in
    whole terms head start held (moved terms head start balls all yes-4 c.ratio-q.result is-ratio c.if-q-gt-MOST_RATIO.false c.row_of-numbers.result is-row held-row is-degree (sym c.tolerable.ensures ∙ c.if-not-tolerable.false))

-- ---- what the calls ask

pub largest_reach-reach-requires : goal.largest_reach-reach-requires
largest_reach-reach-requires c = each (take c.args.head.now.n c.args.start.now) (sym c.small.ensures ∙ c.if-not-small.false)

pub ratio-q-requires-clause-sized : goal.ratio-q-requires-clause-sized
ratio-q-requires-clause-sized c =
    ratios.sized c.requires.sums_of c.requires.can_step.bounds.summable.total (greatest_within (take c.args.head.now.n c.args.start.now) (sym c.small.ensures ∙ c.if-not-small.false) c.largest_reach-reach.ensures)

pub truncate-cut-requires-clause-reach_le_most : goal.truncate-cut-requires-clause-reach_le_most
truncate-cut-requires-clause-reach_le_most c =
    let in-range = greatest_within (take c.args.head.now.n c.args.start.now) (sym c.small.ensures ∙ c.if-not-small.false) c.largest_reach-reach.ensures in
    in-range.high

pub truncate-cut-requires-clause-ratio_le_most_ratio : goal.truncate-cut-requires-clause-ratio_le_most_ratio
unfolding most_ratio
truncate-cut-requires-clause-ratio_le_most_ratio c = c.if-q-gt-MOST_RATIO.false

-- the degree is 28 at most, and the tail at most the sheet's
pub row_of-numbers-requires : goal.row_of-numbers-requires
unfolding most_ratio
row_of-numbers-requires c =
    let head = c.args.head.now in
    let start = c.args.start.now in
    let balls = take head.n start in
    let held : head.n ≤ length start = search rules in
    let all = length-take-le head.n start held in
    let yes-4 = sym c.small.ensures ∙ c.if-not-small.false in
    let in-range = greatest_within balls yes-4 c.largest_reach-reach.ensures in
    let least : IsDegree c.largest_reach-reach.result c.ratio-q.result c.args.head.now.tail (degree c.largest_reach-reach.result c.ratio-q.result c.args.head.now.tail) =
    degree_is_least _ in-range.high c.if-q-gt-MOST_RATIO.false c.requires.can_step.tail_low in
    let low : c.truncate-cut.result.degree ≤ most_degree = omega (arith, c.truncate-cut.ensures.degree, least.at_most) in
    let short : c.truncate-cut.result.tail ≤ 2 ^ 32 = omega (arith, c.truncate-cut.ensures.tail, least.within, c.requires.can_step.tail_high) in
    let is-ratio = ratio_kept balls c.requires.sums_of (search rules) c.largest_reach-reach.ensures c.ratio-q.ensures in
    record {
      bounds = in_bounds balls yes-4 all c.requires.can_step.bounds (rw is-ratio at c.if-q-gt-MOST_RATIO.false);
      all = all;
      room = c.requires.can_step.room;
      degree = low;
      tail = short;
      usable = c.requires.usable_before;
    }
