-- `passage::run_steps` meets its contract. The loop's invariant: the passage is under way, and the table may be used.
use Rattle.model.specs.Sheet.{refused_at}
use Prim.Native.Nat.{ℕ, ◌+◌, ◌*◌, ◌≤◌, ◌<◌}
use mathlib.Core.List.{List}
use mathlib.Core.Path.{◌≡◌}
use native.Mathlib.Omega.{arith}
use lib.IntN.{ℤ}
use lib.ListN.{length}
use lib.Seq.{sets}
use Rattle.model.specs.Passage.{moves, advance, follow}
use Rattle.model.specs.Rows.{balls_of, width, row_places}
use Rattle.model.specs.declared.Ball.{Ball}
use Rattle.model.specs.declared.Term.{Term}
use Rattle.model.specs.declared.Refusal.{Refusal}
use Rattle.laws.proofs.Passages.UnderWay.{RunInto, Underway, underway_at_start, room_for_row, moved, finished_by_refusal, finished}
use Rattle.laws.proofs.Steps.StepTaken.{degree_at_most}
use Rattle.coefficients.proofs.Filling.{blank_usable}
use Rattle.laws.proofs.Bounds.CountedTerms.{few_listed}
use Rattle.taylor.specs.StepAnswers.{answered, row_of}
use Rattle.taylor.specs.declared.step.Numbers.{Numbers}
use Rattle.taylor.specs.declared.step.Stepped.{Stepped}
use Rattle.std.specs.Prelude.{Err}
use Rattle.laws.proofs.Passages.RowPlaces.{length_balls, length_spans}
use Rattle.passage.proofs.StepAnswered.{step_moves, step_stops, radii_at_most}
use Rattle.passage.proofs.run_steps.Goals as goal

-- the refusal of a step ends the passage with its rows before it
step_refused : {terms : List Term} {H : ℤ} {limit tol steps n done : ℕ} {start : List Ball} {buffer held : List ℤ} {r : Refusal} (balls : List Ball) (stepped : Stepped) → Underway terms H limit tol steps n start buffer done (balls_of n balls) held → steps * width n ≤ length buffer → done < steps → stepped ≡ answered balls (advance terms H limit tol (balls_of n balls)) → stepped.advance ≡ Err r → RunInto (follow terms H limit tol steps 1 start) buffer held (refused_at r (done + 1))
step_refused balls stepped underway room left is e =
    finished_by_refusal _ underway room left (step_stops balls _ stepped _ is e)

-- the row of a step, put behind the rows before it
one_row_more : {terms : List Term} {H : ℤ} {limit tol steps n done degree : ℕ} {start balls : List Ball} {buffer held after : List ℤ} (row : Numbers) → Underway terms H limit tol steps n start buffer done balls held → done < steps → advance terms H limit tol balls ≡ moves (row_of n degree row) → after ≡ sets held (done * width n) (row_places (row_of n degree row)) → Underway terms H limit tol steps n start buffer (done + 1) (balls_of n row.balls) after
one_row_more {n = n} row underway left e stored =
    rw stored (moved _ underway left e (record { balls = length_balls n row.balls; spans = length_spans n row.spans }))

pub sums_of-sums-requires : goal.sums_of-sums-requires
sums_of-sums-requires c = record { n_le_most_quantities = omega (arith, c.requires.each.room); summable = rw (c.listed-terms.ensures (few_listed c.args.terms.now c.requires.each.bounds.summable)) c.requires.each.bounds.summable }

pub loop-done-init : goal.loop-done-init
loop-done-init c = (underway_at_start _ _ _ _, blank_usable _ _ c.new-table.ensures)

pub take_step-stepped-requires : goal.take_step-stepped-requires
take_step-stepped-requires c =
    record { can_step = rw (c.listed-terms.ensures (few_listed c.args.terms.now c.requires.each.bounds.summable)) c.requires.each; sums_of = c.sums_of-sums.ensures; usable_before = c.loop-done.invariant.1 }

pub returns-in-Err : goal.returns-in-Err
returns-in-Err c =
    let into = step_refused c.loop-done.balls c.take_step-stepped.result c.loop-done.invariant.0 c.requires.room (omega arith) c.take_step-stepped.ensures.stepped c.in-Err.is in
    rw (← (c.listed-terms.ensures (few_listed c.args.terms.now c.requires.each.bounds.summable))) (record { ended = into.0; put = into.1 })

pub put_row-requires : goal.put_row-requires
put_row-requires c =
    let moves = step_moves _ _ _ _ c.args.head.now.n _ c.take_step-stepped.result _ c.take_step-stepped.ensures.stepped c.in-Ok.is in
    record {
      place = record { few = c.requires.each.room; room = room_for_row c.loop-done.invariant.0 c.requires.room (omega arith) };
      degree_fits = omega (arith, degree_at_most _ _ _ _ _ moves);
      radii_fit = λ i h. omega (arith, radii_at_most _ _ _ _ _ c.args.head.now.n _ c.take_step-stepped.result.numbers moves i h, c.requires.tol);
    }

pub loop-done-preserved : goal.loop-done-preserved
loop-done-preserved c =
    let moves = step_moves _ _ _ _ c.args.head.now.n _ c.take_step-stepped.result _ c.take_step-stepped.ensures.stepped c.in-Ok.is in
    (one_row_more c.take_step-stepped.result.numbers c.loop-done.invariant.0 (omega arith) moves c.put_row.ensures, c.take_step-stepped.ensures.usable)

pub returns : goal.returns
returns c =
    let into = finished c.loop-done.invariant.0 c.requires.room (omega arith) in
    rw (← (c.listed-terms.ensures (few_listed c.args.terms.now c.requires.each.bounds.summable))) (record { ended = into.0; put = into.1 })
