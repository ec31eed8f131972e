-- `passage::run` meets its contract.
use mathlib.Core.List.{List}
use mathlib.Core.Path.{◌≡◌, ap, ◌∙◌}
use native.Mathlib.Omega.{arith}
use lib.IntN.{ℤ}
use lib.ListN.{length}
use Rattle.model.specs.declared.Ball.{Ball}
use Rattle.model.specs.declared.Sheet.{Sheet}
use Rattle.model.specs.declared.Terms.{Terms}
use Rattle.model.specs.Sheet.{most, sheet_verdict, verdict_outcome, listed, terms_of, starts_of, Outcome}
use Rattle.model.specs.LikeTerms.{gathered}
use Rattle.model.specs.Passage.{places_needed, follow, run, passage}
use Rattle.model.specs.Rows.{width, balls_of, laid_out}
use Rattle.ranges.proofs.Ranges.{length_tabulate}
use Rattle.laws.proofs.Passages.LaidOut.{balls_laid_out}
use Rattle.laws.proofs.Passages.RowPlaces.{rows_fit}
use Rattle.verdict.proofs.Outcomes.{given_back}
use Rattle.std.specs.Prelude.{Err}
use Rattle.std.specs.Result.{IsErrAnd}
use Rattle.model.specs.declared.Refused.{Refused}
use Rattle.single_step.proofs.AcceptedSheet.{passed, refuses_as, can_step, can_gather}
use Rattle.laws.proofs.Passages.UnderWay.{RunInto}
use Rattle.enclosure.proofs.PromisedRows.{run_refused, run_too_few_places, run_through, promised}
use Rattle.passage.proofs.run.Goals as goal

-- a passage whose verdict refuses, by what a `?` gives back
verdict_refused : (sheet : Sheet) (buffer : List ℤ) {given : Outcome} {refused : Refused} → Err refused ≡ verdict_outcome (sheet_verdict sheet) → IsErrAnd given (λ r. r ≡ refused) → RunInto (passage sheet (length buffer)) buffer buffer given
unfolding verdict_outcome
verdict_refused sheet buffer e back =
    let refused = refuses_as (sheet_verdict sheet) e in
    rw (given_back (sheet_verdict sheet) e back, refused) (run_refused sheet buffer refused)

-- the steps by the gathered terms, from the sheet's start, are the sheet's run
ran : (sheet : Sheet) (terms : Terms) (start : List Ball) (before : List ℤ) {after : List ℤ} {outcome : Outcome} → listed terms ≡ gathered (listed sheet.terms) → start ≡ laid_out (starts_of sheet) → RunInto (follow (listed terms) sheet.head.step sheet.head.tail sheet.head.tol sheet.head.steps 1 (balls_of sheet.head.n start)) before after outcome → RunInto (run sheet) before after outcome
unfolding run terms_of starts_of
ran sheet terms start before is from into =
    let starts : balls_of sheet.head.n start ≡ starts_of sheet = ap (balls_of sheet.head.n) from ∙ balls_laid_out sheet.head.n (starts_of sheet) (length_tabulate sheet.head.n _) in
    rw (is, starts) at into

pub returns-in_err-verdict : goal.returns-in_err-verdict
returns-in_err-verdict c =
    promised c.args.sheet.now c.args.rows.now (verdict_refused c.args.sheet.now c.args.rows.now c.in_err-verdict.ensures.whole c.from_residual.ensures.1)

pub width-requires : goal.width-requires
width-requires c = (passed c.args.sheet.now c.in_ok-verdict.ensures.whole).0.n_high

pub overflow_mul-sheet : goal.overflow_mul-sheet
unfolding width
overflow_mul-sheet c =
    let head = c.args.sheet.now.head in
    let counts = (passed c.args.sheet.now c.in_ok-verdict.ensures.whole).0 in
    rw c.width.ensures (omega (arith, rows_fit head.steps head.n counts.steps_high counts.n_high))

pub returns-then-rows-sheet : goal.returns-then-rows-sheet
unfolding places_needed
returns-then-rows-sheet c =
    let sheet = c.args.sheet.now in
    promised sheet c.args.rows.now (rw c.into.ensures (run_too_few_places sheet c.args.rows.now (passed sheet c.in_ok-verdict.ensures.whole).1 (rw c.width.ensures at c.if-rows-sheet.true)))

pub starts_of-start-requires : goal.starts_of-start-requires
starts_of-start-requires c = (passed c.args.sheet.now c.in_ok-verdict.ensures.whole).0.n_high

pub gather-terms-requires : goal.gather-terms-requires
gather-terms-requires c = can_gather c.args.sheet.now (passed c.args.sheet.now c.in_ok-verdict.ensures.whole).1

pub run_steps-requires : goal.run_steps-requires
unfolding most
run_steps-requires c =
    let p = passed c.args.sheet.now c.in_ok-verdict.ensures.whole in
    record {
      each = can_step c.args.sheet.now p.0 p.1 c.gather-terms.result c.gather-terms.ensures;
      steps = p.0.steps_high;
      tol = omega (arith, p.0.tol_high);
      room = rw c.width.ensures at c.if-rows-sheet.false;
    }

pub returns : goal.returns
unfolding places_needed
returns c =
    let sheet = c.args.sheet.now in
    let finished = ran sheet c.gather-terms.result c.starts_of-start.result c.args.rows.now c.gather-terms.ensures c.starts_of-start.ensures (c.run_steps.ensures.ended, c.run_steps.ensures.put) in
    promised sheet c.args.rows.now (run_through sheet c.args.rows.now (passed sheet c.in_ok-verdict.ensures.whole).1 (rw c.width.ensures at c.if-rows-sheet.false) finished)
