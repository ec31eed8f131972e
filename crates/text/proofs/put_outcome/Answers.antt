-- `text::put_outcome` meets its contract: the result's line and the step's.
use Prim.Native.Nat.{ℕ, suc, ◌≤◌}
use mathlib.Core.Path.{◌≡◌, ap, ◌∙◌}
use mathlib.Core.List.{List, [], ◌++◌}
use native.Mathlib.Omega.{arith}
use lib.IntN.{pos}
use lib.ListN.{length}
use Rattle.ranges.specs.Range.{bytes}
use Rattle.model.specs.Sheet.{Outcome, most_steps, result, refused_step}
use Rattle.model.specs.Answer.{printed, outcome_text}
use Rattle.printing.proofs.LineLength.{Short, short_natural, none_added, line_asked, line_added}
use Rattle.printing.proofs.Pieces.{put_same}
use Rattle.printing.proofs.AnswerLength.{result_short}
use Rattle.text.proofs.put_outcome.Goals as goal

-- the result is at most 10, and the step has three digits at most
number_short : (outcome : Outcome) {number : ℕ} → number ≡ result outcome → Short "result" 2 (pos number)
number_short outcome e =
    short_natural "result" 2 (omega arith) (omega (arith, e, result_short outcome)) (omega (arith, e, result_short outcome))

step_short : (outcome : Outcome) {step : ℕ} → step ≡ refused_step outcome → refused_step outcome ≤ suc most_steps → Short "at" 3 (pos step)
step_short outcome e h = short_natural "at" 3 (omega arith) (omega (arith, e, h)) (omega (arith, e, h))

-- the lines that stand in the buffer
both_lines : (outcome : Outcome) {none both shown : List ℕ} {number step : ℕ} → number ≡ result outcome → step ≡ refused_step outcome → none ≡ [] → both ≡ none ++ (printed "result" (pos number) ++ printed "at" (pos step)) → shown ≡ both → shown ≡ outcome_text outcome
unfolding outcome_text
both_lines outcome e f none put shown = shown ∙ put ∙ rw (none, e, f)

pub overflow_cast-number : goal.overflow_cast-number
overflow_cast-number c = (number_short c.args.outcome c.result-number.ensures).fits

pub line-requires : goal.line-requires
unfolding bytes printed
line-requires c =
    (omega arith, line_asked "result" (none_added _) (number_short c.args.outcome c.result-number.ensures) (omega (arith, ap length c.new-lines.ensures)))

pub line-requires-2 : goal.line-requires-2
unfolding bytes printed
line-requires-2 c =
    let number = line_added "result" (none_added _) (number_short c.args.outcome c.result-number.ensures) c.line.ensures in
    (omega arith, line_asked "at" number (step_short c.args.outcome c.refused_step-step.ensures c.requires.outcome_bound) (omega (arith, ap length c.new-lines.ensures)))

pub returns : goal.returns
unfolding bytes printed
returns c =
    let number = line_added "result" (none_added _) (number_short c.args.outcome c.result-number.ensures) c.line.ensures in
    let both = line_added "at" number (step_short c.args.outcome c.refused_step-step.ensures c.requires.outcome_bound) c.line-2.ensures in
    put_same
    (both_lines c.args.outcome c.result-number.ensures c.refused_step-step.ensures c.new-lines.ensures both.added c.as_slice.ensures)
    c.put_front.ensures
