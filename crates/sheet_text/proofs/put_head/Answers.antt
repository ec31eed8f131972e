-- `sheet_text::put_head` meets its contract: its five lines, one after the other.
use native.Mathlib.Omega.{arith}
use lib.IntN.{pos}
use Rattle.ranges.specs.Range.{bytes}
use Rattle.model.specs.Answer.{printed}
use Rattle.model.specs.declared.Head.{Head}
use Rattle.stored.specs.Conversion.{head_text}
use Rattle.printing.proofs.LineLength.{Short, short_natural, short_whole, none_added, line_asked, line_added, length_added}
use Rattle.printing.proofs.SheetLength.{HeadShort, head_short}
use Rattle.sheet_text.proofs.put_head.Goals as goal

-- the numbers of the five lines
module _ {head : Head} (short : HeadShort head) where
  n_short : Short "n" 1 (pos head.n)
  n_short = short_natural "n" 1 (omega arith) short.n (omega (arith, short.n))

  steps_short : Short "steps" 3 (pos head.steps)
  steps_short = short_natural "steps" 3 (omega arith) short.steps (omega (arith, short.steps))

  step_short : Short "step" 9 head.step
  step_short = short_whole "step" 8 (omega arith) short.step (omega (arith, short.step))

  tail_short : Short "tail" 8 (pos head.tail)
  tail_short = short_natural "tail" 8 (omega arith) short.tail (omega (arith, short.tail))

  tol_short : Short "tol" 9 (pos head.tol)
  tol_short = short_natural "tol" 9 (omega arith) short.tol (omega (arith, short.tol))

pub overflow_cast-head : goal.overflow_cast-head
overflow_cast-head c = (n_short (head_short c.args.head c.requires.head_value)).fits

pub line-requires : goal.line-requires
unfolding bytes printed
line-requires c =
    let short = head_short c.args.head c.requires.head_value in
    (omega arith, line_asked "n" (none_added _) (n_short short) (omega (arith, c.requires.most_head_in_bounds)))

pub overflow_cast-head-2 : goal.overflow_cast-head-2
overflow_cast-head-2 c = (steps_short (head_short c.args.head c.requires.head_value)).fits

pub line-requires-2 : goal.line-requires-2
unfolding bytes printed
line-requires-2 c =
    let short = head_short c.args.head c.requires.head_value in
    let n = line_added "n" (none_added _) (n_short short) c.line.ensures in
    (omega arith, line_asked "steps" n (steps_short short) (omega (arith, c.requires.most_head_in_bounds)))

pub line-requires-3 : goal.line-requires-3
unfolding bytes printed
line-requires-3 c =
    let short = head_short c.args.head c.requires.head_value in
    let n = line_added "n" (none_added _) (n_short short) c.line.ensures in
    let steps = line_added "steps" n (steps_short short) c.line-2.ensures in
    (omega arith, line_asked "step" steps (step_short short) (omega (arith, c.requires.most_head_in_bounds)))

pub overflow_cast-head-3 : goal.overflow_cast-head-3
overflow_cast-head-3 c = (tail_short (head_short c.args.head c.requires.head_value)).fits

pub line-requires-4 : goal.line-requires-4
unfolding bytes printed
line-requires-4 c =
    let short = head_short c.args.head c.requires.head_value in
    let n = line_added "n" (none_added _) (n_short short) c.line.ensures in
    let steps = line_added "steps" n (steps_short short) c.line-2.ensures in
    let step = line_added "step" steps (step_short short) c.line-3.ensures in
    (omega arith, line_asked "tail" step (tail_short short) (omega (arith, c.requires.most_head_in_bounds)))

pub overflow_cast-head-4 : goal.overflow_cast-head-4
overflow_cast-head-4 c = (tol_short (head_short c.args.head c.requires.head_value)).fits

pub line-requires-5 : goal.line-requires-5
unfolding bytes printed
line-requires-5 c =
    let short = head_short c.args.head c.requires.head_value in
    let n = line_added "n" (none_added _) (n_short short) c.line.ensures in
    let steps = line_added "steps" n (steps_short short) c.line-2.ensures in
    let step = line_added "step" steps (step_short short) c.line-3.ensures in
    let tail = line_added "tail" step (tail_short short) c.line-4.ensures in
    (omega arith, line_asked "tol" tail (tol_short short) (omega (arith, c.requires.most_head_in_bounds)))

pub returns : goal.returns
unfolding bytes printed head_text
returns c =
    let short = head_short c.args.head c.requires.head_value in
    let n = line_added "n" (none_added _) (n_short short) c.line.ensures in
    let steps = line_added "steps" n (steps_short short) c.line-2.ensures in
    let step = line_added "step" steps (step_short short) c.line-3.ensures in
    let tail = line_added "tail" step (tail_short short) c.line-4.ensures in
    let tol = line_added "tol" tail (tol_short short) c.line-5.ensures in
    record { put = tol.added; bounded = length_added tol }
