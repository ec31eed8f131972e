-- `sheet_text::put_term` meets its contract: its four lines, one after the other.
use native.Mathlib.Omega.{arith}
use lib.IntN.{pos}
use Rattle.ranges.specs.Range.{bytes}
use Rattle.model.specs.Answer.{printed}
use Rattle.model.specs.declared.Term.{Term}
use Rattle.stored.specs.Conversion.{term_text}
use Rattle.printing.specs.SheetLength.{TermShort}
use Rattle.printing.proofs.LineLength.{Short, short_natural, short_whole, none_added, line_asked, line_added, length_added}
use Rattle.sheet_text.proofs.put_term.Goals as goal

-- the numbers of the four lines
module _ {term : Term} (short : TermShort term) where
  target_short : Short "to" 1 (pos term.to)
  target_short = short_natural "to" 1 (omega arith) (omega (arith, short.target)) (omega (arith, short.target))

  coef_short : Short "coef" 10 term.coef
  coef_short = short_whole "coef" 9 (omega arith) (omega (arith, short.coefficient)) (omega (arith, short.coefficient))

  first_short : Short "first" 1 (pos term.first)
  first_short = short_natural "first" 1 (omega arith) (omega (arith, short.first)) (omega (arith, short.first))

  second_short : Short "second" 1 (pos term.second)
  second_short = short_natural "second" 1 (omega arith) (omega (arith, short.second)) (omega (arith, short.second))

pub line-requires : goal.line-requires
unfolding bytes printed
line-requires c =
    (omega arith, line_asked "to" (none_added _) (target_short c.requires.term_short) (omega (arith, c.requires.most_term_in_bounds)))

pub line-requires-2 : goal.line-requires-2
unfolding bytes printed
line-requires-2 c =
    let target = line_added "to" (none_added _) (target_short c.requires.term_short) c.line.ensures in
    (omega arith, line_asked "coef" target (coef_short c.requires.term_short) (omega (arith, c.requires.most_term_in_bounds)))

pub line-requires-3 : goal.line-requires-3
unfolding bytes printed
line-requires-3 c =
    let target = line_added "to" (none_added _) (target_short c.requires.term_short) c.line.ensures in
    let coef = line_added "coef" target (coef_short c.requires.term_short) c.line-2.ensures in
    (omega arith, line_asked "first" coef (first_short c.requires.term_short) (omega (arith, c.requires.most_term_in_bounds)))

pub line-requires-4 : goal.line-requires-4
unfolding bytes printed
line-requires-4 c =
    let target = line_added "to" (none_added _) (target_short c.requires.term_short) c.line.ensures in
    let coef = line_added "coef" target (coef_short c.requires.term_short) c.line-2.ensures in
    let first = line_added "first" coef (first_short c.requires.term_short) c.line-3.ensures in
    (omega arith, line_asked "second" first (second_short c.requires.term_short) (omega (arith, c.requires.most_term_in_bounds)))

pub returns : goal.returns
unfolding bytes printed term_text
returns c =
    let target = line_added "to" (none_added _) (target_short c.requires.term_short) c.line.ensures in
    let coef = line_added "coef" target (coef_short c.requires.term_short) c.line-2.ensures in
    let first = line_added "first" coef (first_short c.requires.term_short) c.line-3.ensures in
    let second = line_added "second" first (second_short c.requires.term_short) c.line-4.ensures in
    record { put = second.added; bounded = length_added second }
