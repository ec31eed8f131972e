-- `sheet_text::put_lines` meets its contract: the head, the quantities, how many terms there are, and the terms.
use Prim.Native.Nat.{ℕ, ◌<◌}
use mathlib.Core.Path.{◌≡◌, ap, ◌∙◌}
use mathlib.Core.List.{List, ◌++◌, flatten}
use native.Mathlib.Omega.{arith}
use lib.IntN.{pos}
use lib.ListN.{length, get_or, take}
use lib.Seq.{length-take-le}
use Rattle.std.proofs.Common.{rules}
use Rattle.std.proofs.lemmas.List.{get_or-take}
use Rattle.ranges.specs.Range.{tabulate, bytes}
use Rattle.ranges.proofs.Ranges.{length_tabulate, get_or_tabulate, tabulate_equal}
use Rattle.model.specs.Sheet.{passes, quantity_verdict, quantities_verdict, no_quantity, no_term, listed, most_quantities}
use Rattle.model.specs.Answer.{printed}
use Rattle.model.specs.declared.Sheet.{Sheet}
use Rattle.model.specs.declared.Term.{Term}
use Rattle.stored.specs.Conversion.{head_text, quantity_text, term_text, sheet_text}
use Rattle.laws.proofs.Text.Verdicts.{in_order_equal}
use Rattle.printing.specs.SheetLength.{TermShort}
use Rattle.printing.proofs.Pieces.{added_then}
use Rattle.printing.proofs.LineLength.{Short, short_natural, none_added, line_asked, line_added, length_added}
use Rattle.printing.proofs.SheetLength.{SheetShort, sheet_short}
use Rattle.sheet_text.proofs.put_lines.Goals as goal

-- ---- the quantities, as the front of their array

module _ {sheet : Sheet} (short : SheetShort sheet) (whole : length sheet.quantities ≡ most_quantities) where
  quantities_held : length (take sheet.head.n sheet.quantities) ≡ sheet.head.n
  quantities_held = length-take-le sheet.head.n sheet.quantities (omega (arith, short.n, whole))

  quantities_pass : quantities_verdict (length (take sheet.head.n sheet.quantities)) (take sheet.head.n sheet.quantities) ≡ passes
  unfolding quantities_verdict
  quantities_pass =
      rw quantities_held (in_order_equal sheet.head.n _ _ (λ i h. ap quantity_verdict (get_or-take sheet.head.n sheet.quantities i no_quantity h)) ∙ short.quantities)

  quantity_lines : flatten (tabulate (length (take sheet.head.n sheet.quantities)) (λ i. quantity_text (get_or (take sheet.head.n sheet.quantities) i no_quantity))) ≡ flatten (tabulate sheet.head.n (λ i. quantity_text (get_or sheet.quantities i no_quantity)))
  quantity_lines =
      rw quantities_held (ap flatten (tabulate_equal sheet.head.n _ _ (λ i h. ap quantity_text (get_or-take sheet.head.n sheet.quantities i no_quantity h))))

-- ---- the terms that are counted

module _ {sheet : Sheet} (short : SheetShort sheet) {terms : List Term} (is : terms ≡ listed sheet.terms) where
  count_terms : length terms ≡ sheet.terms.count
  unfolding listed
  count_terms = rw is (length_tabulate sheet.terms.count _)

  term_at : (j : ℕ) → j < sheet.terms.count → get_or terms j no_term ≡ get_or sheet.terms.list j no_term
  unfolding listed
  term_at j h = rw is (get_or_tabulate sheet.terms.count _ no_term j h)

  terms_short : (j : ℕ) → j < length terms → TermShort (get_or terms j no_term)
  terms_short j h =
      let counted : j < sheet.terms.count = rw count_terms at h in
      rw (term_at j counted) (short.term j counted)

  term_lines : flatten (tabulate (length terms) (λ j. term_text (get_or terms j no_term))) ≡ flatten (tabulate sheet.terms.count (λ j. term_text (get_or sheet.terms.list j no_term)))
  term_lines = rw count_terms (ap flatten (tabulate_equal sheet.terms.count _ _ (λ j h. ap term_text (term_at j h))))

-- ---- the lines, one after the other

count_short : {sheet : Sheet} → SheetShort sheet → Short "terms" 2 (pos sheet.terms.count)
count_short short = short_natural "terms" 2 (omega arith) (omega (arith, short.count)) (omega (arith, short.count))

-- those up to the terms
module _ {sheet : Sheet} (short : SheetShort sheet) (whole : length sheet.quantities ≡ most_quantities) (before : List ℕ) {headed put : List ℕ} (h : headed ≡ before ++ head_text sheet.head) (q : put ≡ headed ++ flatten (tabulate (length (take sheet.head.n sheet.quantities)) (λ i. quantity_text (get_or (take sheet.head.n sheet.quantities) i no_quantity)))) where
  quantities_put : put ≡ before ++ (head_text sheet.head ++ flatten (tabulate sheet.head.n (λ i. quantity_text (get_or sheet.quantities i no_quantity))))
  quantities_put = added_then before _ _ h (q ∙ ap (λ (lines : List ℕ). headed ++ lines) (quantity_lines short whole))

pub shared_ref_as_front-put_quantities : goal.shared_ref_as_front-put_quantities
shared_ref_as_front-put_quantities c = (sheet_short c.args.sheet c.requires.sheet_value).n

pub put_head-requires-clause-head_value : goal.put_head-requires-clause-head_value
put_head-requires-clause-head_value c = (sheet_short c.args.sheet c.requires.sheet_value).head

pub put_quantities-requires : goal.put_quantities-requires
put_quantities-requires c =
    let short = sheet_short c.args.sheet c.requires.sheet_value in
    record {
      quantities_value = quantities_pass short (search rules);
      most_quantity_in_bounds = rw (quantities_held short (search rules)) (omega (arith, short.n, c.requires.most_sheet_in_bounds, c.put_head.ensures.bounded));
    }

pub overflow_cast-sheet : goal.overflow_cast-sheet
overflow_cast-sheet c = (count_short (sheet_short c.args.sheet c.requires.sheet_value)).fits

pub line-requires : goal.line-requires
unfolding bytes printed
line-requires c =
    let short = sheet_short c.args.sheet c.requires.sheet_value in
    let held = quantities_held short (search rules) in
    (omega arith, line_asked "terms" (none_added _) (count_short short) (omega (arith, held, short.n, c.requires.most_sheet_in_bounds, c.put_head.ensures.bounded, c.put_quantities.ensures.bounded)))

pub put_terms-requires-clause-by_index : goal.put_terms-requires-clause-by_index
put_terms-requires-clause-by_index c = terms_short (sheet_short c.args.sheet c.requires.sheet_value) (c.listed.ensures (sheet_short c.args.sheet c.requires.sheet_value).count)

pub put_terms-requires-clause-most_term_in_bounds : goal.put_terms-requires-clause-most_term_in_bounds
unfolding bytes printed
put_terms-requires-clause-most_term_in_bounds c =
    let short = sheet_short c.args.sheet c.requires.sheet_value in
    let held = quantities_held short (search rules) in
    let count = length_added (line_added "terms" (none_added _) (count_short short) c.line.ensures) in
    omega (arith, held, count, count_terms short (c.listed.ensures (sheet_short c.args.sheet c.requires.sheet_value).count), short.n, short.count, c.requires.most_sheet_in_bounds, c.put_head.ensures.bounded, c.put_quantities.ensures.bounded)

pub returns : goal.returns
unfolding bytes printed sheet_text
returns c =
    let short = sheet_short c.args.sheet c.requires.sheet_value in
    let held = quantities_held short (search rules) in
    let count = line_added "terms" (none_added _) (count_short short) c.line.ensures in
    let above = quantities_put short (search rules) _ c.put_head.ensures.put c.put_quantities.ensures.put in
    record {
      put = added_then _ _ _ (added_then _ _ _ above count.added) (c.put_terms.ensures.put ∙ ap (λ (lines : List ℕ). c.line.new.self ++ lines) (term_lines short (c.listed.ensures (sheet_short c.args.sheet c.requires.sheet_value).count)));
      bounded = omega (arith, held, length_added count, count_terms short (c.listed.ensures (sheet_short c.args.sheet c.requires.sheet_value).count), short.n, short.count, c.put_head.ensures.bounded, c.put_quantities.ensures.bounded, c.put_terms.ensures.bounded);
    }
