-- `sheet_body::read_terms` meets its contract: the lines so far gave the front of the list.
use Rattle.std.proofs.Common.{◌≡◌, ℕ, ◌≤◌, List, refl, sym, ◌∙◌, arith}
use Rattle.std.proofs.lemmas.Result.{err_from_is_err_and}
use Rattle.model.specs.Sheet.{most_terms, terms_limits, no_term, terms_held}
use Rattle.model.specs.Reading.{parsed, return, times, term, terms, field}
use Rattle.model.specs.declared.Term.{Term}
use Rattle.model.specs.declared.Terms.{Terms}
use Rattle.lines.proofs.Readers.{FieldReaders}
use Rattle.lines.proofs.Yielded.{field_at_most}
use Rattle.sheet_body.proofs.Arrays.{bind_parsed, bind_fault, filled_more, filled_fault, filled_all}
use Rattle.sheet_body.proofs.read_terms.Goals as goal

-- so many terms, as they are held
abbrev held : ℕ → List Term → Terms
held count list = record { count = count; list = list }

-- the terms that are counted are at most most_terms
count_fits : (l : List ℕ) {count : ℕ} {m : List ℕ} → parsed count m ≡ field "terms" terms_limits l → count ≤ most_terms
unfolding terms_limits
count_fits l e = field_at_most "terms" 0 most_terms l e

pub returns-in_err-count : goal.returns-in_err-count
unfolding terms FieldReaders
returns-in_err-count c =
    let p = err_from_is_err_and c.from_residual.result c.from_residual.ensures.1 in
    rw (p.1, p.2) (sym (bind_fault (field "terms" terms_limits) _ (sym c.in_err-count.ensures.read)))

pub loop-j-init : goal.loop-j-init
unfolding times return no_term
loop-j-init c = record { so_far = refl; past = refl; long = refl }

pub returns-in_err-term : goal.returns-in_err-term
unfolding terms terms_held FieldReaders
returns-in_err-term c =
    let p = err_from_is_err_and c.from_residual-in_err-term.result c.from_residual-in_err-term.ensures.1 in
    rw (p.1, p.2) (sym (
    bind_parsed (field "terms" terms_limits) _ (sym c.in_ok-count.ensures.read) ∙
    filled_fault (term c.args.n) most_terms no_term _ (held c.in_ok-count.count) _ c.loop-j-test.true c.loop-j.invariant (sym c.in_err-term.ensures)))

pub offset_bounds-list-j : goal.offset_bounds-list-j
unfolding FieldReaders
offset_bounds-list-j c = omega (arith, count_fits c.args.text.now c.in_ok-count.ensures.read)

pub bounds-list-j : goal.bounds-list-j
unfolding FieldReaders
bounds-list-j c = omega (arith, count_fits c.args.text.now c.in_ok-count.ensures.read)

pub loop-j-preserved : goal.loop-j-preserved
unfolding FieldReaders
loop-j-preserved c = filled_more (term c.args.n) most_terms no_term _ (omega (arith, count_fits c.args.text.now c.in_ok-count.ensures.read)) c.loop-j.invariant (sym c.in_ok-term.ensures)

pub returns : goal.returns
unfolding terms terms_held FieldReaders
returns c =
    sym (
    bind_parsed (field "terms" terms_limits) _ (sym c.in_ok-count.ensures.read) ∙
    filled_all (term c.args.n) most_terms no_term _ (held c.in_ok-count.count) _ (omega arith) (omega (arith, count_fits c.args.text.now c.in_ok-count.ensures.read)) c.loop-j.invariant)
