-- `sheet::read_body` meets its contract: bytes after the last line.
use Rattle.std.proofs.Common.{sym, ◌∙◌}
use Rattle.std.proofs.lemmas.Result.{err_from_is_err_and}
use Rattle.model.specs.Reading.{body, quantities, terms}
use Rattle.lines.proofs.Ends.{goes_on}
use Rattle.sheet_body.proofs.Arrays.{bind_parsed}
use Rattle.sheet.proofs.read_body.Goals as goal

pub returns-in_err-end_of_text : goal.returns-in_err-end_of_text
unfolding body
returns-in_err-end_of_text c =
    let p = err_from_is_err_and c.from_residual-in_err-end_of_text.result c.from_residual-in_err-end_of_text.ensures.1 in
    rw (p.1, p.2) (sym (
    bind_parsed (quantities c.args.head.n) _ (sym c.in_ok-quantities.ensures) ∙
    bind_parsed (terms c.args.head.n) _ (sym c.in_ok-terms.ensures) ∙
    goes_on _ _ c.in_err-end_of_text.ensures))
