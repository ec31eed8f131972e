-- `sheet_body::read_quantities` meets its contract: the lines so far gave the front of the list.
use Rattle.std.proofs.Common.{refl, sym, arith}
use Rattle.std.proofs.lemmas.Result.{err_from_is_err_and}
use Rattle.model.specs.Sheet.{most_quantities, no_quantity, quantities_held}
use Rattle.model.specs.Reading.{return, times, quantity, quantities}
use Rattle.sheet_body.proofs.Arrays.{filled_more, filled_fault, filled_all}
use Rattle.sheet_body.proofs.read_quantities.Goals as goal

pub loop-i-init : goal.loop-i-init
unfolding times return no_quantity
loop-i-init c = record { so_far = refl; past = refl; long = refl }

pub returns-in_err-quantity : goal.returns-in_err-quantity
unfolding quantities quantities_held
returns-in_err-quantity c =
    let p = err_from_is_err_and c.from_residual.result c.from_residual.ensures.1 in
    rw (p.1, p.2) (sym (filled_fault quantity most_quantities no_quantity c.args.text.now (λ xs. xs) c.args.n c.loop-i-test.true c.loop-i.invariant (sym c.in_err-quantity.ensures)))

pub loop-i-preserved : goal.loop-i-preserved
loop-i-preserved c = filled_more quantity most_quantities no_quantity c.args.text.now (omega (arith, c.requires)) c.loop-i.invariant (sym c.in_ok-quantity.ensures)

pub returns : goal.returns
unfolding quantities quantities_held
returns c = sym (filled_all quantity most_quantities no_quantity c.args.text.now (λ xs. xs) c.args.n (omega arith) (omega (arith, c.requires)) c.loop-i.invariant)
