-- `verdict::quantity_verdict` meets its contract.
use Rattle.model.specs.Sheet.{quantity_verdict, radius_limits, from◌to◌, most}
use Rattle.verdict.proofs.Outcomes.{refused_first, passed_first}
use Rattle.verdict.proofs.quantity_verdict.Goals as goal

pub returns-in_err-start_verdict : goal.returns-in_err-start_verdict
unfolding quantity_verdict
returns-in_err-start_verdict c = refused_first _ _ c.in_err-start_verdict.ensures c.from_residual.ensures.1

pub returns : goal.returns
unfolding quantity_verdict radius_limits from◌to◌ most
returns c = passed_first _ _ c.in_ok-start_verdict.ensures c.natural_in_range.ensures
