-- `verdict::head_verdict` meets its contract: the first question that is answered no decides.
use borrow.Author.Rules.{rules}
use lib.IntN.{ℤ}
use mir.Syntax.{w64}
use Rattle.rounding.proofs.Machine.{of_number}
use Rattle.model.specs.Sheet.{verdict_outcome, head_verdict, step_verdict, n_limits, tail_limits, tol_limits, from◌to◌, scale, most}
use Rattle.verdict.proofs.Outcomes.{refused_first, passed_first}
use Rattle.verdict.proofs.head_verdict.Goals as goal

pub returns-in_err-natural_in_range : goal.returns-in_err-natural_in_range
unfolding head_verdict n_limits from◌to◌
returns-in_err-natural_in_range c = refused_first _ _ c.in_err-natural_in_range.ensures c.from_residual.ensures.1

pub returns-in_err-natural_in_range-2 : goal.returns-in_err-natural_in_range-2
unfolding head_verdict n_limits from◌to◌
returns-in_err-natural_in_range-2 c =
    passed_first _ _ c.in_ok-natural_in_range.ensures (refused_first _ _ (rw c.steps_limits.ensures at c.in_err-natural_in_range-2.ensures) c.from_residual-in_err-natural_in_range-2.ensures.1)

pub returns-in_err-step_verdict : goal.returns-in_err-step_verdict
unfolding head_verdict n_limits from◌to◌
returns-in_err-step_verdict c =
    let step = of_number {w = w64} (λ (z : ℤ). verdict_outcome (step_verdict z)) {n = c.args.head.now.step} (search rules) c.in_err-step_verdict.ensures in
    passed_first _ _ c.in_ok-natural_in_range.ensures (passed_first _ _ (rw c.steps_limits.ensures at c.in_ok-natural_in_range-2.ensures) (refused_first _ _ step c.from_residual-in_err-step_verdict.ensures.1))

pub returns-in_err-natural_in_range-3 : goal.returns-in_err-natural_in_range-3
unfolding head_verdict n_limits from◌to◌ tail_limits scale
returns-in_err-natural_in_range-3 c =
    let step = of_number {w = w64} (λ (z : ℤ). verdict_outcome (step_verdict z)) {n = c.args.head.now.step} (search rules) c.in_ok-step_verdict.ensures in
    passed_first _ _ c.in_ok-natural_in_range.ensures (passed_first _ _ (rw c.steps_limits.ensures at c.in_ok-natural_in_range-2.ensures) (passed_first _ _ step (refused_first _ _ c.in_err-natural_in_range-3.ensures c.from_residual-in_err-natural_in_range-3.ensures.1)))

pub returns : goal.returns
unfolding head_verdict n_limits from◌to◌ tail_limits scale tol_limits most
returns c =
    let step = of_number {w = w64} (λ (z : ℤ). verdict_outcome (step_verdict z)) {n = c.args.head.now.step} (search rules) c.in_ok-step_verdict.ensures in
    passed_first _ _ c.in_ok-natural_in_range.ensures (passed_first _ _ (rw c.steps_limits.ensures at c.in_ok-natural_in_range-2.ensures) (passed_first _ _ step (passed_first _ _ c.in_ok-natural_in_range-3.ensures c.natural_in_range-4.ensures)))
