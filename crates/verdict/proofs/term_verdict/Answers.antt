-- `verdict::term_verdict` meets its contract: the first question that is answered no decides.
use borrow.Author.Rules.{rules}
use lib.IntN.{ℤ}
use mir.Syntax.{w64}
use Rattle.rounding.proofs.Machine.{of_number}
use Rattle.model.specs.Sheet.{verdict_outcome, in_range, term_verdict, coef_limits, ±◌}
use Rattle.verdict.proofs.Outcomes.{refused_first, passed_first}
use Rattle.verdict.proofs.term_verdict.Goals as goal

pub returns-in_err-natural_in_range : goal.returns-in_err-natural_in_range
unfolding term_verdict
returns-in_err-natural_in_range c = refused_first _ _ (rw c.to_limits.ensures at c.in_err-natural_in_range.ensures) c.from_residual.ensures.1

pub returns-in_err-in_range : goal.returns-in_err-in_range
unfolding term_verdict coef_limits ±◌
returns-in_err-in_range c =
    let coef = of_number {w = w64} (λ (z : ℤ). verdict_outcome (in_range coef_limits z)) {n = c.args.term.now.coef} (search rules) c.in_err-in_range.ensures in
    passed_first _ _ (rw c.to_limits.ensures at c.in_ok-natural_in_range.ensures) (refused_first _ _ coef c.from_residual-in_err-in_range.ensures.1)

pub returns-in_err-natural_in_range-2 : goal.returns-in_err-natural_in_range-2
unfolding term_verdict coef_limits ±◌
returns-in_err-natural_in_range-2 c =
    let coef = of_number {w = w64} (λ (z : ℤ). verdict_outcome (in_range coef_limits z)) {n = c.args.term.now.coef} (search rules) c.in_ok-in_range.ensures in
    passed_first _ _ (rw c.to_limits.ensures at c.in_ok-natural_in_range.ensures) (passed_first _ _ coef (refused_first _ _ (rw c.first_limits.ensures at c.in_err-natural_in_range-2.ensures) c.from_residual-in_err-natural_in_range-2.ensures.1))

pub returns : goal.returns
unfolding term_verdict coef_limits ±◌
returns c =
    let coef = of_number {w = w64} (λ (z : ℤ). verdict_outcome (in_range coef_limits z)) {n = c.args.term.now.coef} (search rules) c.in_ok-in_range.ensures in
    passed_first _ _ (rw c.to_limits.ensures at c.in_ok-natural_in_range.ensures) (passed_first _ _ coef (passed_first _ _ (rw c.first_limits.ensures at c.in_ok-natural_in_range-2.ensures) (rw c.second_limits-second_limits.ensures at c.natural_in_range-3.ensures)))
