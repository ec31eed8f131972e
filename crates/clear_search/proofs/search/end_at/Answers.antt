-- `clear_search::search::end_at` meets its contract: the test of the weight's bits is that of its sign.
use mathlib.Core.Path.{sym, ap, ◌∙◌}
use borrow.Author.Rules.{rules}
use mir.Syntax.{w64}
use mir.Val.{SFits}
use mir.Facts.{to_z-of_z}
use Rattle.model.specs.declared.Span.{Span}
use Rattle.rounding.proofs.Machine.{sign_test}
use Rattle.clear_rule.proofs.SumsFit.{high_taken, low_taken}
use Rattle.clear_search.proofs.search.end_at.Goals as goal

pub returns-then-weight-lt0 : goal.returns-then-weight-lt0
returns-then-weight-lt0 c =
    let fits : SFits w64 c.span.result.high = search rules in
    to_z-of_z fits ∙ ap (λ (span : Span). span.high) c.span.ensures ∙ sym (high_taken c.args.weight _ (sign_test c.ranges.weight c.if-weight-lt0.true))

pub returns-else-weight-lt0 : goal.returns-else-weight-lt0
returns-else-weight-lt0 c =
    let fits : SFits w64 c.span-else-weight-lt0.result.low = search rules in
    to_z-of_z fits ∙ ap (λ (span : Span). span.low) c.span-else-weight-lt0.ensures ∙ sym (low_taken c.args.weight _ (sign_test c.ranges.weight c.if-weight-lt0.false))
