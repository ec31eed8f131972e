-- `verdict::start_verdict` meets its contract.
use mathlib.Core.Path.{◌≡◌, ap, ◌∙◌}
use borrow.Author.Rules.{rules}
use lib.IntN.{ℤ}
use mir.Syntax.{w64}
use Rattle.std.proofs.Common.{Option, None, Err}
use Rattle.std.specs.Option.{ok_or}
use Rattle.std.specs.Result.{IsErrAnd}
use Rattle.std.proofs.lemmas.Result.{err_from_is_err_and}
use Rattle.rounding.proofs.Machine.{of_number}
use Rattle.model.specs.Sheet.{Outcome, verdict_outcome, in_range, start_verdict, start_limits, ±◌, most}
use Rattle.model.specs.declared.Refusal.{Refusal}
use Rattle.model.specs.declared.Refusal.TheVariants.{NoReading}
use Rattle.model.specs.declared.Refused.{Refused}
use Rattle.verdict.proofs.start_verdict.Goals as goal

-- where there is no reading, this is what a `?` gives back
no_reading : (start : Option ℤ) {refusal : Refusal} {o : Outcome} → start ≡ None → Err refusal ≡ ok_or start NoReading → IsErrAnd o (λ (given : Refused). given ≡ record { refusal = refusal; step = 0 }) → o ≡ verdict_outcome (start_verdict start)
unfolding start_verdict verdict_outcome
no_reading start {refusal} {o} none e given = rw none (back.1 ∙ ap Err (back.2 ∙ ap (λ (r : Refusal). record { refusal = r; step = 0 }) is))
  where
    back : (y : Refused) × (o ≡ Err y) × (y ≡ record { refusal = refusal; step = 0 })
    back = err_from_is_err_and o given

    is : refusal ≡ NoReading
    is = let same = rw none at e in cc

pub returns-in_err-z : goal.returns-in_err-z
returns-in_err-z c = no_reading c.args.start c.in_err-z.ensures.ok_part c.in_err-z.ensures.value c.from_residual.ensures.1

pub returns : goal.returns
unfolding start_verdict start_limits ±◌ most
returns c =
    rw c.in_ok-z.ensures.ok_part (of_number {w = w64} (λ (z : ℤ). verdict_outcome (in_range start_limits z)) {n = c.in_ok-z.z} (search rules) c.in_range.ensures)
