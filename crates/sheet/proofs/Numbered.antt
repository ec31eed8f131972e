-- A reading gives its refusal's number and no step.
use Rattle.std.proofs.Common.{◌≡◌, ℕ, List, Ok, Err, refl, ap, ◌∙◌}
use Rattle.model.specs.Sheet.{Outcome, result, refused_step, Gives}
use Rattle.model.specs.Reading.{read_sheet_to}
use Rattle.model.specs.declared.ReadSheet.{ReadSheet}
use Rattle.laws.proofs.Text.Readings.{refused_is_zeros}

-- what is read is not refused, or refused with step 0
before_steps : (high : ℕ) (text : List ℕ) (o : Outcome) → (read_sheet_to high text).outcome ≡ o → refused_step o ≡ 0
unfolding refused_step
before_steps high text (Ok done) e = refl
before_steps high text (Err refused) e = (refused_is_zeros high text e).before_steps

-- a reading's number, and no step
pub numbered : (high : ℕ) (text : List ℕ) {r : ReadSheet} → r ≡ read_sheet_to high text → Gives r.outcome (result (read_sheet_to high text).outcome) 0
numbered high text e =
    let same = ap (λ (r : ReadSheet). r.outcome) e in
    record { result_is = ap result same; step_is = ap refused_step same ∙ before_steps high text _ refl }
