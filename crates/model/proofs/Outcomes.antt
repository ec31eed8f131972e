-- Two outcomes that are equal refusals have the same refusal and the same step.
use Prim.Native.Nat.{ℕ}
use mathlib.Core.Path.{◌≡◌, ap}
use Rattle.std.specs.Prelude.{Ok, Err}
use Rattle.model.specs.Sheet.{Outcome, refused_at, refused_step}
use Rattle.model.specs.declared.Refusal.{Refusal}

-- the refusal, or this where there is none
refusal_or : Refusal → Outcome → Refusal
refusal_or r (Ok done) = r
refusal_or r (Err refused) = refused.refusal

pub same_refusal : {r s : Refusal} {step at : ℕ} → refused_at r step ≡ refused_at s at → r ≡ s
unfolding refusal_or
same_refusal {r} e = ap (refusal_or r) e

pub same_step : {r s : Refusal} {step at : ℕ} → refused_at r step ≡ refused_at s at → step ≡ at
unfolding refused_step
same_step e = ap refused_step e
