-- What an outcome's numbers say, in words: each clause is used here, so that none can be left out.
use Prim.Native.Nat.{ℕ}
use mathlib.Core.Path.{◌≡◌}
use Rattle.model.specs.Sheet.{Outcome, result, refused_step, Gives}

pub gives_says : {outcome : Outcome} {number step : ℕ} → Gives outcome number step → (result outcome ≡ number) × (refused_step outcome ≡ step)
gives_says gives = (gives.result_is, gives.step_is)
