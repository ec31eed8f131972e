-- `limits::step_within` meets its contract: the range of the step's length.
use Prim.Native.Nat.{ℕ}
use mathlib.Core.Path.{◌≡◌, ap, ◌∙◌}
use mathlib.Core.Bool.{Bool}
use lib.IntN.{ℤ, pos, nat_abs}
use Rattle.rounding.proofs.Machine.{magnitude_is}
use Rattle.model.specs.Sheet.{step_limits, step_within, from◌to◌, scale, within}
use Rattle.limits.proofs.step_within.Goals as goal

by_length : (step : ℤ) {length : ℕ} {answer : Bool} → length ≡ nat_abs step → answer ≡ within step_limits (pos length) → answer ≡ step_within step
unfolding step_within
by_length step is asked = asked ∙ ap (λ (m : ℕ). within step_limits (pos m)) is

pub returns : goal.returns
unfolding step_limits from◌to◌ scale
returns c = by_length _ (magnitude_is c.ranges.step c.unsigned_abs.ensures.value) c.natural_within.ensures
