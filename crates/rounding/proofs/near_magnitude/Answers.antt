-- `rounding::near_magnitude` meets its contract. Half of d, rounded down, is what the nearest multiple may lie above m.
use Prim.Native.Nat.{ℕ, ◌+◌, ◌/◌, ◌<◌}
use mathlib.Core.Path.{◌≡◌}
use native.Mathlib.Nat.{div-add-mod', mod-lt}
use native.Mathlib.Omega.{arith}
use Rattle.rounding.specs.Rounding.{near_ℕ}
use Rattle.rounding.proofs.Roundings.{near_ℕ_alone}
use Rattle.rounding.proofs.near_magnitude.Goals as goal

half_added : (m d : ℕ) → 0 < d → (m + d / 2) / d ≡ near_ℕ m d
half_added m d h =
    near_ℕ_alone m d ((m + d / 2) / d) (omega (arith, div-add-mod' (m + d / 2) d)) (omega (arith, div-add-mod' (m + d / 2) d, mod-lt (m + d / 2) h))

pub returns : goal.returns
returns c = half_added c.args.m c.args.d c.requires.d_nonzero
