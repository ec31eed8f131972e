-- `limits::natural_within` meets its contract: a number that is no i64 is above every limit.
use Prim.Native.Nat.{ℕ, ◌-◌, ◌<◌, ◌^◌}
use mathlib.Core.Path.{◌≡◌, refl, sym}
use mathlib.Core.Bool.{Bool, false, and-false}
use native.Mathlib.Decide.{dec_lt}
use native.Mathlib.Omega.{arith}
use borrow.Author.Tests.{lt-leb}
use lib.IntN.{ℤ, pos, negsuc}
use lib.Signed.{le_z, mag}
use borrow.Author.Rules.{rules}
use mir.Syntax.{w64}
use mir.Val.{SFits, to_z, of_z}
use mir.Facts.{to_z-of_z}
use Rattle.model.specs.Sheet.{within}
use Rattle.model.specs.declared.Limits.{Limits}
use Rattle.limits.proofs.natural_within.Goals as goal

module _ (limits : Limits) {m : ℕ} where
  kept : {z : ℤ} {answer : Bool} → SFits w64 (pos m) × (z ≡ pos m) → answer ≡ within limits (to_z w64 (of_z w64 z)) → answer ≡ within limits (pos m)
  kept is e = rw (is.1, to_z-of_z is.0) at e

  above_high : (high : ℤ) → mag high < 2 ^ 63 → 2 ^ 63 - 1 < m → le_z (pos m) high ≡ false
  above_high (pos h) fits above = lt-leb _ h (omega arith)
  above_high (negsuc h) fits above = refl

  beyond : SFits w64 limits.high → (SFits w64 (pos m) → ⊥) → false ≡ within limits (pos m)
  unfolding within
  beyond fits past = rw (above_high limits.high fits.sfits (above (dec_lt (2 ^ 63 - 1) m))) (sym (and-false (le_z limits.low (pos m))))
    where
      above : Dec (2 ^ 63 - 1 < m) → 2 ^ 63 - 1 < m
      above (yes l) = l
      above (no f) = absurd (past (record { sfits = omega (arith, f) }))

pub returns-in-Ok : goal.returns-in-Ok
returns-in-Ok c = kept c.args.limits c.in-Ok.ensures c.within.ensures

pub returns-in-Err : goal.returns-in-Err
returns-in-Err c = beyond c.args.limits (search rules) c.in-Err.ensures
