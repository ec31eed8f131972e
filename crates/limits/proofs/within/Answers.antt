-- `limits::within` meets its contract.
use mathlib.Core.Path.{◌≡◌}
use mathlib.Core.Bool.{true, false}
use lib.IntN.{ℤ}
use lib.Signed.{le_z}
use borrow.Author.Rules.{rules}
use mir.Syntax.{w64}
use mir.Val.{SFits, to_z, of_z}
use mir.Facts.{to_z-of_z}
use Rattle.model.specs.Sheet.{within}
use Rattle.model.specs.declared.Limits.{Limits}
use Rattle.limits.proofs.within.Goals as goal

-- the two tests on the bits are those of the definition, the second where the first holds
module _ (limits : Limits) {z : ℤ} (low : SFits w64 limits.low) (high : SFits w64 limits.high) (number : SFits w64 z) where
  above : le_z (to_z w64 (of_z w64 limits.low)) (to_z w64 (of_z w64 z)) ≡ true → le_z (to_z w64 (of_z w64 z)) (to_z w64 (of_z w64 limits.high)) ≡ within limits z
  unfolding within
  above h = rw (to_z-of_z number, to_z-of_z high, rw (to_z-of_z low, to_z-of_z number) at h)

  below : le_z (to_z w64 (of_z w64 limits.low)) (to_z w64 (of_z w64 z)) ≡ false → le_z (to_z w64 (of_z w64 limits.low)) (to_z w64 (of_z w64 z)) ≡ within limits z
  unfolding within
  below h = rw (to_z-of_z number, to_z-of_z low, rw (to_z-of_z low, to_z-of_z number) at h)

pub returns-then-limits-z : goal.returns-then-limits-z
returns-then-limits-z c =
    above c.args.limits (search rules) (search rules) c.ranges.z c.if-limits-z.true

pub returns-else-limits-z : goal.returns-else-limits-z
returns-else-limits-z c =
    below c.args.limits (search rules) (search rules) c.ranges.z c.if-limits-z.false
