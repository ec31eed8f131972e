-- `limits::from_to`: what was widened is the number.
use native.Mathlib.Omega.{arith}
use mir.Syntax.{w64}
use mir.Facts.{to_z_pos}
use Rattle.model.specs.Sheet.{from◌to◌}
use Rattle.limits.proofs.from_to.Goals as goal

pub returns : goal.returns
unfolding from◌to◌
returns c = rw (c.from.ensures, c.from-2.ensures, to_z_pos w64 {n = c.args.low} (omega arith), to_z_pos w64 {n = c.args.high} (omega arith))
