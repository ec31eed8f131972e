-- `ratio::sizes::ratio` meets its contract. The largest size and |H| multiply within 64 bits.
use Prim.Native.Nat.{◌*◌}
use mathlib.Core.Path.{ap₂}
use native.Mathlib.Omega.{arith}
use mir.Facts.{to_z-of_z}
use Rattle.ratio.proofs.Ratios.{product_fits}
use Rattle.ratio.proofs.sizes.ratio.Goals as goal

pub overflow_mul-largest : goal.overflow_mul-largest
overflow_mul-largest c =
    omega (arith, ap₂ ◌*◌ c.largest_size-largest.ensures (rw (to_z-of_z c.ranges.step) at c.unsigned_abs.ensures.value), product_fits c.requires.sized c.requires.step_bound)
