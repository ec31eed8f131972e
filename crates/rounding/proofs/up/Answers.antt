-- `rounding::up` meets its contract: the quotient rounded up is not below n ÷ d, and one less is.
use Prim.Native.Nat.{ℕ, ◌+◌, ◌*◌, ◌/◌, ◌%◌, ◌≤◌, ◌<◌, min}
use mathlib.Core.Path.{◌≡◌, ◌∙◌}
use native.Mathlib.Nat.{lt_of_mul-lt-mul_right}
use native.Mathlib.Omega.{arith}
use Rattle.std.proofs.lemmas.Grind.{div_ceil_times}
use Rattle.rounding.specs.Rounding.{up}
use Rattle.rounding.proofs.Roundings.{up_alone, next_multiple}
use Rattle.rounding.proofs.up.Goals as goal

is_up : (n d : ℕ) → 0 < d → n / d + min 1 (n % d) ≡ up n d
is_up n d h = up_alone h (record { not_below = (div_ceil_times n d h).0; least = least })
  where
    least : (k : ℕ) → n ≤ k * d → n / d + min 1 (n % d) ≤ k
    least k b = omega (arith, lt_of_mul-lt-mul_right d below)
      where
        below : (n / d + min 1 (n % d)) * d < (k + 1) * d
        below = omega (arith, (div_ceil_times n d h).1, next_multiple k d)

pub returns : goal.returns
returns c = c.div_ceil.ensures ∙ is_up c.args.n c.args.d c.requires
