-- `rounding::up_and_one` meets its contract. 2d - 1 is d - 1, which makes the division `up`, and d, which adds the one.
use Prim.Native.Nat.{ℕ, ◌+◌, ◌*◌, ◌-◌, ◌/◌, ◌<◌, ◌≤◌}
use mathlib.Core.Path.{◌≡◌}
use native.Mathlib.Nat.{div-eq_of_lt-le, div-add-mod', mod-lt}
use native.Mathlib.Omega.{arith}
use Rattle.rounding.specs.Rounding.{up}
use Rattle.rounding.proofs.Roundings.{next_multiple}
use Rattle.rounding.proofs.up_and_one.Goals as goal

one_more : (n d : ℕ) → 0 < d → (n + (2 * d - 1)) / d ≡ up n d + 1
unfolding up
one_more n d h = div-eq_of_lt-le d lower upper
  where
    lower : ((n + (d - 1)) / d + 1) * d ≤ n + (2 * d - 1)
    lower = omega (arith, next_multiple ((n + (d - 1)) / d) d, div-add-mod' (n + (d - 1)) d)

    upper : n + (2 * d - 1) < ((n + (d - 1)) / d + 1 + 1) * d
    upper =
        omega (arith, next_multiple ((n + (d - 1)) / d) d, next_multiple ((n + (d - 1)) / d + 1) d, div-add-mod' (n + (d - 1)) d, mod-lt (n + (d - 1)) h)

pub returns : goal.returns
returns c = one_more c.args.n c.args.d c.requires.d_nonzero
