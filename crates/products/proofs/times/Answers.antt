-- `products::times` meets its contract. |a| times the reach bounds both products.
use Prim.Native.Nat.{ℕ, ◌+◌, ◌*◌, ◌^◌, ◌<◌}
use mathlib.Core.Path.{◌≡◌, ap, ◌∙◌}
use native.Mathlib.Omega.{arith}
use lib.IntN.{ℤ, nat_abs, ◌*ℤ◌}
use borrow.Author.Rules.{rules}
use mir.Syntax.{w64}
use mir.Val.{SFits, to_z, of_z}
use mir.Facts.{to_z-of_z}
use Rattle.rounding.specs.Rounding.{near, up}
use Rattle.rounding.proofs.Integers.{abs_mul}
use Rattle.rounding.proofs.Machine.{sfits_abs, magnitude_is}
use Rattle.model.specs.Sheet.{scale}
use Rattle.model.specs.Step.{reach, times}
use Rattle.model.specs.declared.Ball.{Ball}
use Rattle.laws.proofs.Steps.Tables.{ball_equal}
use Rattle.products.proofs.times.Goals as goal

module _ (a : ℤ) (ball : Ball) (fits : nat_abs a * reach ball < 2 ^ 63) (a-fits : SFits w64 a) (ball-fits : SFits w64 ball.value) where
  product : to_z w64 (of_z w64 a) *ℤ to_z w64 (of_z w64 ball.value) ≡ a *ℤ ball.value
  product = rw (to_z-of_z a-fits, to_z-of_z ball-fits)

  product_fits : SFits w64 (to_z w64 (of_z w64 a) *ℤ to_z w64 (of_z w64 ball.value))
  unfolding reach
  product_fits = rw product (sfits_abs (omega (arith, fits, abs_mul a ball.value)))

  radius_fits : {m : ℕ} → m ≡ nat_abs (to_z w64 (of_z w64 a)) → m * ball.radius < 2 ^ 63
  unfolding reach
  radius_fits e = rw (e, to_z-of_z a-fits) (omega (arith, fits))

  value_is : {n : ℤ} → n ≡ near (to_z w64 (of_z w64 (to_z w64 (of_z w64 a) *ℤ to_z w64 (of_z w64 ball.value)))) scale → n ≡ near (a *ℤ ball.value) scale
  value_is e = rw (to_z-of_z product_fits, product) at e

pub overflow_mul-a : goal.overflow_mul-a
overflow_mul-a c =
    product_fits c.args.a c.args.ball c.requires c.ranges.a (search rules)

pub overflow_mul-unsigned_abs : goal.overflow_mul-unsigned_abs
overflow_mul-unsigned_abs c =
    omega (arith, radius_fits c.args.a c.args.ball c.requires c.ranges.a (search rules) c.unsigned_abs.ensures.value)

pub up_and_one-requires : goal.up_and_one-requires
up_and_one-requires c =
    record {
      d_nonzero = omega arith;
      d_bound = omega (arith, radius_fits c.args.a c.args.ball c.requires c.ranges.a (search rules) c.unsigned_abs.ensures.value);
    }

pub returns : goal.returns
unfolding times scale
returns c =
    ball_equal
    (to_z-of_z {w = w64} (search rules) ∙ value_is c.args.a c.args.ball c.requires c.ranges.a (search rules) c.near.ensures)
    (c.up_and_one.ensures ∙ ap (λ (m : ℕ). up (m * c.args.ball.radius) scale + 1) (magnitude_is c.ranges.a c.unsigned_abs.ensures.value))
