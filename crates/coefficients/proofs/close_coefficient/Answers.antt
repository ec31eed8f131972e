-- `coefficients::close_coefficient` meets its contract. What it stores is the ball of order k + 1.
use Prim.Native.Nat.{ℕ, suc, ◌+◌, ◌^◌, ◌<◌}
use mathlib.Core.Path.{◌≡◌, ap, ◌∙◌}
use native.Mathlib.Nat.{le-mul_of_pos_right}
use native.Mathlib.Numerals.{add-one}
use native.Mathlib.Omega.{arith}
use borrow.Author.Rules.{rules}
use lib.IntN.{ℤ, nat_abs}
use mir.Syntax.{w64}
use mir.Val.{SFits, to_z, of_z}
use mir.Facts.{to_z-of_z}
use Rattle.rounding.specs.Rounding.{near, up}
use Rattle.rounding.proofs.Machine.{abs_of_fits}
use Rattle.rounding.proofs.Roundings.{up_is_least}
use Rattle.model.specs.Step.{reach}
use Rattle.model.specs.declared.Ball.{Ball}
use Rattle.laws.proofs.Steps.Tables.{ball_equal}
use Rattle.products.specs.Table.{Written}
use Rattle.products.specs.declared.table.Table.{Table}
use Rattle.coefficients.specs.Orders.{closed}
use Rattle.coefficients.proofs.close_coefficient.Goals as goal

next_fits : (sums : Ball) (k : ℕ) (c : ℤ) {u : ℕ} → SFits w64 c → u ≡ up sums.radius (k + 1) + 1 → reach sums < 2 ^ 62 → reach (record { value = to_z w64 (of_z w64 c); radius = u }) < 2 ^ 64
unfolding reach
next_fits sums k c g upper small =
    let positive : 0 < k + 1 = omega arith in
    omega (arith, upper, ap nat_abs (to_z-of_z g), abs_of_fits g, up_is_least sums.radius positive sums.radius (le-mul_of_pos_right sums.radius positive))

next_is : (sums : Ball) (k : ℕ) {c : ℤ} {u : ℕ} → SFits w64 sums.value → SFits w64 c → c ≡ near (to_z w64 (of_z w64 sums.value)) (k + 1) → u ≡ up sums.radius (k + 1) + 1 →
    record { value = to_z w64 (of_z w64 c); radius = u } ≡ closed k sums
unfolding closed
next_is sums k f g value upper = ball_equal (to_z-of_z g ∙ rw (to_z-of_z f, add-one) at value) (upper ∙ ap (λ (d : ℕ). up sums.radius d + 1) (add-one k))

written : {k i : ℕ} {ball next : Ball} {table table' : Table} → ball ≡ next → Written (k + 1) i ball table table' → Written (suc k) i next table table'
written {k} e w = rw (add-one k, e) at w

pub up_and_one-requires-clause-d_bound : goal.up_and_one-requires-clause-d_bound
unfolding reach
up_and_one-requires-clause-d_bound c = omega (arith, c.requires.fits)

pub set-requires-clause-reach : goal.set-requires-clause-reach
set-requires-clause-reach c = next_fits c.args.sums c.args.k c.near.result (search rules) c.up_and_one.ensures c.requires.fits

pub returns : goal.returns
returns c = written (next_is c.args.sums c.args.k (search rules) (search rules) c.near.ensures c.up_and_one.ensures) c.set.ensures
