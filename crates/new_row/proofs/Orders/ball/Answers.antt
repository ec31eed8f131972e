-- `new_row::Orders::ball` meets its contract. The loop forms the sums over the orders passed, the radius starting from the tail.
use Prim.Native.Nat.{ℕ, suc, ◌+◌, ◌*◌, ◌≤◌, ◌<◌}
use mathlib.Core.Path.{◌≡◌, refl, sym, ap, ◌∙◌}
use native.Mathlib.Nat.{mul-le-mul_right}
use native.Mathlib.Numerals.{add-one}
use native.Mathlib.Omega.{arith}
use lib.IntN.{ℤ, nat_abs, ◌+ℤ◌}
use mir.Syntax.{w64}
use mir.Val.{SFits, to_z, of_z}
use mir.Facts.{to_z-of_z}
use Rattle.rounding.proofs.Machine.{sfits_abs}
use Rattle.ranges.specs.Range.{sum, sum_ℤ}
use Rattle.model.specs.Sheet.{most, most_quantities}
use Rattle.model.specs.Step.{most_degree, reach, coefficient, new_ball}
use Rattle.model.specs.declared.Ball.{Ball}
use Rattle.ranges.proofs.Ranges.{sum_suc, sum_ℤ_suc, sum_equal, sum_ℤ_equal}
use Rattle.laws.proofs.Bounds.Reach.{reach_sums_bounded}
use Rattle.products.specs.Orders.{orders}
use Rattle.products.specs.Table.{ball_at, table_in, Small}
use Rattle.products.specs.declared.table.Table.{Table}
use Rattle.products.proofs.Factors.{coefficient_in}
use Rattle.laws.proofs.Steps.Tables.{ball_equal}
use Rattle.new_row.proofs.Orders.ball.Invariants.{radii_sum, values_sum}
use Rattle.new_row.proofs.Orders.ball.Goals as goal

module _ (i : ℕ) (table : Table) where
  module _ {degree : ℕ} (small : Small degree table) (last : degree ≤ most_degree) (quantity : i < most_quantities) where
    sums_fit : (k : ℕ) → k ≤ suc degree → nat_abs (values_sum i table k) + radii_sum i table k ≤ orders * most
    unfolding reach
    sums_fit k h =
        let top : k ≤ orders = omega arith in
        omega (arith, reach_sums_bounded k (λ order. (ball_at table order i).value) (λ order. (ball_at table order i).radius) 1 most (λ order l. omega (arith, small.small order i (omega arith) quantity)), mul-le-mul_right most top)

    -- ---- the sums with one order more

    module _ (k : ℕ) (passed : k ≤ degree) (ball : Ball) (read : ball ≡ ball_at table k i) where
      radius_added : (tail : ℕ) {r : ℕ} → r ≡ radii_sum i table k + tail → r + ball.radius ≡ radii_sum i table (suc k) + tail
      radius_added tail e = omega (arith, sum_suc k (λ order. (ball_at table order i).radius), ap (λ (b : Ball). b.radius) read)

      kept : to_z w64 (of_z w64 ball.value) ≡ (ball_at table k i).value
      unfolding reach most
      kept = rw read (to_z-of_z (sfits_abs {w = w64} {z = (ball_at table k i).value} (omega (arith, small.small k i passed quantity))))

      module _ {z : ℤ} (e : z ≡ values_sum i table k) where
        value_added : z +ℤ to_z w64 (of_z w64 ball.value) ≡ values_sum i table (suc k)
        value_added = rw (kept, e) (sym (sum_ℤ_suc k (λ order. (ball_at table order i).value)))

        value_fits : SFits w64 (z +ℤ to_z w64 (of_z w64 ball.value))
        unfolding most
        value_fits = rw value_added (sfits_abs (omega (arith, sums_fit (suc k) (omega arith))))

        value_summed : to_z w64 (of_z w64 (z +ℤ to_z w64 (of_z w64 ball.value))) ≡ values_sum i table (suc k)
        value_summed = to_z-of_z value_fits ∙ value_added

  -- ---- the sums of all orders

  all_summed : (degree tail : ℕ) → i < most_quantities → {k r : ℕ} {z : ℤ} → k ≡ suc degree → z ≡ values_sum i table k → r ≡ radii_sum i table k + tail → record { value = z; radius = r } ≡ new_ball (table_in degree table) degree tail i
  unfolding new_ball
  all_summed degree tail quantity last e f =
      ball_equal (rw last at e ∙ sum_ℤ_equal (suc degree) _ _ (λ order h. ap (λ (b : Ball). b.value) (entry order h))) (rw last at f ∙ ap (λ (m : ℕ). m + tail) (sum_equal (suc degree) _ _ (λ order h. ap (λ (b : Ball). b.radius) (entry order h))))
    where
      entry : (order : ℕ) → order < suc degree → ball_at table order i ≡ coefficient (table_in degree table) order i
      entry order h = sym (coefficient_in degree table order (omega arith) i quantity)

pub loop-k-init : goal.loop-k-init
unfolding sum sum_ℤ
loop-k-init c = record { value_is = refl; radius_is = omega arith }

pub overflow_add-value : goal.overflow_add-value
overflow_add-value c =
    value_fits c.args.i c.args.self.table.now c.args.self.small c.args.self.degree_le_most_degree c.requires c.loop-k.k (omega (arith, c.loop-k-test.true)) c.ball-ball.result c.ball-ball.ensures c.loop-k.invariant.value_is

pub overflow_add-radius : goal.overflow_add-radius
unfolding most
overflow_add-radius c =
    let passed : c.loop-k.k ≤ c.args.self.degree = omega (arith, c.loop-k-test.true) in
    omega (arith, radius_added c.args.i c.args.self.table.now c.args.self.small c.args.self.degree_le_most_degree c.requires c.loop-k.k passed c.ball-ball.result c.ball-ball.ensures c.args.self.tail c.loop-k.invariant.radius_is, sums_fit c.args.i c.args.self.table.now c.args.self.small c.args.self.degree_le_most_degree c.requires (suc c.loop-k.k) (omega arith), c.args.self.tail_bound)

pub loop-k-preserved : goal.loop-k-preserved
loop-k-preserved c =
    let passed : c.loop-k.k ≤ c.args.self.degree = omega (arith, c.loop-k-test.true) in
    record {
      value_is = rw add-one (value_summed c.args.i c.args.self.table.now c.args.self.small c.args.self.degree_le_most_degree c.requires c.loop-k.k passed c.ball-ball.result c.ball-ball.ensures c.loop-k.invariant.value_is);
      radius_is = rw add-one (radius_added c.args.i c.args.self.table.now c.args.self.small c.args.self.degree_le_most_degree c.requires c.loop-k.k passed c.ball-ball.result c.ball-ball.ensures c.args.self.tail c.loop-k.invariant.radius_is);
    }

pub returns : goal.returns
returns c =
    all_summed c.args.i c.args.self.table.now c.args.self.degree c.args.self.tail c.requires (omega (arith, c.loop-k-test.false)) c.loop-k.invariant.value_is c.loop-k.invariant.radius_is
