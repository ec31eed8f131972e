-- `new_row::Orders::span` meets its contract. The table keeps |c| + e as it is: the sum over orders 1 .. degree is that of the reaches.
use Prim.Native.Nat.{ℕ, zero, suc, ◌+◌, ◌-◌, ◌*◌, ◌^◌, ◌≤◌, ◌<◌}
use mathlib.Core.List.{List, []}
use mathlib.Core.Path.{◌≡◌, refl, sym, ap, ap₂, ◌∙◌}
use native.Mathlib.Nat.{mul-le-mul_right, suc-mul}
use native.Mathlib.Numerals.{add-one}
use native.Mathlib.Omega.{arith}
use lib.IntN.{ℤ, pos, nat_abs, ◌+ℤ◌, ◌-ℤ◌}
use lib.ListN.{length, get_or, take, drop, length-drop}
use mir.Syntax.{w64}
use mir.Val.{SFits, to_z, of_z}
use mir.Facts.{to_z-of_z}
use Rattle.std.specs.List.{sum_by}
use Rattle.std.proofs.lemmas.List.{get_or-drop}
use Rattle.std.proofs.lemmas.List.Sums.{sum_by_more}
use Rattle.rounding.proofs.Integers.{abs_add, abs_sub_le}
use Rattle.rounding.proofs.Machine.{sfits_abs}
use Rattle.ranges.specs.Range.{sum}
use Rattle.model.specs.Sheet.{most, most_quantities}
use Rattle.model.specs.Step.{most_degree, reach, coefficient, step_reach, new_span}
use Rattle.model.specs.declared.Ball.{Ball}
use Rattle.ranges.proofs.Ranges.{sum_le, sum_constant, sum_equal}
use Rattle.products.specs.Orders.{orders, no_coefficient}
use Rattle.products.specs.Table.{ball_at, table_in, Small}
use Rattle.products.specs.declared.table.Coefficient.{Coefficient}
use Rattle.products.specs.declared.table.Table.{Table}
use Rattle.products.proofs.Factors.{reach_at, coefficient_in}
use Rattle.new_row.proofs.Orders.span.Goals as goal

-- ---- the reach

-- the sum over the first n of a list
sum_of_front : (xs : List Coefficient) (n : ℕ) → n ≤ length xs → sum_by (λ (c : Coefficient). c.reach) (take n xs) ≡ sum n (λ k. (get_or xs k no_coefficient).reach)
unfolding sum
sum_of_front xs zero h = refl
sum_of_front xs (suc n) h =
    ap (λ (m : ℕ). sum_by (λ (c : Coefficient). c.reach) (take m xs)) (sym (add-one n)) ∙ sum_by_more (λ (c : Coefficient). c.reach) xs n no_coefficient (omega arith) ∙ ap (λ (m : ℕ). m + (get_or xs n no_coefficient).reach) (sum_of_front xs n (omega arith))

module _ (tail i : ℕ) (table : Table) {degree : ℕ} (small : Small degree table) (last : degree ≤ most_degree) (quantity : i < most_quantities) where
  -- the reaches of the orders 1 .. degree
  reaches : sum_by (λ (c : Coefficient). c.reach) (take (degree + 1 - 1) (drop 1 (get_or table.orders i []))) ≡ sum degree (λ k. reach (ball_at table (suc k) i))
  reaches =
      let few : degree + 1 - 1 ≡ degree = omega arith in
      ap (λ (m : ℕ). sum_by (λ (c : Coefficient). c.reach) (take m (drop 1 (get_or table.orders i [])))) few ∙ sum_of_front (drop 1 (get_or table.orders i [])) degree (omega (arith, length-drop 1 (get_or table.orders i []), table.whole i quantity)) ∙ sum_equal degree _ _ (λ k h. ap (λ (c : Coefficient). c.reach) (get_or-drop 1 (get_or table.orders i []) k no_coefficient ∙ ap (λ (m : ℕ). get_or (get_or table.orders i []) m no_coefficient) (omega arith)) ∙ sym (reach_at table (suc k) i))

  extent_fits : (ball_at table 0 i).radius + sum degree (λ k. reach (ball_at table (suc k) i)) ≤ orders * most
  unfolding reach
  extent_fits =
      let few : suc degree ≤ orders = omega arith in
      omega (arith, small.small 0 i (omega arith) quantity, sum_le degree (λ k. reach (ball_at table (suc k) i)) (λ k. most) (λ k l. small.small (suc k) i (omega arith) quantity), sum_constant degree most, mul-le-mul_right most few, suc-mul degree most)

  module _ (start : Ball) (read : start ≡ ball_at table 0 i) {m : ℕ} (summed : m ≡ sum_by (λ (c : Coefficient). c.reach) (take (degree + 1 - 1) (drop 1 (get_or table.orders i [])))) (short : tail ≤ 2 ^ 32) where
    whole_fits : start.radius + m + tail ≤ orders * most + tail
    whole_fits = omega (arith, summed ∙ reaches, ap (λ (b : Ball). b.radius) read, extent_fits)

    extent_cast : SFits w64 (pos (start.radius + m + tail))
    unfolding most
    extent_cast = sfits_abs (omega (arith, whole_fits))

    start_small : nat_abs start.value ≤ most
    unfolding reach
    start_small = rw read (omega (arith, small.small 0 i (omega arith) quantity))

    kept : to_z w64 (of_z w64 start.value) ≡ start.value
    unfolding most
    kept = to_z-of_z (sfits_abs {w = w64} {z = start.value} (omega (arith, start_small)))

    low_fits : SFits w64 (to_z w64 (of_z w64 start.value) -ℤ to_z w64 (start.radius + m + tail))
    unfolding most
    low_fits = rw (to_z-of_z extent_cast, kept) (sfits_abs (omega (arith, abs_sub_le start.value (pos (start.radius + m + tail)), start_small, whole_fits)))

    high_fits : SFits w64 (to_z w64 (of_z w64 start.value) +ℤ to_z w64 (start.radius + m + tail))
    unfolding most
    high_fits = rw (to_z-of_z extent_cast, kept) (sfits_abs (omega (arith, abs_add start.value (pos (start.radius + m + tail)), start_small, whole_fits)))

    -- ---- the low and the high

    entry : (order : ℕ) → order ≤ degree → ball_at table order i ≡ coefficient (table_in degree table) order i
    entry order h = sym (coefficient_in degree table order h i quantity)

    extent_is : to_z w64 (start.radius + m + tail) ≡ pos (step_reach (table_in degree table) degree tail i)
    unfolding step_reach
    extent_is =
        to_z-of_z extent_cast ∙ ap pos (ap₂ (λ (a b : ℕ). a + b + tail) (ap (λ (ball : Ball). ball.radius) (read ∙ entry 0 (omega arith))) (summed ∙ reaches ∙ sum_equal degree _ _ (λ k h. ap reach (entry (suc k) h))))

    from_start : to_z w64 (of_z w64 start.value) ≡ (coefficient (table_in degree table) 0 i).value
    from_start = kept ∙ ap (λ (ball : Ball). ball.value) (read ∙ entry 0 (omega arith))

    span_is : record { low = to_z w64 (of_z w64 (to_z w64 (of_z w64 start.value) -ℤ to_z w64 (start.radius + m + tail))); high = to_z w64 (of_z w64 (to_z w64 (of_z w64 start.value) +ℤ to_z w64 (start.radius + m + tail))) } ≡ new_span (table_in degree table) degree tail i
    unfolding new_span
    span_is =
        λ t. record {
          low = (to_z-of_z low_fits ∙ ap₂ (λ (a b : ℤ). a -ℤ b) from_start extent_is) t;
          high = (to_z-of_z high_fits ∙ ap₂ (λ (a b : ℤ). a +ℤ b) from_start extent_is) t;
        }

pub reach_of-requires : goal.reach_of-requires
unfolding most
reach_of-requires c =
    omega (arith, reaches c.args.self.tail c.args.i c.args.self.table.now c.args.self.small c.args.self.degree_le_most_degree c.requires, extent_fits c.args.self.tail c.args.i c.args.self.table.now c.args.self.small c.args.self.degree_le_most_degree c.requires)

pub overflow_add-reach : goal.overflow_add-reach
unfolding most
overflow_add-reach c =
    omega (arith, whole_fits c.args.self.tail c.args.i c.args.self.table.now c.args.self.small c.args.self.degree_le_most_degree c.requires c.ball-start.result c.ball-start.ensures c.reach_of.ensures c.args.self.tail_bound)

pub overflow_add-reach-2 : goal.overflow_add-reach-2
unfolding most
overflow_add-reach-2 c =
    omega (arith, whole_fits c.args.self.tail c.args.i c.args.self.table.now c.args.self.small c.args.self.degree_le_most_degree c.requires c.ball-start.result c.ball-start.ensures c.reach_of.ensures c.args.self.tail_bound)

pub overflow_cast-extent : goal.overflow_cast-extent
overflow_cast-extent c =
    extent_cast c.args.self.tail c.args.i c.args.self.table.now c.args.self.small c.args.self.degree_le_most_degree c.requires c.ball-start.result c.ball-start.ensures c.reach_of.ensures c.args.self.tail_bound

pub overflow_sub-result : goal.overflow_sub-result
overflow_sub-result c =
    low_fits c.args.self.tail c.args.i c.args.self.table.now c.args.self.small c.args.self.degree_le_most_degree c.requires c.ball-start.result c.ball-start.ensures c.reach_of.ensures c.args.self.tail_bound

pub overflow_add-result : goal.overflow_add-result
overflow_add-result c =
    high_fits c.args.self.tail c.args.i c.args.self.table.now c.args.self.small c.args.self.degree_le_most_degree c.requires c.ball-start.result c.ball-start.ensures c.reach_of.ensures c.args.self.tail_bound

pub returns : goal.returns
returns c =
    span_is c.args.self.tail c.args.i c.args.self.table.now c.args.self.small c.args.self.degree_le_most_degree c.requires c.ball-start.result c.ball-start.ensures c.reach_of.ensures c.args.self.tail_bound
