-- `coefficients::fill_orders` meets its contract. The loop's invariant: the orders passed are filled, and order 0 stays.
use Prim.Native.Nat.{ℕ, suc, ◌+◌, ◌-◌, ◌^◌, ◌≤◌, ◌<◌}
use mathlib.Core.List.{List}
use mathlib.Core.Path.{◌≡◌, refl, ◌∙◌}
use native.Mathlib.Nat.{le_trans}
use native.Mathlib.Numerals.{add-one}
use native.Mathlib.Omega.{arith}
use borrow.Author.Rules.{rules}
use lib.IntN.{ℤ}
use lib.ListN.{length, get_or, take}
use lib.Seq.{length-take-le, get_or-take}
use mir.Syntax.{w64}
use mir.Val.{SFits, to_z, of_z}
use mir.Facts.{to_z-of_z}
use Rattle.model.specs.Sheet.{most_quantities, no_term}
use Rattle.model.specs.Step.{most_degree, no_ball, reach, Coefficients, products, coefficients_to}
use Rattle.model.specs.declared.Ball.{Ball}
use Rattle.model.specs.declared.Term.{Term}
use Rattle.laws.specs.Bounds.{InBounds}
use Rattle.laws.proofs.Bounds.Invariant.{factor_bounded}
use Rattle.laws.proofs.Bounds.WorkingNumbers.{step_product_fits, term_product_fits, brought_fits}
use Rattle.products.specs.Table.{table_in, IsQuantity, ShareFits}
use Rattle.products.specs.declared.table.Table.{Table}
use Rattle.coefficients.specs.Orders.{start_in, sums_to, Closed, Fillable, Filled, CanSum}
use Rattle.coefficients.proofs.Filled.{length_start, filled_small, products_filled, sums_filled}
use Rattle.coefficients.proofs.Filling.{sums_fit, start_filled, start_stays, order_filled}
use Rattle.coefficients.proofs.fill_orders.Invariants.{To}
use Rattle.coefficients.proofs.fill_orders.Goals as goal

-- ---- what is known at a turn

record Turn (terms : List Term) (H : ℤ) (n k : ℕ) (table : Table) : Type 0 where
  bounds : InBounds terms H (start_in n table)
  filled : Filled terms H n k table
  room : n ≤ most_quantities
  order : k < most_degree

-- of the step by its bits
turn : {terms : List Term} {H : ℤ} {n k : ℕ} {table₀ table : Table} → SFits w64 H → Fillable terms H n table₀ → To terms (to_z w64 (of_z w64 H)) n k table₀ table → k < most_degree → Turn terms (to_z w64 (of_z w64 H)) n k table
turn fits asked to order = record { bounds = rw (to_z-of_z fits, to.start) asked.bounds; filled = to.filled; room = asked.room; order = order }

module _ {terms : List Term} {H : ℤ} {n k : ℕ} {table : Table} (known : Turn terms H n k table) where
  abbrev steps : Coefficients
  steps = coefficients_to terms H (start_in n table) k

  module _ {j : ℕ} (h : j < length terms) where
    abbrev term : Term
    term = get_or terms j no_term

    share_fits : ShareFits H k term table
    share_fits =
        record {
          at = record { small = filled_small known.filled known.bounds; order = known.order };
          factors = record {
            first_high = le_trans (rw length_start at (known.bounds.sheet.first_high j h)) known.room;
            second_high = le_trans (rw length_start at (known.bounds.sheet.second_high j h)) known.room;
            formed = known.bounds.sheet.formed j;
          };
          step_fits = rw same (step_product_fits known.bounds steps k (factor_bounded known.bounds k) known.order term.first term.second);
          coef_fits = rw same (omega (arith, term_product_fits known.bounds steps k (factor_bounded known.bounds k) known.order j h));
        }
      where
        same : products (table_in k table) k term.first term.second ≡ products steps k term.first term.second
        same = products_filled known.filled known.room term.first term.second

    target : IsQuantity term.to
    target = record { low = known.bounds.sheet.to_low j h; high = le_trans (rw length_start at (known.bounds.sheet.to_high j h)) known.room }

    target_below : term.to - 1 < length (start_in n table)
    target_below = omega (arith, known.bounds.sheet.to_low j h, known.bounds.sheet.to_high j h)

    own_fits : reach (sums_to terms H steps k (suc j) (term.to - 1)) < 2 ^ 62
    unfolding reach sums_to
    own_fits = omega (arith, brought_fits known.bounds steps k (factor_bounded known.bounds k) known.order (term.to - 1) (suc j) target_below h)

    target_fits : reach (sums_to terms H (table_in k table) k (suc j) (term.to - 1)) < 2 ^ 62
    target_fits = rw (sums_filled known.filled known.room (suc j) (term.to - 1)) own_fits

  can_sum : CanSum terms H k table
  can_sum = record { shares = λ j h. share_fits h; targets = λ j h. target h; sums = λ j h. target_fits h }

  -- ---- the sums of all terms

  module _ (sums : List Ball) (all : length sums ≡ most_quantities) (formed : (i : ℕ) → i < most_quantities → get_or sums i no_ball ≡ sums_to terms H (table_in k table) k (length terms) i) where
    length_front : length (take n sums) ≡ n
    length_front = length-take-le n sums (rw all known.room)

    front : (i : ℕ) → i < n → get_or (take n sums) i no_ball ≡ sums_to terms H steps k (length terms) i
    front i h = get_or-take n sums i no_ball h ∙ formed i (omega (arith, known.room)) ∙ sums_filled known.filled known.room (length terms) i

    front_fits : (i : ℕ) → i < length (take n sums) → reach (get_or (take n sums) i no_ball) < 2 ^ 62
    front_fits i h =
        let l : i < n = rw length_front at h in
        rw (front i l) (sums_fit known.bounds k known.order i (rw length_start l))

    next : {table₀ table' : Table} → start_in n table ≡ start_in n table₀ → Closed (λ i. get_or (take n sums) i no_ball) k (length (take n sums)) table table' → To terms H n (k + 1) table₀ table'
    next start closes =
        let closed : Closed (λ i. get_or (take n sums) i no_ball) k n table _ = rw length_front at closes in
        record {
          start = start_stays known.filled (λ i. get_or (take n sums) i no_ball) closed known.room ∙ start;
          filled = rw (add-one k) (order_filled known.filled (λ i. get_or (take n sums) i no_ball) closed known.room known.order front);
        }

pub loop-k-init : goal.loop-k-init
loop-k-init c = record { start = refl; filled = start_filled _ _ c.requires.fillable.usable }

pub sums_over-sums-requires : goal.sums_over-sums-requires
sums_over-sums-requires c =
    can_sum (turn c.ranges.step c.requires.fillable c.loop-k.invariant (omega (arith, c.loop-k-test.true, c.requires.degree_le_most_degree)))

pub close_order-requires-clause-by_index : goal.close_order-requires-clause-by_index
close_order-requires-clause-by_index c =
    let known = turn c.ranges.step c.requires.fillable c.loop-k.invariant (omega (arith, c.loop-k-test.true, c.requires.degree_le_most_degree)) in
    front_fits known c.sums_over-sums.result (search rules) c.sums_over-sums.ensures

pub loop-k-preserved : goal.loop-k-preserved
loop-k-preserved c =
    let known = turn c.ranges.step c.requires.fillable c.loop-k.invariant (omega (arith, c.loop-k-test.true, c.requires.degree_le_most_degree)) in
    next known c.sums_over-sums.result (search rules) c.sums_over-sums.ensures c.loop-k.invariant.start c.close_order.ensures

pub returns-clause-start : goal.returns-clause-start
returns-clause-start c = c.loop-k.invariant.start

pub returns-clause-filled : goal.returns-clause-filled
returns-clause-filled c =
    let all : c.loop-k.k ≡ c.args.degree = omega (arith, c.loop-k-test.false) in
    rw (all, to_z-of_z c.ranges.step) at c.loop-k.invariant.filled
