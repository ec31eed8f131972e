-- `products::convolution` meets its contract. The sum is that of the products passed.
use Prim.Native.Nat.{ℕ, suc, ◌≤◌}
use mathlib.Core.Path.{◌≡◌, ap, ◌∙◌}
use native.Mathlib.Numerals.{add-one}
use native.Mathlib.Omega.{arith}
use Rattle.model.specs.Sheet.{scale}
use Rattle.model.specs.Step.{Coefficients, products}
use Rattle.model.specs.declared.Ball.{Ball}
use Rattle.laws.proofs.Bounds.ShareBounds.{partial_products}
use Rattle.products.specs.Table.{table_in}
use Rattle.products.proofs.OneProduct.{no_products, all_products, sum_fits, first_reached, second_reached, one_product_more}
use Rattle.products.proofs.convolution.Goals as goal

whole : (table : Coefficients) (k first second l : ℕ) {sum : Ball} → l ≡ suc k → 1 ≤ second → sum ≡ partial_products table k first second l → sum ≡ products table k first second
whole table k first second l past there e = e ∙ ap (partial_products table k first second) past ∙ all_products table k first second there

pub loop-l-init : goal.loop-l-init
loop-l-init c = no_products _ _ _ _

pub with_product-sum-requires : goal.with_product-sum-requires
with_product-sum-requires c =
    record {
      coefficient_reached = first_reached c.requires.at_order.small c.args.first c.args.second c.requires.first_quantity c.requires.second_quantity c.loop-l.l (omega (arith, c.loop-l-test.true));
      other_reached = second_reached c.requires.at_order.small c.args.first c.args.second c.requires.first_quantity c.requires.second_quantity c.loop-l.l (omega (arith, c.loop-l-test.true));
      sum_bound = sum_fits c.requires.at_order.small c.args.first c.args.second c.loop-l.l (omega (arith, c.loop-l-test.true)) c.requires.at_order.order c.loop-l.invariant;
    }

pub loop-l-preserved : goal.loop-l-preserved
unfolding scale
loop-l-preserved c =
    rw (add-one c.loop-l.l) (one_product_more c.requires.at_order.small c.args.first c.args.second c.requires.first_quantity c.requires.second_quantity c.loop-l.l (omega (arith, c.loop-l-test.true)) c.loop-l.invariant c.with_product-sum.ensures.value c.with_product-sum.ensures.radius)

pub returns : goal.returns
returns c =
    whole (table_in c.args.k c.args.table.now) c.args.k c.args.first c.args.second c.loop-l.l (omega (arith, c.loop-l-test.false)) c.requires.second_quantity.low c.loop-l.invariant
