-- `products::with_product` meets its contract. The products and their roundings fit, since the reaches do.
use Prim.Native.Nat.{ℕ, ◌+◌, ◌-◌, ◌*◌, ◌^◌, ◌≤◌}
use mathlib.Core.Path.{◌≡◌, ap, ap₂, ◌∙◌}
use native.Mathlib.Nat.{mul-le-mul}
use native.Mathlib.Omega.{arith}
use lib.IntN.{ℤ, nat_abs, ◌+ℤ◌, ◌*ℤ◌}
use mir.Syntax.{w64}
use mir.Val.{SFits, to_z, of_z}
use mir.Facts.{to_z-of_z}
use Rattle.rounding.specs.Rounding.{near, up}
use Rattle.rounding.proofs.Integers.{abs_add, abs_mul}
use Rattle.rounding.proofs.Machine.{sfits_abs}
use Rattle.model.specs.Sheet.{scale, most}
use Rattle.model.specs.Step.{reach}
use Rattle.model.specs.declared.Ball.{Ball}
use Rattle.laws.proofs.Bounds.WorkingNumbers.{reaches_fit}
use Rattle.laws.proofs.Bounds.Reach.{near_close, up_close, scale_positive}
use Rattle.products.specs.declared.table.Coefficient.{Coefficient}
use Rattle.products.specs.Table.{Reached}
use borrow.Author.Rules.{rules}
use Rattle.products.proofs.with_product.Goals as goal

module _ (c d : Coefficient) (reached : Reached c) (other-reached : Reached d) where
  product_covered : nat_abs (c.value *ℤ d.value) ≤ c.reach * d.reach
  product_covered = rw (abs_mul c.value d.value) (mul-le-mul reached.covered other-reached.covered)

  rounded_small : nat_abs (near (c.value *ℤ d.value) scale) ≤ 2 ^ 35
  unfolding scale
  rounded_small = omega (arith, near_close (c.value *ℤ d.value) scale_positive, product_covered, reaches_fit reached.small other-reached.small)

  error_small : (m : ℕ) {u : ℕ} → u ≡ up (c.reach * d.reach - m) scale + 1 → u ≤ 2 ^ 35
  unfolding scale
  error_small m e = omega (arith, e, up_close (c.reach * d.reach - m) scale_positive, reaches_fit reached.small other-reached.small)

  module _ (a-fits : SFits w64 c.value) (b-fits : SFits w64 d.value) {p : ℤ} (formed : p ≡ to_z w64 (of_z w64 c.value) *ℤ to_z w64 (of_z w64 d.value)) where
    signed_is : p ≡ c.value *ℤ d.value
    signed_is = formed ∙ rw (to_z-of_z a-fits, to_z-of_z b-fits)

    signed_kept : to_z w64 (of_z w64 p) ≡ c.value *ℤ d.value
    signed_kept = rw signed_is (to_z-of_z (sfits_abs {w = w64} {z = c.value *ℤ d.value} (omega (arith, product_covered, reaches_fit reached.small other-reached.small))))

    -- what the calls give, of the numbers themselves and not of their bits
    error_is : {r m : ℕ} → r ≡ c.reach * d.reach → m ≡ nat_abs (to_z w64 (of_z w64 p)) → r - m ≡ c.reach * d.reach - nat_abs (c.value *ℤ d.value)
    error_is e f = ap₂ ◌-◌ e (f ∙ ap nat_abs signed_kept)

    module _ (sum : Ball) (sum-small : reach sum ≤ 2 ^ 40) {n : ℤ} (rounded : n ≡ near (to_z w64 (of_z w64 p)) scale) where
      value_is : to_z w64 (of_z w64 sum.value) +ℤ to_z w64 (of_z w64 n) ≡ sum.value +ℤ near (c.value *ℤ d.value) scale
      unfolding reach
      value_is =
          rw (rounded, signed_kept, to_z-of_z (sfits_abs {w = w64} {z = sum.value} (omega (arith, sum-small))), to_z-of_z (sfits_abs {w = w64} {z = near (c.value *ℤ d.value) scale} (omega (arith, rounded_small))))

      value_fits : SFits w64 (to_z w64 (of_z w64 sum.value) +ℤ to_z w64 (of_z w64 n))
      unfolding reach
      value_fits =
          rw value_is (sfits_abs (omega (arith, abs_add sum.value (near (c.value *ℤ d.value) scale), rounded_small, sum-small)))

pub signed_product-signed-requires : goal.signed_product-signed-requires
unfolding most
signed_product-signed-requires c =
    let f : SFits w64 c.args.c.value = search rules in
    let g : SFits w64 c.args.other.value = search rules in
    record {
      c_bound = rw (to_z-of_z f) (omega (arith, c.requires.coefficient_reached.covered, c.requires.coefficient_reached.small));
      other_bound = rw (to_z-of_z g) (omega (arith, c.requires.other_reached.covered, c.requires.other_reached.small));
    }

pub product-requires : goal.product-requires
unfolding most
product-requires c = search rules

pub overflow_sub-error : goal.overflow_sub-error
overflow_sub-error c =
    omega (arith, c.product.ensures, c.unsigned_abs.ensures.value ∙ ap nat_abs (signed_kept c.args.c c.args.other c.requires.coefficient_reached c.requires.other_reached (search rules) (search rules) c.signed_product-signed.ensures), product_covered c.args.c c.args.other c.requires.coefficient_reached c.requires.other_reached)

pub overflow_add-result : goal.overflow_add-result
unfolding scale
overflow_add-result c =
    value_fits c.args.c c.args.other c.requires.coefficient_reached c.requires.other_reached (search rules) (search rules) c.signed_product-signed.ensures c.args.sum c.requires.sum_bound c.near.ensures

pub up_and_one-requires : goal.up_and_one-requires
up_and_one-requires c =
    record {
      d_nonzero = omega arith;
      d_bound = omega (arith, error_is c.args.c c.args.other c.requires.coefficient_reached c.requires.other_reached (search rules) (search rules) c.signed_product-signed.ensures c.product.ensures c.unsigned_abs.ensures.value, reaches_fit c.requires.coefficient_reached.small c.requires.other_reached.small);
    }

pub overflow_add-result-2 : goal.overflow_add-result-2
unfolding reach scale
overflow_add-result-2 c =
    let error = error_is c.args.c c.args.other c.requires.coefficient_reached c.requires.other_reached (search rules) (search rules) c.signed_product-signed.ensures c.product.ensures c.unsigned_abs.ensures.value in
    omega (arith, error_small c.args.c c.args.other c.requires.coefficient_reached c.requires.other_reached (nat_abs (c.args.c.value *ℤ c.args.other.value)) (c.up_and_one.ensures ∙ ap (λ (n : ℕ). up n scale + 1) error), c.requires.sum_bound)

pub returns : goal.returns
unfolding scale
returns c =
    let error = error_is c.args.c c.args.other c.requires.coefficient_reached c.requires.other_reached (search rules) (search rules) c.signed_product-signed.ensures c.product.ensures c.unsigned_abs.ensures.value in
    record {
      value = to_z-of_z {w = w64} (value_fits c.args.c c.args.other c.requires.coefficient_reached c.requires.other_reached (search rules) (search rules) c.signed_product-signed.ensures c.args.sum c.requires.sum_bound c.near.ensures) ∙ value_is c.args.c c.args.other c.requires.coefficient_reached c.requires.other_reached (search rules) (search rules) c.signed_product-signed.ensures c.args.sum c.requires.sum_bound c.near.ensures;
      radius = ap (λ (u : ℕ). c.args.sum.radius + u) (c.up_and_one.ensures ∙ ap (λ (n : ℕ). up n scale + 1) error);
    }
