-- `verdict::quantities_verdict` meets its contract. The loop passes the quantities that pass.
use Prim.Native.Nat.{ℕ, ◌<◌}
use mathlib.Core.List.{List}
use mathlib.Core.Path.{◌≡◌, refl}
use native.Mathlib.Omega.{arith}
use lib.ListN.{length, get_or}
use Rattle.std.proofs.lemmas.List.{get_or_default}
use Rattle.model.specs.Sheet.{Outcome, Verdict, verdict_outcome, in_order, quantity_verdict, quantities_verdict, no_quantity}
use Rattle.model.specs.declared.Quantity.{Quantity}
use Rattle.verdict.proofs.Outcomes.{one_more, refused_at}
use Rattle.verdict.proofs.quantities_verdict.Goals as goal

module _ (quantities : List Quantity) where
  abbrev each : ℕ → Verdict
  each i = quantity_verdict (get_or quantities i no_quantity)

  -- what the array has past its end makes no difference
  read : (i : ℕ) (none : Quantity) {o : Outcome} → i < length quantities → o ≡ verdict_outcome (quantity_verdict (get_or quantities i none)) → o ≡ verdict_outcome (each i)
  read i none h e = rw (get_or_default quantities i none no_quantity h) at e

pub loop-quantity-init : goal.loop-quantity-init
unfolding in_order
loop-quantity-init c = refl

pub returns-in_err-quantity_verdict : goal.returns-in_err-quantity_verdict
unfolding quantities_verdict
returns-in_err-quantity_verdict c =
    let i = c.loop-quantity.quantity-index in
    let refused = read c.args.quantities.now i _ c.loop-quantity-test.true c.in_err-quantity_verdict.ensures in
    refused_at (each c.args.quantities.now) (length c.args.quantities.now) c.loop-quantity-test.true c.loop-quantity.invariant refused c.from_residual.ensures.1

pub loop-quantity-preserved : goal.loop-quantity-preserved
loop-quantity-preserved c =
    let i = c.loop-quantity.quantity-index in
    let passed = read c.args.quantities.now i _ c.loop-quantity-test.true c.in_ok-quantity_verdict.ensures in
    one_more (each c.args.quantities.now) i c.loop-quantity.invariant passed

pub returns : goal.returns
unfolding verdict_outcome quantities_verdict
returns c =
    let all : length c.args.quantities.now ≡ c.loop-quantity.quantity-index = omega (arith, c.loop-quantity-test.false) in
    rw (all, c.loop-quantity.invariant)
