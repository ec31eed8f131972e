-- `products::products` meets its contract. Without a second factor it is the first, and otherwise their convolution.
use Prim.Native.Nat.{ℕ}
use mathlib.Core.Path.{◌≡◌}
use Rattle.model.specs.Step.{Coefficients, factor, products}
use Rattle.model.specs.declared.Ball.{Ball}
use Rattle.products.proofs.products.Goals as goal

one_factor : (table : Coefficients) (k first : ℕ) {second : ℕ} {ball : Ball} → second ≡ 0 → ball ≡ factor table k first → ball ≡ products table k first second
unfolding products
one_factor table k first none e = rw (none, e)

pub returns-then-second-eq0 : goal.returns-then-second-eq0
returns-then-second-eq0 c =
    one_factor _ c.args.k c.args.first c.if-second-eq0.true c.factor.ensures
