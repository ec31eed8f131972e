-- `products::factor` meets its contract. Each return is a case of the definition.
use Prim.Native.Nat.{ℕ, zero, suc, ◌-◌, ◌≤◌, ◌<◌}
use mathlib.Core.Logic.{◌≢◌}
use mathlib.Core.Path.{◌≡◌, refl, sym, ◌∙◌}
use native.Mathlib.Nat.{le_refl}
use native.Mathlib.Omega.{arith}
use lib.IntN.{pos}
use Rattle.model.specs.Sheet.{scale, most_quantities}
use Rattle.model.specs.Step.{Coefficients, no_ball, factor}
use Rattle.model.specs.declared.Ball.{Ball}
use Rattle.products.specs.Table.{ball_at, table_in}
use Rattle.products.specs.declared.table.Table.{Table}
use Rattle.products.proofs.Factors.{factor_in}
use Rattle.products.proofs.factor.Goals as goal

absent_at_start : (table : Coefficients) {k number : ℕ} → number ≡ 0 → k ≡ 0 → ◌≡◌ {A = Ball} (record { value = pos scale; radius = 0 }) (factor table k number)
unfolding factor scale
absent_at_start table p q = rw (p, q)

absent_after : (table : Coefficients) {k number : ℕ} → number ≡ 0 → k ≢ 0 → ◌≡◌ {A = Ball} (record { value = pos 0; radius = 0 }) (factor table k number)
unfolding factor no_ball
absent_after table {k} p q = rw p (go k q)
  where
    go : (k : ℕ) → k ≢ 0 → ◌≡◌ {A = Ball} (record { value = pos 0; radius = 0 }) (factor table k 0)
    go zero q = absurd (q refl)
    go (suc k) q = refl

-- the same by the ball that the table gives
present : (table : Table) (k number : ℕ) {ball : Ball} → 0 < number → number ≤ most_quantities → ball ≡ ball_at table k (number - 1) → ball ≡ factor (table_in k table) k number
present table k number low high e = e ∙ sym (factor_in k table k (le_refl k) number (record { low = low; high = high }))

pub returns-then-number-gt0 : goal.returns-then-number-gt0
returns-then-number-gt0 c =
    present c.args.table.now c.args.k c.args.number (omega arith) c.requires.number_le_most_quantities c.ball.ensures

pub returns-then-k-eq0 : goal.returns-then-k-eq0
unfolding scale
returns-then-k-eq0 c = absent_at_start _ (omega arith) c.if-k-eq0.true

pub returns-else-k-eq0 : goal.returns-else-k-eq0
returns-else-k-eq0 c = absent_after _ (omega arith) c.if-k-eq0.false
