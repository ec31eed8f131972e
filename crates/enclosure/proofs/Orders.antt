-- The table of the exact orders grows by a row at its end, as the table of coefficients does; and a row that is tolerable is tolerated.
use Prim.Native.Nat.{ℕ, zero, suc, ◌≤◌}
use mathlib.Core.Bool.{true}
use mathlib.Core.List.{List}
use mathlib.Core.Path.{◌≡◌, refl}
use borrow.Author.Tests.{leb-true}
use lib.Dec.{leb}
use lib.IntN.{pos}
use lib.ListN.{length, get_or}
use Rattle.enclosure.specs.Exact.{State, order, factor_ℤ, next_order, orders_to}
use Rattle.model.specs.Step.{no_ball}
use Rattle.model.specs.declared.Ball.{Ball}
use Rattle.model.specs.Passage.{tolerable}
use Rattle.enclosure.specs.Trust.{Tolerated}
use Rattle.model.specs.declared.Term.{Term}
use Rattle.laws.proofs.Steps.Tables.{Grows, grows}
use Rattle.ranges.proofs.EveryLaws.{every_holds}

pub orders_grow : (terms : List Term) (state : State) → Grows (pos 0) state.numerators (λ k. next_order terms state.denominator (orders_to terms state k) k) (λ d. order (orders_to terms state d))
unfolding order orders_to
orders_grow terms state =
    grows (pos 0) state.numerators (λ k. next_order terms state.denominator (orders_to terms state k) k) (orders_to terms state) refl (λ k. refl)

pub factor_ℤ_stays : (terms : List Term) (state : State) (D d k i : ℕ) → k ≤ d → factor_ℤ D (orders_to terms state d) k i ≡ factor_ℤ D (orders_to terms state k) k i
unfolding factor_ℤ
factor_ℤ_stays terms state D d zero zero h = refl
factor_ℤ_stays terms state D d (suc k) zero h = refl
factor_ℤ_stays terms state D d k (suc i) h = (orders_grow terms state).stays d k i h

pub all_tolerated : (tol : ℕ) (balls : List Ball) → tolerable tol balls ≡ true → Tolerated tol balls
unfolding tolerable
all_tolerated tol balls e =
    record { within = λ i lt. leb-true (get_or balls i no_ball).radius tol (every_holds (length balls) (λ i. leb (get_or balls i no_ball).radius tol) e i lt) }
