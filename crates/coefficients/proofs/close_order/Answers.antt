-- `coefficients::close_order` meets its contract. The loop's invariant: the order is closed for the quantities passed.
use Prim.Native.Nat.{ℕ, suc, ◌+◌, ◌<◌}
use mathlib.Core.Logic.{⊎_elim}
use mathlib.Core.Path.{◌≡◌, refl, ◌∙◌}
use native.Mathlib.Nat.{eq-or-lt_of_le}
use native.Mathlib.Omega.{arith}
use lib.ListN.{length}
use Rattle.model.specs.Step.{most_degree, no_ball}
use Rattle.model.specs.declared.Ball.{Ball}
use Rattle.model.specs.Sheet.{most_quantities}
use Rattle.products.specs.Table.{ball_at, Written}
use Rattle.products.specs.declared.table.Table.{Table}
use Rattle.coefficients.specs.Orders.{closed, Closed}
use Rattle.coefficients.proofs.close_order.Goals as goal

one_more : {sums : ℕ → Ball} {k i : ℕ} {table₀ table table' : Table} → i < most_quantities → k < most_degree → Closed sums k i table₀ table → Written (suc k) i (closed k (sums i)) table table' → Closed sums k (i + 1) table₀ table'
one_more {sums} {k} {i} {table'} quantity last before written =
    record {
      entries = λ j h. ⊎_elim (here j) (λ (l : j < i). written.others (suc k) j (omega arith) (omega arith) (λ p. omega (arith, p.1)) ∙ before.entries j l) (eq-or-lt_of_le {n = j} {m = i} (omega arith));
      others = λ order j h l past. written.others order j h l (λ p. omega (arith, past p.0, p.1)) ∙ before.others order j h l (λ e. omega (arith, past e));
    }
  where
    here : (j : ℕ) → j ≡ i → ball_at table' (suc k) j ≡ closed k (sums j)
    here j e = rw e written.entry

pub loop-i-init : goal.loop-i-init
loop-i-init c = record { entries = λ i h. absurd (omega arith); others = λ order i h l past. refl }

pub close_coefficient-requires-clause-fits : goal.close_coefficient-requires-clause-fits
unfolding no_ball
close_coefficient-requires-clause-fits c = c.requires.by_index c.loop-i.i (omega arith)

pub loop-i-preserved : goal.loop-i-preserved
unfolding no_ball
loop-i-preserved c = one_more (omega (arith, c.requires.few)) c.requires.order c.loop-i.invariant c.close_coefficient.ensures

pub returns : goal.returns
returns c =
    let all : c.loop-i.i ≡ length c.args.sums.now = omega (arith, c.loop-i-test.false) in
    rw all at c.loop-i.invariant
