-- `coefficients::start_orders` meets its contract. The loop's invariant: the quantities passed have their balls at order 0.
use Prim.Native.Nat.{ℕ, ◌+◌, ◌≤◌, ◌<◌}
use mathlib.Core.List.{List}
use mathlib.Core.Logic.{⊎_elim}
use mathlib.Core.Path.{◌≡◌, refl, ◌∙◌}
use native.Mathlib.Nat.{eq-or-lt_of_le}
use native.Mathlib.Omega.{arith}
use lib.ListN.{length, get_or}
use Rattle.ranges.proofs.Ranges.{tabulate_is}
use Rattle.model.specs.Sheet.{most, most_quantities}
use Rattle.model.specs.Step.{no_ball}
use Rattle.model.specs.declared.Ball.{Ball}
use Rattle.products.specs.Table.{ball_at, Written}
use Rattle.products.specs.declared.table.Table.{Table}
use Rattle.coefficients.specs.Orders.{start_in}
use Rattle.coefficients.proofs.start_orders.Invariants.{Started}
use Rattle.coefficients.proofs.start_orders.Goals as goal

one_more : {start : List Ball} {i : ℕ} {table table' : Table} → Started start i table → i < length start → length start ≤ most_quantities → Written 0 i (get_or start i no_ball) table table' → Started start (i + 1) table'
one_more {start} {i} {table'} s own few written =
    record {
      usable = record { past = λ order j h p l. written.others order j h l (λ q. omega (arith, q.1)) ∙ s.usable.past order j h p l };
      passed = λ j h. ⊎_elim (here j) (λ (l : j < i). written.others 0 j (omega arith) (omega arith) (λ p. omega (arith, p.1)) ∙ s.passed j l) (eq-or-lt_of_le {n = j} {m = i} (omega arith));
    }
  where
    here : (j : ℕ) → j ≡ i → ball_at table' 0 j ≡ get_or start j no_ball
    here j p = rw p written.entry

all_started : {start : List Ball} {i : ℕ} {table : Table} → Started start i table → i ≡ length start → start_in (length start) table ≡ start
unfolding start_in
all_started {start} {table} s all = tabulate_is (length start) (ball_at table 0) no_ball start refl (λ j h. s.passed j (omega arith))

pub loop-i-init : goal.loop-i-init
loop-i-init c = record { usable = c.requires.usable_before; passed = λ j h. absurd (omega arith) }

pub set-requires-clause-reach : goal.set-requires-clause-reach
unfolding no_ball most
set-requires-clause-reach c = omega (arith, c.requires.by_index c.loop-i.i (omega arith))

pub loop-i-preserved : goal.loop-i-preserved
unfolding no_ball
loop-i-preserved c = one_more c.loop-i.invariant (omega arith) c.requires.few c.set.ensures

pub returns-clause-usable : goal.returns-clause-usable
returns-clause-usable c = c.loop-i.invariant.usable

pub returns-clause-started : goal.returns-clause-started
returns-clause-started c = all_started c.loop-i.invariant (omega (arith, c.loop-i-test.false))
