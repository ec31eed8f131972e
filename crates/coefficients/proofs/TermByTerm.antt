-- One turn over the terms: the sums of its target and of the others with its share.
use Prim.Native.Nat.{ℕ, suc, ◌+◌, ◌-◌, ◌^◌, ◌<◌}
use mathlib.Core.List.{List}
use mathlib.Core.Logic.{◌≢◌}
use mathlib.Core.Path.{◌≡◌, refl, sym, ap, ap₂, ◌∙◌}
use native.Mathlib.Decide.{ℕ_discrete}
use native.Mathlib.Omega.{arith}
use borrow.Author.Tests.{eq-eqb, ne_eqb}
use lib.IntN.{ℤ, nat_abs, ◌+ℤ◌, +ℤ_idr}
use lib.ListN.{length, get_or, set, length-set}
use lib.Seq.{get_or-set_same, get_or-set_other}
use Rattle.ranges.specs.Range as range
use Rattle.model.specs.Sheet.{most_quantities, no_term}
use Rattle.model.specs.Step.{brings_ℤ, Coefficients, no_ball, reach, brings, share}
use Rattle.model.specs.declared.Ball.{Ball}
use Rattle.model.specs.declared.Term.{Term}
use Rattle.products.specs.Table.{table_in}
use Rattle.products.specs.declared.table.Table.{Table}
use Rattle.coefficients.specs.Orders.{sums_to, CanSum}
use Rattle.laws.proofs.Steps.Tables.{ball_equal}

-- The list holds the sums over the first j terms.
pub record Held (terms : List Term) (H : ℤ) (table : Coefficients) (k j : ℕ) (sums : List Ball) : Type 0 where
  pub all : length sums ≡ most_quantities
  pub held : (i : ℕ) → i < most_quantities → get_or sums i no_ball ≡ sums_to terms H table k j i

-- ---- the sums with one term more

module _ (terms : List Term) (H : ℤ) (table : Coefficients) (k : ℕ) where
  pub no_shares : (i : ℕ) → sums_to terms H table k 0 i ≡ no_ball
  unfolding sums_to no_ball range.sum range.sum_ℤ
  no_shares i = refl

  own_share : (j i : ℕ) → (get_or terms j no_term).to ≡ suc i →
      sums_to terms H table k (suc j) i ≡ record { value = (sums_to terms H table k j i).value +ℤ (share H table k (get_or terms j no_term)).value; radius = (sums_to terms H table k j i).radius + (share H table k (get_or terms j no_term)).radius }
  unfolding sums_to range.sum range.sum_ℤ brings brings_ℤ
  own_share j i e = rw (eq-eqb _ _ e)

  other_share : (j i : ℕ) → (get_or terms j no_term).to ≢ suc i → sums_to terms H table k (suc j) i ≡ sums_to terms H table k j i
  unfolding sums_to range.sum range.sum_ℤ brings brings_ℤ
  other_share j i e = rw (ne_eqb _ _ e) (ball_equal (+ℤ_idr _) (omega arith))

-- a ball with one more added to it
abbrev pub with_share : Ball → Ball → Ball
with_share sum brought = record { value = sum.value +ℤ brought.value; radius = sum.radius + brought.radius }

module _ {terms : List Term} {H : ℤ} {k : ℕ} {table : Table} (asked : CanSum terms H k table) {j : ℕ} (h : j < length terms) where
  abbrev term : Term
  term = get_or terms j no_term

  pub target_bound : term.to - 1 < most_quantities
  target_bound = omega (arith, (asked.targets j h).low, (asked.targets j h).high)

  targeted : term.to ≡ suc (term.to - 1)
  targeted = omega (arith, (asked.targets j h).low)

  module _ {sums : List Ball} (before : Held terms H (table_in k table) k j sums) {brought : Ball} (is : brought ≡ share H (table_in k table) k term) where
    own_sums : with_share (get_or sums (term.to - 1) no_ball) brought ≡ sums_to terms H (table_in k table) k (suc j) (term.to - 1)
    own_sums = ap₂ with_share (before.held (term.to - 1) target_bound) is ∙ sym (own_share terms H (table_in k table) k j (term.to - 1) targeted)

    pub sums_reach : nat_abs ((get_or sums (term.to - 1) no_ball).value +ℤ brought.value) + ((get_or sums (term.to - 1) no_ball).radius + brought.radius) < 2 ^ 62
    unfolding reach
    sums_reach = rw (ap reach own_sums) (asked.sums j h)

    pub one_share_more : {sum : Ball} → sum ≡ with_share (get_or sums (term.to - 1) no_ball) brought → Held terms H (table_in k table) k (suc j) (set sums (term.to - 1) sum)
    one_share_more {sum} e = record { all = length-set sums _ _ ∙ before.all; held = λ i l. go i l (ℕ_discrete i (term.to - 1)) }
      where
        go : (i : ℕ) → i < most_quantities → Dec (i ≡ term.to - 1) → get_or (set sums (term.to - 1) sum) i no_ball ≡ sums_to terms H (table_in k table) k (suc j) i
        go i l (yes p) = rw p (get_or-set_same sums _ _ _ (rw before.all target_bound) ∙ e ∙ own_sums)
        go i l (no f) =
            get_or-set_other sums _ _ _ _ f ∙ before.held i l ∙ sym (other_share terms H (table_in k table) k j i (λ p. f (omega (arith, p, targeted))))
