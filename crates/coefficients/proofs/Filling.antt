-- The orders of a table filled one after another: what the sums of v and g close is the next order of the step.
use Prim.Native.Nat.{ℕ, zero, suc, ◌^◌, ◌≤◌, ◌<◌}
use mathlib.Core.List.{List}
use mathlib.Core.Logic.{⊎_elim}
use mathlib.Core.Path.{◌≡◌, refl, sym, ap, ◌∙◌}
use native.Mathlib.Nat.{le_refl, eq-or-lt_of_le}
use native.Mathlib.Omega.{arith}
use lib.IntN.{ℤ}
use lib.ListN.{length}
use Rattle.model.specs.Sheet.{most_quantities}
use Rattle.model.specs.Step.{Coefficients, most_degree, no_ball, reach, coefficient, next_coefficient, coefficients_to}
use Rattle.laws.specs.Bounds.{InBounds}
use Rattle.model.specs.declared.Ball.{Ball}
use Rattle.model.specs.declared.Term.{Term}
use Rattle.ranges.proofs.Ranges.{before_or_past, get_or_tabulate, tabulate_equal}
use Rattle.laws.proofs.Steps.Tables.{Grows, coefficients_grow}
use Rattle.laws.proofs.Bounds.Invariant.{factor_bounded}
use Rattle.laws.proofs.Bounds.WorkingNumbers.{brought_fits}
use Rattle.products.specs.Table.{ball_at}
use Rattle.products.specs.declared.table.Table.{Table}
use Rattle.coefficients.specs.Orders.{start_in, sums_to, closed, Closed, Usable, Filled}
use Rattle.coefficients.proofs.Filled.{length_start}

-- over all terms they fit
pub sums_fit : {terms : List Term} {H : ℤ} {balls : List Ball} → InBounds terms H balls → (k : ℕ) → k < most_degree → (i : ℕ) → i < length balls → reach (sums_to terms H (coefficients_to terms H balls k) k (length terms) i) < 2 ^ 62
unfolding reach sums_to
sums_fit {terms} {H} {balls} bounds k h i l =
    omega (arith, brought_fits bounds (coefficients_to terms H balls k) k (factor_bounded bounds k) h i (length terms) l (le_refl (length terms)))

closed_is_next : (terms : List Term) (H : ℤ) (table : Coefficients) (k i : ℕ) → closed k (sums_to terms H table k (length terms) i) ≡ next_coefficient terms H table k i
unfolding closed sums_to next_coefficient
closed_is_next terms H table k i = refl

-- the entry of order k of quantity i, as the orders 0 .. d of the step have it
abbrev entry : List Term → ℤ → List Ball → ℕ → ℕ → ℕ → Ball
entry terms H balls d = coefficient (coefficients_to terms H balls d)

-- ---- a table of nothing

pub blank_usable : (n : ℕ) (table : Table) → ((order i : ℕ) → ball_at table order i ≡ no_ball) → Usable n table
blank_usable n table blank = record { past = λ order i h p l. blank order i }

-- ---- order 0

pub start_filled : (terms : List Term) (H : ℤ) {n : ℕ} {table : Table} → Usable n table → Filled terms H n 0 table
unfolding start_in
start_filled terms H {n} {table} usable = record { usable = usable; entries = entries }
  where
    entries : (order i : ℕ) → order ≤ 0 → i < most_quantities → ball_at table order i ≡ entry terms H (start_in n table) 0 order i
    entries zero i h l =
        let grows = coefficients_grow terms H (start_in n table) in
        ⊎_elim
        (λ (m : i < n). sym (grows.starts i ∙ get_or_tabulate n (ball_at table 0) no_ball i m))
        (λ (p : n ≤ i). usable.past 0 i (omega arith) p l ∙ sym (grows.past 0 0 i h (rw (length_start n table) p)))
        (before_or_past i n)
    entries (suc order) i h l = absurd (omega arith)

-- ---- one order more

module _ {terms : List Term} {H : ℤ} {n k : ℕ} {table table' : Table} (filled : Filled terms H n k table) (sums : ℕ → Ball) (all : Closed sums k n table table') (few : n ≤ most_quantities) where
  pub start_stays : start_in n table' ≡ start_in n table
  unfolding start_in
  start_stays = tabulate_equal n _ _ (λ i l. all.others 0 i (omega arith) (omega arith) (λ e. absurd (omega arith)))

  pub order_filled : k < most_degree → ((i : ℕ) → i < n → sums i ≡ sums_to terms H (coefficients_to terms H (start_in n table) k) k (length terms) i) → Filled terms H n (suc k) table'
  order_filled last summed =
      record {
        usable = record { past = λ order i l p m. all.others order i l m (λ e. p) ∙ filled.usable.past order i l p m };
        entries = λ order i l m. rw start_stays (⊎_elim (newest order i m) (λ (e : order < suc k). earlier order i m e) (eq-or-lt_of_le {n = order} {m = suc k} l));
      }
    where
      balls : List Ball
      balls = start_in n table

      grows : Grows no_ball balls (λ k. next_coefficient terms H (coefficients_to terms H balls k) k) (entry terms H balls)
      grows = coefficients_grow terms H balls

      newest : (order i : ℕ) → i < most_quantities → order ≡ suc k → ball_at table' order i ≡ entry terms H balls (suc k) order i
      newest order i m e =
          rw e
          (⊎_elim
          (λ (l : i < n). all.entries i l ∙ ap (closed k) (summed i l) ∙ closed_is_next terms H (coefficients_to terms H balls k) k i ∙ sym (grows.continues k i (rw (length_start n table) l)))
          (λ (p : n ≤ i). all.others (suc k) i (omega arith) m (λ e. p) ∙ filled.usable.past (suc k) i (omega arith) p m ∙ sym (grows.past (suc k) (suc k) i (le_refl (suc k)) (rw (length_start n table) p)))
          (before_or_past i n))

      earlier : (order i : ℕ) → i < most_quantities → order < suc k → ball_at table' order i ≡ entry terms H balls (suc k) order i
      earlier order i m l =
          all.others order i (omega arith) m (λ e. absurd (omega arith)) ∙ filled.entries order i (omega arith) m ∙ grows.stays k order i (omega arith) ∙ sym (grows.stays (suc k) order i (omega arith))
