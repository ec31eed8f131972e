-- The tables of coefficients and of orders grow by a row at their end: an entry keeps its place, the first row is the start, a later one is
-- what the table before it gives, and past the quantities an entry is nothing.
use Prim.Native.Nat.{ℕ, zero, suc, ◌≤◌, ◌<◌}
use mathlib.Core.List.{List, [], ◌∷◌, ◌++◌}
use mathlib.Core.Path.{◌≡◌, refl, sym, ap, ◌∙◌}
use native.Mathlib.Omega.{arith}
use lib.IntN.{ℤ}
use lib.ListN.{length, get_or, get_or-eq_default}
use Rattle.ranges.specs.Range.{tabulate}
use Rattle.model.specs.Step.{no_ball, coefficient, factor, next_coefficient, coefficients_to}
use Rattle.model.specs.declared.Ball.{Ball}
use Rattle.model.specs.declared.Term.{Term}
use Rattle.ranges.proofs.Ranges.{get_or_tabulate, get_or_tabulate_past}

-- a ball by its parts
pub ball_equal : {v w : ℤ} {r s : ℕ} → v ≡ w → r ≡ s → ◌≡◌ {A = Ball} (record { value = v; radius = r }) (record { value = w; radius = s })
ball_equal p q = rw (p, q)

-- entry d k i is entry i of row k in the table of the rows 0 .. d; next k i is what the table of the rows 0 .. k gives for row k + 1
pub record Grows {A : Type 0} (none : A) (start : List A) (next : ℕ → ℕ → A) (entry : ℕ → ℕ → ℕ → A) : Type 0 where
  pub stays : (d k i : ℕ) → k ≤ d → entry d k i ≡ entry k k i
  pub starts : (i : ℕ) → entry 0 0 i ≡ get_or start i none
  pub continues : (k i : ℕ) → i < length start → entry (suc k) (suc k) i ≡ next k i
  pub past : (d k i : ℕ) → k ≤ d → length start ≤ i → entry d k i ≡ none

row : {A : Type 0} → List A → (ℕ → ℕ → A) → ℕ → List A
row start next zero = start
row start next (suc k) = tabulate (length start) (next k)

module _ {A : Type 0} (none : A) (start : List A) (next : ℕ → ℕ → A) (table : ℕ → List (List A))
    (first : table 0 ≡ start ∷ []) (one_more : (k : ℕ) → table (suc k) ≡ table k ++ (tabulate (length start) (next k) ∷ [])) where
  rows : (d : ℕ) → table d ≡ tabulate (suc d) (row start next)
  unfolding row tabulate
  rows zero = first
  rows (suc d) = one_more d ∙ ap (λ (t : List (List A)). t ++ (tabulate (length start) (next d) ∷ [])) (rows d)

  row_stays : (d k : ℕ) → k ≤ d → get_or (table d) k [] ≡ row start next k
  row_stays d k h = ap (λ (t : List (List A)). get_or t k []) (rows d) ∙ get_or_tabulate (suc d) (row start next) [] k (omega arith)

  entry_is : (d k i : ℕ) → k ≤ d → get_or (get_or (table d) k []) i none ≡ get_or (row start next k) i none
  entry_is d k i h = ap (λ (r : List A). get_or r i none) (row_stays d k h)

  past_row : (k i : ℕ) → length start ≤ i → get_or (row start next k) i none ≡ none
  unfolding row
  past_row zero i h = get_or-eq_default start none h
  past_row (suc k) i h = get_or_tabulate_past (length start) (next k) none i h

  pub grows : Grows none start next (λ d k i. get_or (get_or (table d) k []) i none)
  unfolding row
  grows =
      record {
        stays = λ d k i h. entry_is d k i h ∙ sym (entry_is k k i (omega arith));
        starts = λ i. entry_is 0 0 i (omega arith);
        continues = λ k i h. entry_is (suc k) (suc k) i (omega arith) ∙ get_or_tabulate (length start) (next k) none i h;
        past = λ d k i h p. entry_is d k i h ∙ past_row k i p;
      }

pub coefficients_grow : (terms : List Term) (H : ℤ) (balls : List Ball) → Grows no_ball balls (λ k. next_coefficient terms H (coefficients_to terms H balls k) k) (λ d. coefficient (coefficients_to terms H balls d))
unfolding coefficient coefficients_to
coefficients_grow terms H balls =
    grows no_ball balls (λ k. next_coefficient terms H (coefficients_to terms H balls k) k) (coefficients_to terms H balls) refl (λ k. refl)

pub factor_stays : (terms : List Term) (H : ℤ) (balls : List Ball) (d k i : ℕ) → k ≤ d → factor (coefficients_to terms H balls d) k i ≡ factor (coefficients_to terms H balls k) k i
unfolding factor
factor_stays terms H balls d zero zero h = refl
factor_stays terms H balls d (suc k) zero h = refl
factor_stays terms H balls d k (suc i) h = (coefficients_grow terms H balls).stays d k i h
