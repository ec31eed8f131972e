-- The exact sums of the gathered terms are those of the terms as read, at every step h ÷ w: a term brings its coefficient times a convolution of
-- its factors, which like terms have in common. So demand 3 by the gathered terms is demand 3 by the terms as read.
use Prim.Native.Nat.{ℕ, zero, suc}
use mathlib.Core.Bool.{true, false, cond}
use mathlib.Core.List.{List, [], ◌∷◌, ◌++◌}
use mathlib.Core.Path.{◌≡◌, refl, sym, ap, ap₂, ◌∙◌}
use borrow.Author.Tests.{not-true, not-false}
use lib.Dec.{eqb}
use lib.IntN.{ℤ, pos, ◌+ℤ◌, ◌*ℤ◌, zero-*ℤ, +ℤ_idl}
use lib.ListN.{length, get_or}
use Rattle.rounding.proofs.Integers.{ringℤ}
use Rattle.model.specs.Sheet.{scale}
use Rattle.enclosure.specs.Exact.{State, Orders, product, next_order, orders_to, sum_numerator, exact_sum}
use Rattle.model.specs.Step.{brings_ℤ, Row}
use Rattle.model.specs.LikeTerms.{like, coefs_like, filter, summed, nonzero, gathered}
use Rattle.model.specs.declared.Ball.{Ball}
use Rattle.enclosure.specs.Trust.{state_after, Trusted}
use Rattle.model.specs.declared.Term.{Term}
use Rattle.ranges.proofs.Ranges.{sum_ℤ_first, tabulate_equal}
use Rattle.enclosure.proofs.Convolution.{convolution, product_factored, convolution_either_way}
use Rattle.enclosure.proofs.NextCoefficient.{brings_factor}
use Rattle.laws.proofs.Gathering.Filters.{filter_ind}
use Rattle.laws.proofs.Gathering.Like.{SameFactors, in_order, changed_over, like_says}
use Rattle.laws.proofs.Gathering.Gathered.{with_coef, unlike, zero_coef, coefs_like_lem, coefs_unlike, coefs_summed}

joined : (a b x y : ℤ) → (a +ℤ b) *ℤ x +ℤ y ≡ a *ℤ x +ℤ (b *ℤ x +ℤ y)
joined a b x y = simp ringℤ

-- ---- one order of one quantity

module _ (D : ℕ) (orders : Orders) (k i : ℕ) where
  -- what a term would bring with the coefficient 1
  unit : Term → ℤ
  unit t = brings_ℤ (suc i) t (convolution D orders k t.first t.second)

  abbrev next : List Term → ℤ
  next terms = next_order terms D orders k i

  brings_unit : (t : Term) → brings_ℤ (suc i) t (product D orders k t) ≡ t.coef *ℤ unit t
  unfolding unit
  brings_unit t = ap (brings_ℤ (suc i) t) (product_factored D orders k t) ∙ brings_factor (suc i) t t.coef (convolution D orders k t.first t.second)

  unit_like : (t u : Term) → like t u ≡ true → unit t ≡ unit u
  unfolding unit brings_ℤ
  unit_like t u e =
      let same = like_says t u e in
      ap₂ (λ (to : ℕ) (z : ℤ). cond (eqb to (suc i)) z (pos 0)) same.to (factors same.factors)
    where
      factors : SameFactors t u → convolution D orders k t.first t.second ≡ convolution D orders k u.first u.second
      factors (in_order p q) = rw (p, q)
      factors (changed_over p q) = rw (p, q) (convolution_either_way D orders k u.second u.first)

  next_first : (t : Term) (ts : List Term) → next (t ∷ ts) ≡ t.coef *ℤ unit t +ℤ next ts
  unfolding next_order
  next_first t ts = sum_ℤ_first (length ts) _ ∙ ap (λ (z : ℤ). z +ℤ next ts) (brings_unit t)

  -- those that are unlike a term, and what those that are like it bring together
  next_parted : (t : Term) (ts : List Term) → coefs_like t ts *ℤ unit t +ℤ next (filter (unlike t) ts) ≡ next ts
  unfolding coefs_like
  next_parted t =
      filter_ind (unlike t) (λ ts left. coefs_like t ts *ℤ unit t +ℤ next left ≡ next ts) (rw zero-*ℤ (+ℤ_idl (next []))) kept dropped
    where
      past : (x y z : ℤ) → x +ℤ (y +ℤ z) ≡ y +ℤ (x +ℤ z)
      past x y z = simp ringℤ

      kept : (u : Term) (ts : List Term) → unlike t u ≡ true → coefs_like t ts *ℤ unit t +ℤ next (filter (unlike t) ts) ≡ next ts → coefs_like t (u ∷ ts) *ℤ unit t +ℤ next (u ∷ filter (unlike t) ts) ≡ next (u ∷ ts)
      kept u ts e rest =
          ap₂ (λ (x y : ℤ). x *ℤ unit t +ℤ y) (coefs_unlike t u ts (not-true _ e)) (next_first u (filter (unlike t) ts)) ∙ past (coefs_like t ts *ℤ unit t) (u.coef *ℤ unit u) (next (filter (unlike t) ts))
          ∙ ap (λ (z : ℤ). u.coef *ℤ unit u +ℤ z) rest ∙ sym (next_first u ts)

      dropped : (u : Term) (ts : List Term) → unlike t u ≡ false → coefs_like t ts *ℤ unit t +ℤ next (filter (unlike t) ts) ≡ next ts → coefs_like t (u ∷ ts) *ℤ unit t +ℤ next (filter (unlike t) ts) ≡ next (u ∷ ts)
      dropped u ts e rest =
          ap (λ (x : ℤ). x *ℤ unit t +ℤ next (filter (unlike t) ts)) (coefs_like_lem t u ts (not-false _ e)) ∙ joined u.coef (coefs_like t ts) (unit t) (next (filter (unlike t) ts))
          ∙ ap₂ (λ (x y : ℤ). u.coef *ℤ x +ℤ y) (unit_like t u (not-false _ e)) rest ∙ sym (next_first u ts)

  next_summed : (ts : List Term) → next (summed ts) ≡ next ts
  unfolding summed unit brings_ℤ
  next_summed [] = refl
  next_summed (t ∷ ts) =
      next_first (with_coef t (t.coef +ℤ coefs_like t ts)) (filter (unlike t) (summed ts)) ∙ joined t.coef (coefs_like t ts) (unit t) (next (filter (unlike t) (summed ts)))
      ∙ ap (λ (z : ℤ). t.coef *ℤ unit t +ℤ (z *ℤ unit t +ℤ next (filter (unlike t) (summed ts)))) (sym (coefs_summed t ts)) ∙ ap (λ (z : ℤ). t.coef *ℤ unit t +ℤ z) (next_parted t (summed ts) ∙ next_summed ts) ∙ sym (next_first t ts)

  next_nonzero : (ts : List Term) → next (filter nonzero ts) ≡ next ts
  next_nonzero =
      filter_ind nonzero (λ ts left. next left ≡ next ts) refl (λ t ts e rest. next_first t (filter nonzero ts) ∙ ap (λ (z : ℤ). t.coef *ℤ unit t +ℤ z) rest ∙ sym (next_first t ts)) (λ t ts e rest. rest ∙ sym (nothing t ts (zero_coef t e)))
    where
      nothing : (t : Term) (ts : List Term) → t.coef ≡ pos 0 → next (t ∷ ts) ≡ next ts
      nothing t ts e = next_first t ts ∙ rw (e, zero-*ℤ) (+ℤ_idl (next ts))

-- ---- all orders, the sums, and the states of a passage

-- two lists of terms have the same rates
pub record SameRates (a b : List Term) : Type 0 where
  pub next : (D : ℕ) (orders : Orders) (k i : ℕ) → next_order a D orders k i ≡ next_order b D orders k i

pub rates_gathered : (terms : List Term) → SameRates (gathered terms) terms
unfolding gathered
rates_gathered terms = record { next = λ D orders k i. next_nonzero D orders k i (summed terms) ∙ next_summed D orders k i terms }

module _ (a b : List Term) (same : SameRates a b) where
  orders_same : (state : State) (k : ℕ) → orders_to a state k ≡ orders_to b state k
  unfolding orders_to
  orders_same state zero = refl
  orders_same state (suc k) =
      rw (orders_same state k)
      (ap (λ (row : List ℤ). orders_to b state k ++ (row ∷ [])) (tabulate_equal (length state.numerators) _ _ (λ i h. same.next state.denominator (orders_to b state k) k i)))

  numerator_same : (state : State) (h : ℤ) (w K i : ℕ) → sum_numerator a state h w K i ≡ sum_numerator b state h w K i
  unfolding sum_numerator
  numerator_same state h w zero i = rw (orders_same state 0)
  numerator_same state h w (suc K) i = rw (numerator_same state h w K i, orders_same state (suc K))

  pub sum_same : (h : ℤ) (w K : ℕ) (state : State) → exact_sum a h w K state ≡ exact_sum b h w K state
  unfolding exact_sum
  sum_same h w K state = rw (tabulate_equal (length state.numerators) (sum_numerator a state h w K) (sum_numerator b state h w K) (λ i l. numerator_same state h w K i))

  state_same : (H : ℤ) (degrees : List ℕ) (state : State) (j : ℕ) → state_after a H degrees state j ≡ state_after b H degrees state j
  unfolding state_after
  state_same H degrees state zero = refl
  state_same H degrees state (suc j) = rw (state_same H degrees state j) (sum_same H scale (get_or degrees j 0) (state_after b H degrees state j))

  pub trusted_same : (H : ℤ) (tol : ℕ) (starts : List Ball) (rows : List Row) → Trusted a H tol starts rows → Trusted b H tol starts rows
  unfolding Trusted
  trusted_same H tol starts rows trusted state within degrees lower j h = rw (← (state_same H degrees state (suc j))) (trusted state within degrees lower j h)
