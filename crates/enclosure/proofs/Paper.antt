-- The exact sum is the paper's (source 000, equation 27): with y_k = Y_k ÷ (k! D^(k+1) s^k), y_0 is the start and (k+1) y_(k+1) is the k-th
-- coefficient of the rates. Numbers are fractions here, and two are the same by cross-multiplication.
use Prim.Native.Nat.{ℕ, zero, suc, ◌-◌, ◌*◌, ◌^◌, ◌≤◌, ◌<◌}
use mathlib.Core.Path.{◌≡◌, sym, ◌∙◌}
use mathlib.Core.Bool.{Bool, true, false, cond}
use mathlib.Core.List.{List}
use native.Mathlib.Omega.{arith}
use native.Mathlib.Nat.{mul-one, one-mul, pow-zero, pow-suc}
use lib.Dec.{eqb}
use lib.IntN.{ℤ, pos, ◌*ℤ◌, *ℤ_comm, *ℤ-one, +ℤ_idl, pow}
use lib.ListN.{length, get_or}
use Rattle.rounding.proofs.Integers.{ringℤ, ringℕ}
use Rattle.ranges.specs.Range.{sum_ℤ}
use Rattle.model.specs.Sheet.{scale, no_term}
use Rattle.enclosure.specs.Exact.{State, order, binomial, factor_ℤ, product, next_order, orders_to, sum_denominator, sum_numerator, exact_sum}
use Rattle.model.specs.Step.{brings_ℤ}
use Rattle.model.specs.declared.Term.{Term}
use Rattle.ranges.proofs.Ranges.{sum_ℤ_equal, sum_ℤ_factor, get_or_tabulate}
use Rattle.enclosure.proofs.Orders.{orders_grow, factor_ℤ_stays}
use Rattle.ranges.proofs.Fractions.{Fraction, ◌÷◌, ◌≃◌, times, total, plus_over, times_over, over_multiple, over_multiplied, turned, itself, nothing_over, total_over}
use Rattle.enclosure.proofs.Binomial.{binomial_denominators}

-- ---- the paper's numbers

unfoldable pub factorial : ℕ → ℕ
factorial zero = 1
factorial (suc k) = suc k * factorial k

module _ (terms : List Term) (state : State) where
  -- y_k of quantity i, counted from 0
  unfoldable pub y : ℕ → ℕ → Fraction
  y k i = order (orders_to terms state k) k i ÷ (factorial k * (state.denominator ^ suc k * scale ^ k))

  -- y_k of a factor: an absent one is the number 1
  unfoldable pub y_factor : ℕ → ℕ → Fraction
  y_factor zero zero = pos 1 ÷ 1
  y_factor (suc k) zero = pos 0 ÷ 1
  y_factor k (suc i) = y k i

  -- the k-th coefficient of a product of two series
  unfoldable pub cauchy : ℕ → ℕ → ℕ → Fraction
  cauchy k first second = total (suc k) (λ l. times (y_factor l first) (y_factor (k - l) second))

  -- f_k of quantity i: over its terms, A/s times the factors
  unfoldable pub rate : ℕ → ℕ → Fraction
  rate k i =
      total (length terms) (λ j.
      let term = get_or terms j no_term in
      cond (eqb term.to (suc i)) (times (term.coef ÷ scale) (cauchy k term.first term.second)) (pos 0 ÷ 1))

-- ---- and the exact sum's

module _ (terms : List Term) (state : State) where
  abbrev D : ℕ
  D = state.denominator

  -- k! D^(k+1) s^k
  abbrev M : ℕ → ℕ
  M = sum_denominator state.denominator 1

  denominator_is : (k : ℕ) → factorial k * (D ^ suc k * scale ^ k) ≡ M k
  unfolding factorial sum_denominator
  denominator_is zero = rw (pow-suc D 0, pow-zero D, pow-zero scale) (omega arith)
  denominator_is (suc k) =
      rw (pow-suc D (suc k), pow-suc scale k, mul-one scale, ← denominator_is k) (spread (suc k) (factorial k) (D ^ suc k) D (scale ^ k) scale)
    where
      spread : (n f p d q s : ℕ) → n * f * (p * d * (q * s)) ≡ f * (p * q) * (n * (d * s))
      spread n f p d q s = simp ringℕ

  y_factor_over : (k f : ℕ) → y_factor terms state k f ≃ factor_ℤ D (orders_to terms state k) k f ÷ M k
  unfolding y_factor factor_ℤ y sum_denominator
  y_factor_over zero zero = record { cross = *ℤ_comm (pos 1) (pos D) }
  y_factor_over (suc k) zero = nothing_over (M (suc k))
  y_factor_over k (suc i) = rw (denominator_is k, y) (itself _)

  cauchy_over : (k first second : ℕ) → cauchy terms state k first second ≃ sum_ℤ (suc k) (λ l. pos (binomial k l) *ℤ (factor_ℤ D (orders_to terms state k) l first *ℤ factor_ℤ D (orders_to terms state k) (k - l) second)) ÷ (D * M k)
  unfolding cauchy
  cauchy_over k first second = total_over (suc k) _ _ (D * M k) at
    where
      moved : (l f : ℕ) → l ≤ k → y_factor terms state l f ≃ factor_ℤ D (orders_to terms state k) l f ÷ M l
      moved l f h = rw (factor_ℤ_stays terms state D k l f h) (y_factor_over l f)

      at : (l : ℕ) → l < suc k → times (y_factor terms state l first) (y_factor terms state (k - l) second) ≃ (pos (binomial k l) *ℤ (factor_ℤ D (orders_to terms state k) l first *ℤ factor_ℤ D (orders_to terms state k) (k - l) second)) ÷ (D * M k)
      at l h = over_multiple (binomial k l) (binomial_denominators D 1 k l (omega arith)) (times_over (moved l first (omega arith)) (moved (k - l) second (omega arith)))

  product_is : (k : ℕ) (term : Term) → product D (orders_to terms state k) k term ≡ term.coef *ℤ sum_ℤ (suc k) (λ l. pos (binomial k l) *ℤ (factor_ℤ D (orders_to terms state k) l term.first *ℤ factor_ℤ D (orders_to terms state k) (k - l) term.second))
  unfolding product
  product_is k term = sym (sum_ℤ_factor (suc k) term.coef _ ∙ sum_ℤ_equal (suc k) _ _ (λ l h. out (pos (binomial k l)) term.coef _ _))
    where
      out : (c a x x' : ℤ) → a *ℤ (c *ℤ (x *ℤ x')) ≡ c *ℤ a *ℤ x *ℤ x'
      out c a x x' = simp ringℤ

  -- A/s times the factors, over the denominator of Y_(k+1) less its (k+1)
  term_over : (k : ℕ) (term : Term) → times (term.coef ÷ scale) (cauchy terms state k term.first term.second) ≃ product D (orders_to terms state k) k term ÷ (scale * (D * M k))
  term_over k term = rw (product_is k term) (times_over (itself (term.coef ÷ scale)) (cauchy_over k term.first term.second))

  rate_over : (k i : ℕ) → rate terms state k i ≃ next_order terms D (orders_to terms state k) k i ÷ (scale * (D * M k))
  unfolding rate next_order brings_ℤ
  rate_over k i = total_over (length terms) _ _ (scale * (D * M k)) (λ j h. go (get_or terms j no_term) (eqb (get_or terms j no_term).to (suc i)))
    where
      go : (term : Term) (is : Bool) → cond is (times (term.coef ÷ scale) (cauchy terms state k term.first term.second)) (pos 0 ÷ 1) ≃ cond is (product D (orders_to terms state k) k term) (pos 0) ÷ (scale * (D * M k))
      go term true = term_over k term
      go term false = nothing_over (scale * (D * M k))

-- ---- equation 27

pub first_is_start : (terms : List Term) (state : State) (i : ℕ) → y terms state 0 i ≃ get_or state.numerators i (pos 0) ÷ state.denominator
unfolding y sum_denominator
first_is_start terms state i = rw (denominator_is terms state 0, (orders_grow terms state).starts i) (itself _)

pub next_is_rate : (terms : List Term) (state : State) (k i : ℕ) → i < length state.numerators → times (pos (suc k) ÷ 1) (y terms state (suc k) i) ≃ rate terms state k i
unfolding y sum_denominator
next_is_rate terms state k i h =
    turned (rw ((orders_grow terms state).continues k i h) (over_multiple (suc k) over (rate_over terms state k i)))
  where
    spread : (n s d m : ℕ) → n * (s * (d * m)) ≡ m * (n * (d * s))
    spread n s d m = simp ringℕ

    over : suc k * (scale * (D terms state * M terms state k)) ≡ 1 * (factorial (suc k) * (state.denominator ^ suc (suc k) * scale ^ suc k))
    over = rw (one-mul, denominator_is terms state (suc k), mul-one scale) (spread (suc k) scale state.denominator (M terms state k))

-- ---- the sum

-- the sum for k = 0..K of y_k (h ÷ w)^k
unfoldable pub sum_of_powers : List Term → State → ℤ → ℕ → ℕ → ℕ → Fraction
sum_of_powers terms state h w K i = total (suc K) (λ k. times (y terms state k i) (pow h k ÷ w ^ k))

module _ (terms : List Term) (state : State) (h : ℤ) (w : ℕ) where
  power_denominator : (k : ℕ) → M terms state k * w ^ k ≡ sum_denominator state.denominator w k
  unfolding sum_denominator
  power_denominator zero = rw (pow-zero w) (mul-one state.denominator)
  power_denominator (suc k) =
      rw (pow-suc w k, mul-one scale, ← power_denominator k) (spread (M terms state k) (suc k) state.denominator scale (w ^ k) w)
    where
      spread : (m n d s p w : ℕ) → m * (n * (d * s)) * (p * w) ≡ m * p * (n * (d * (s * w)))
      spread m n d s p w = simp ringℕ

  power_over : (k i : ℕ) → times (y terms state k i) (pow h k ÷ w ^ k) ≃ (order (orders_to terms state k) k i *ℤ pow h k) ÷ sum_denominator state.denominator w k
  unfolding y
  power_over k i = rw (← power_denominator k, denominator_is terms state k) (itself _)

  sum_over : (K i : ℕ) → sum_of_powers terms state h w K i ≃ sum_numerator terms state h w K i ÷ sum_denominator state.denominator w K
  unfolding sum_of_powers total sum_numerator sum_denominator pow
  sum_over zero i =
      rw (*ℤ-one (order (orders_to terms state 0) 0 i), +ℤ_idl (order (orders_to terms state 0) 0 i)) at (plus_over (nothing_over state.denominator) (power_over 0 i))
  sum_over (suc K) i = plus_over (over_multiplied (suc K * (state.denominator * (scale * w))) (sum_over K i)) (power_over (suc K) i)

  pub exact_sum_is_sum_of_powers : (K i : ℕ) → i < length state.numerators → get_or (exact_sum terms h w K state).numerators i (pos 0) ÷ (exact_sum terms h w K state).denominator ≃ sum_of_powers terms state h w K i
  unfolding exact_sum
  exact_sum_is_sum_of_powers K i l = rw (get_or_tabulate (length state.numerators) (sum_numerator terms state h w K) (pos 0) i l) (turned (sum_over K i))
