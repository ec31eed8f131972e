-- The exact sum does not depend on the denominator that a state is given: states of the same numbers lead to the same numbers. With D and the
-- numerators multiplied by c, Y_k is multiplied by c^(k+1).
use Prim.Native.Nat.{ℕ, zero, suc, ◌+◌, ◌-◌, ◌*◌, ◌^◌, ◌≤◌, ◌<◌}
use mathlib.Core.Path.{◌≡◌, sym, ap, ap₂, ◌∙◌}
use mathlib.Core.Bool.{Bool, true, false, cond}
use mathlib.Core.List.{List, map}
use mathlib.Core.Logic.{⊎_elim}
use native.Mathlib.Omega.{arith}
use native.Mathlib.Nat.{add-zero, add-suc, mul-one, one-mul, mul_comm, mul_assoc, pow-zero, pow-suc, eq-or-lt_of_le, eq_of_mul-eq-mul_right, one-le-pow, mul-pos, zero-mul}
use lib.Dec.{eqb}
use lib.IntN.{ℤ, pos, nat_abs, ◌+ℤ◌, ◌-ℤ◌, ◌*ℤ◌, pow, *ℤ-zero, *ℤ_comm, +ℤ_invr}
use lib.ListN.{length, get_or, length-map, get_or-map}
use lib.Seq.{ext_get_or}
use Rattle.rounding.proofs.Integers.{ringℤ, ringℕ, abs_mul, sub_zero_same}
use Rattle.ranges.specs.Range.{tabulate}
use Rattle.model.specs.Sheet.{scale, no_term}
use Rattle.enclosure.specs.Exact.{State, Orders, order, binomial, factor_ℤ, product, next_order, orders_to, sum_denominator, sum_numerator, exact_sum}
use Rattle.model.specs.Step.{brings_ℤ}
use Rattle.model.specs.declared.Term.{Term}
use Rattle.ranges.proofs.Ranges.{sum_ℤ_equal, sum_ℤ_factor, length_tabulate, get_or_tabulate, tabulate_is, before_or_past}
use Rattle.enclosure.proofs.Orders.{orders_grow}
use Rattle.ranges.proofs.Fractions.{Fraction, ◌÷◌, ◌≃◌}

-- the same numbers, D and the numerators multiplied by c
unfoldable pub scaled : ℕ → State → State
scaled c state = record { denominator = c * state.denominator; numerators = map (λ (z : ℤ). pos c *ℤ z) state.numerators }

scaled_entry : (c : ℕ) (xs : List ℤ) (i : ℕ) → get_or (map (λ (z : ℤ). pos c *ℤ z) xs) i (pos 0) ≡ pos c *ℤ get_or xs i (pos 0)
scaled_entry c xs i =
    ap (λ (z : ℤ). get_or (map (λ (z : ℤ). pos c *ℤ z) xs) i z) (sym (*ℤ-zero (pos c))) ∙ get_or-map (λ (z : ℤ). pos c *ℤ z) xs i (pos 0)

first_power : (c : ℕ) → c ^ 1 ≡ c
first_power c = rw (pow-suc c 0, pow-zero c) (one-mul c)

pow_add : (c a b : ℕ) → c ^ (a + b) ≡ c ^ a * c ^ b
pow_add c a zero = rw (add-zero a, pow-zero c) (sym (mul-one (c ^ a)))
pow_add c a (suc b) = rw (add-suc a b, pow-suc c (a + b), pow-suc c b, pow_add c a b) (mul_assoc (c ^ a) (c ^ b) c)

module _ (terms : List Term) (c : ℕ) (state : State) where
  abbrev D : ℕ
  D = state.denominator

  abbrev before : ℕ → Orders
  before = orders_to terms state

  abbrev after : ℕ → Orders
  after = orders_to terms (scaled c state)

  -- Y_0 .. Y_k are multiplied so
  record Multiplied (k : ℕ) : Type 0 where
    at : (l i : ℕ) → l ≤ k → order (after k) l i ≡ pos (c ^ suc l) *ℤ order (before k) l i

  factor_multiplied : (k l f : ℕ) → Multiplied k → l ≤ k → factor_ℤ (c * D) (after k) l f ≡ pos (c ^ suc l) *ℤ factor_ℤ D (before k) l f
  unfolding factor_ℤ
  factor_multiplied k zero zero m h = rw (first_power c)
  factor_multiplied k (suc l) zero m h = sym (*ℤ-zero (pos (c ^ suc (suc l))))
  factor_multiplied k l (suc i) m h = m.at l i h

  product_multiplied : (k : ℕ) (term : Term) → Multiplied k → product (c * D) (after k) k term ≡ pos (c ^ suc (suc k)) *ℤ product D (before k) k term
  unfolding product
  product_multiplied k term m = sum_ℤ_equal (suc k) _ _ summand ∙ sym (sum_ℤ_factor (suc k) (pos (c ^ suc (suc k))) _)
    where
      out : (b a p x q x' : ℤ) → b *ℤ a *ℤ (p *ℤ x) *ℤ (q *ℤ x') ≡ p *ℤ q *ℤ (b *ℤ a *ℤ x *ℤ x')
      out b a p x q x' = simp ringℤ

      powers : (l : ℕ) → l ≤ k → c ^ suc l * c ^ suc (k - l) ≡ c ^ suc (suc k)
      powers l h = sym (pow_add c (suc l) (suc (k - l))) ∙ ap (λ (n : ℕ). c ^ n) (omega arith)

      summand : (l : ℕ) → l < suc k → pos (binomial k l) *ℤ term.coef *ℤ factor_ℤ (c * D) (after k) l term.first *ℤ factor_ℤ (c * D) (after k) (k - l) term.second ≡ pos (c ^ suc (suc k)) *ℤ (pos (binomial k l) *ℤ term.coef *ℤ factor_ℤ D (before k) l term.first *ℤ factor_ℤ D (before k) (k - l) term.second)
      summand l h = rw (factor_multiplied k l term.first m (omega arith), factor_multiplied k (k - l) term.second m (omega arith), ← powers l (omega arith)) (out (pos (binomial k l)) term.coef (pos (c ^ suc l)) _ (pos (c ^ suc (k - l))) _)

  next_multiplied : (k i : ℕ) → Multiplied k → next_order terms (c * D) (after k) k i ≡ pos (c ^ suc (suc k)) *ℤ next_order terms D (before k) k i
  unfolding next_order brings_ℤ
  next_multiplied k i m =
      sum_ℤ_equal (length terms) _ _ (λ j h. brought (get_or terms j no_term) (eqb (get_or terms j no_term).to (suc i))) ∙ sym (sum_ℤ_factor (length terms) (pos (c ^ suc (suc k))) _)
    where
      brought : (term : Term) (is : Bool) → cond is (product (c * D) (after k) k term) (pos 0) ≡ pos (c ^ suc (suc k)) *ℤ cond is (product D (before k) k term) (pos 0)
      brought term true = product_multiplied k term m
      brought term false = sym (*ℤ-zero (pos (c ^ suc (suc k))))

  scaled_length : length (scaled c state).numerators ≡ length state.numerators
  unfolding scaled
  scaled_length = simp length-map

  first_entry : (i : ℕ) → order (after 0) 0 i ≡ pos (c ^ 1) *ℤ order (before 0) 0 i
  unfolding scaled
  first_entry i = rw ((orders_grow terms (scaled c state)).starts i, (orders_grow terms state).starts i, first_power c) (scaled_entry c state.numerators i)

  next_entry : (k i : ℕ) → Multiplied k → order (after (suc k)) (suc k) i ≡ pos (c ^ suc (suc k)) *ℤ order (before (suc k)) (suc k) i
  unfolding scaled
  next_entry k i m = ⊎_elim there past (before_or_past i (length state.numerators))
    where
      there : i < length state.numerators → order (after (suc k)) (suc k) i ≡ pos (c ^ suc (suc k)) *ℤ order (before (suc k)) (suc k) i
      there h =
          (orders_grow terms (scaled c state)).continues k i (omega (arith, scaled_length)) ∙ next_multiplied k i m ∙ ap (λ (z : ℤ). pos (c ^ suc (suc k)) *ℤ z) (sym ((orders_grow terms state).continues k i h))

      past : length state.numerators ≤ i → order (after (suc k)) (suc k) i ≡ pos (c ^ suc (suc k)) *ℤ order (before (suc k)) (suc k) i
      past h =
          rw ((orders_grow terms (scaled c state)).past (suc k) (suc k) i (omega arith) (omega (arith, scaled_length)), (orders_grow terms state).past (suc k) (suc k) i (omega arith) h) (sym (*ℤ-zero (pos (c ^ suc (suc k)))))

  multiplied : (k : ℕ) → Multiplied k
  multiplied zero = record { at = first }
    where
      first : (l i : ℕ) → l ≤ 0 → order (after 0) l i ≡ pos (c ^ suc l) *ℤ order (before 0) l i
      first zero i h = first_entry i
      first (suc l) i h = absurd (omega arith)
  multiplied (suc k) = record { at = λ l i h. ⊎_elim (λ e. rw e (next_entry k i (multiplied k))) (λ lt. stayed (multiplied k) l i (omega arith)) (eq-or-lt_of_le h) }
    where
      stayed : Multiplied k → (l i : ℕ) → l ≤ k → order (after (suc k)) l i ≡ pos (c ^ suc l) *ℤ order (before (suc k)) l i
      stayed m l i h =
          rw ((orders_grow terms (scaled c state)).stays (suc k) l i (omega arith), (orders_grow terms state).stays (suc k) l i (omega arith), ← (orders_grow terms (scaled c state)).stays k l i h, ← (orders_grow terms state).stays k l i h) (m.at l i h)

  -- ---- the sum

  denominator_multiplied : (w K : ℕ) → sum_denominator (c * D) w K ≡ c ^ suc K * sum_denominator D w K
  unfolding sum_denominator
  denominator_multiplied w zero = rw (first_power c)
  denominator_multiplied w (suc K) =
      rw (denominator_multiplied w K, pow-suc c (suc K)) (spread (c ^ suc K) c (sum_denominator D w K) (suc K) D (scale * w))
    where
      spread : (p c m n d e : ℕ) → p * m * (n * (c * d * e)) ≡ p * c * (m * (n * (d * e)))
      spread p c m n d e = simp ringℕ

  numerator_multiplied : (h : ℤ) (w K i : ℕ) → sum_numerator terms (scaled c state) h w K i ≡ pos (c ^ suc K) *ℤ sum_numerator terms state h w K i
  unfolding sum_numerator scaled
  numerator_multiplied h w zero i = first_entry i
  numerator_multiplied h w (suc K) i =
      rw (numerator_multiplied h w K i, (multiplied (suc K)).at (suc K) i (omega arith), pow-suc c (suc K), out (suc K) c D (scale * w)) (spread (pos (c ^ suc K)) (pos c) (sum_numerator terms state h w K i) (pos (suc K * (D * (scale * w)))) (order (before (suc K)) (suc K) i) (pow h (suc K)))
    where
      out : (n c d e : ℕ) → n * (c * d * e) ≡ c * (n * (d * e))
      out n c d e = simp ringℕ

      spread : (p c n m y x : ℤ) → p *ℤ n *ℤ (c *ℤ m) +ℤ p *ℤ c *ℤ y *ℤ x ≡ p *ℤ c *ℤ (n *ℤ m +ℤ y *ℤ x)
      spread p c n m y x = simp ringℤ

  pub sum_of_scaled : (h : ℤ) (w K : ℕ) → exact_sum terms h w K (scaled c state) ≡ scaled (c ^ suc K) (exact_sum terms h w K state)
  unfolding exact_sum scaled
  sum_of_scaled h w K = λ t. record { denominator = denominator_multiplied w K t; numerators = entries t }
    where
      n : ℕ
      n = length state.numerators

      entries : tabulate (length (scaled c state).numerators) (sum_numerator terms (scaled c state) h w K) ≡ map (λ (z : ℤ). pos (c ^ suc K) *ℤ z) (tabulate n (sum_numerator terms state h w K))
      entries =
          rw scaled_length (tabulate_is n (sum_numerator terms (scaled c state) h w K) (pos 0) (map (λ (z : ℤ). pos (c ^ suc K) *ℤ z) (tabulate n (sum_numerator terms state h w K))) (simp (length-map, length_tabulate)) (λ i l. rw (scaled_entry (c ^ suc K) (tabulate n (sum_numerator terms state h w K)) i, get_or_tabulate n (sum_numerator terms state h w K) (pos 0) i l) (numerator_multiplied h w K i)))

-- ---- states of the same numbers

-- the number of quantity i, in wholes
unfoldable pub number : State → ℕ → Fraction
number state i = get_or state.numerators i (pos 0) ÷ state.denominator

pub record SameNumbers (a b : State) : Type 0 where
  pub quantities : length a.numerators ≡ length b.numerators
  pub each : (i : ℕ) → i < length a.numerators → number a i ≃ number b i

cancelled : (m : ℕ) (x y : ℤ) → 0 < m → x *ℤ pos m ≡ y *ℤ pos m → x ≡ y
cancelled m x y h e =
    sub_zero_same x y (eq_of_mul-eq-mul_right m h (nat_abs (x -ℤ y)) 0 (sym (abs_mul (x -ℤ y) (pos m)) ∙ ap nat_abs (spread x y (pos m) ∙ ap (λ (z : ℤ). z -ℤ y *ℤ pos m) e ∙ +ℤ_invr (y *ℤ pos m)) ∙ sym (zero-mul m)))
  where
    spread : (x y m : ℤ) → (x -ℤ y) *ℤ m ≡ x *ℤ m -ℤ y *ℤ m
    spread x y m = simp ringℤ

-- with a common multiple
common_same : (p q : ℕ) (a b : State) → 0 < p → 0 < q → scaled p a ≡ scaled q b → SameNumbers a b
unfolding scaled number
common_same p q a b hp hq e =
    record {
      quantities = simp length-map at (ap (λ (s : State). length s.numerators) e);
      each = λ i h. record { cross = cancelled (p * q) _ _ (mul-pos hp hq) (crossed i) };
    }
  where
    regroup : (p x q y : ℤ) → x *ℤ y *ℤ (p *ℤ q) ≡ p *ℤ x *ℤ (q *ℤ y)
    regroup p x q y = simp ringℤ

    regroup_back : (p x q y : ℤ) → q *ℤ x *ℤ (p *ℤ y) ≡ x *ℤ y *ℤ (p *ℤ q)
    regroup_back p x q y = simp ringℤ

    entry : (i : ℕ) → pos p *ℤ get_or a.numerators i (pos 0) ≡ pos q *ℤ get_or b.numerators i (pos 0)
    entry i = sym (scaled_entry p a.numerators i) ∙ ap (λ (s : State). get_or s.numerators i (pos 0)) e ∙ scaled_entry q b.numerators i

    crossed : (i : ℕ) → get_or a.numerators i (pos 0) *ℤ pos b.denominator *ℤ pos (p * q) ≡ get_or b.numerators i (pos 0) *ℤ pos a.denominator *ℤ pos (p * q)
    crossed i =
        regroup (pos p) (get_or a.numerators i (pos 0)) (pos q) (pos b.denominator) ∙ ap₂ (λ (x y : ℤ). x *ℤ y) (entry i) (ap (λ (s : State). pos s.denominator) (sym e)) ∙ regroup_back (pos p) (get_or b.numerators i (pos 0)) (pos q) (pos a.denominator)

same_common : (a b : State) → SameNumbers a b → scaled b.denominator a ≡ scaled a.denominator b
unfolding scaled number
same_common a b s = λ t. record { denominator = mul_comm b.denominator a.denominator t; numerators = entries t }
  where
    entry : (i : ℕ) → i < length (map (λ (z : ℤ). pos b.denominator *ℤ z) a.numerators) → get_or (map (λ (z : ℤ). pos b.denominator *ℤ z) a.numerators) i (pos 0) ≡ get_or (map (λ (z : ℤ). pos a.denominator *ℤ z) b.numerators) i (pos 0)
    entry i h =
        rw (scaled_entry b.denominator a.numerators i, scaled_entry a.denominator b.numerators i, *ℤ_comm (pos b.denominator) (get_or a.numerators i (pos 0)), *ℤ_comm (pos a.denominator) (get_or b.numerators i (pos 0))) (s.each i (rw length-map at h)).cross

    entries : map (λ (z : ℤ). pos b.denominator *ℤ z) a.numerators ≡ map (λ (z : ℤ). pos a.denominator *ℤ z) b.numerators
    entries = ext_get_or (pos 0) _ _ (simp length-map s.quantities) entry

pub same_numbers_same_sums : (terms : List Term) (h : ℤ) (w K : ℕ) (a b : State) → 0 < a.denominator → 0 < b.denominator → SameNumbers a b → SameNumbers (exact_sum terms h w K a) (exact_sum terms h w K b)
same_numbers_same_sums terms h w K a b ha hb s =
    common_same (b.denominator ^ suc K) (a.denominator ^ suc K) (exact_sum terms h w K a) (exact_sum terms h w K b) (one-le-pow (suc K) b.denominator hb) (one-le-pow (suc K) a.denominator ha) (sym (sum_of_scaled terms b.denominator a h w K) ∙ ap (exact_sum terms h w K) (same_common a b s) ∙ sum_of_scaled terms a.denominator b h w K)
