-- The majorant: the k-th summand of every quantity's exact sum is at most G·(q ÷ s)^k units, for every k.
-- Strong induction on k over all quantities at once.
use Prim.Native.Nat.{ℕ, zero, suc, ◌-◌, ◌*◌, ◌^◌, ◌≤◌, ◌<◌}
use mathlib.Core.Bool.{Bool, true, false, cond}
use mathlib.Core.List.{List}
use mathlib.Core.Logic.{⊎_elim}
use mathlib.Core.Path.{◌≡◌, refl, sym, ap, ◌∙◌}
use native.Mathlib.Nat.{le_refl, le_trans, mul_assoc, mul-mul-mul_comm, pow-zero, pow-suc, add-sub_of_le, sub-le, mul-le-mul, mul-le-mul_left, mul-le-mul_right, le_of_mul-le-mul_left, eq-or-lt_of_le}
use native.Mathlib.Decide.{dec_lt}
use native.Mathlib.Omega.{arith}
use lib.Dec.{eqb}
use lib.IntN.{ℤ, pos, nat_abs, ◌*ℤ◌, one, pow}
use lib.ListN.{length, get_or}
use lib.Pow.{pow-add}
use Rattle.rounding.proofs.Integers.{ringℕ, abs_mul}
use Rattle.ranges.specs.Range.{sum, sum_ℤ}
use Rattle.model.specs.Sheet.{scale, no_term}
use Rattle.enclosure.specs.Exact.{State, binomial, order, orders_to, factor_ℤ, product, next_order, sum_denominator}
use Rattle.model.specs.Step.{brings_ℤ, brings, coefs, size}
use Rattle.model.specs.declared.Term.{Term}
use Rattle.enclosure.proofs.Binomial.{binomial_denominators}
use Rattle.ranges.proofs.Ranges.{sum_le, sum_constant, sum_factor, abs_sum_ℤ_le}
use Rattle.laws.proofs.Bounds.Reach.{scale_positive}
use Rattle.enclosure.proofs.Orders.{orders_grow, factor_ℤ_stays}
use Rattle.laws.proofs.Bounds.Weights.{weight, weighs, weight_of, weight_by_size}

-- where a term's `first` is 0, so is its `second`
pub record WellFormed (terms : List Term) : Type 0 where
  pub absent : (j : ℕ) → (get_or terms j no_term).first ≡ 0 → (get_or terms j no_term).second ≡ 0

-- the scale of a factor: s where it is absent, else G
factor_scale : ℕ → ℕ → ℕ
factor_scale G zero = scale
factor_scale G (suc i) = G

factors_weigh : (G first second : ℕ) → (first ≡ 0 → second ≡ 0) → factor_scale G first * factor_scale G second ≡ weight G first second
unfolding factor_scale weight
factors_weigh G zero zero h = refl
factors_weigh G zero (suc second) h = absurd (omega (arith, h refl))
factors_weigh G (suc first) zero h = omega arith
factors_weigh G (suc first) (suc second) h = refl

-- ---- products, powers and sums

abs_product : (a b c d : ℤ) → nat_abs (a *ℤ b *ℤ c *ℤ d) ≡ nat_abs a * nat_abs b * nat_abs c * nat_abs d
abs_product a b c d = rw (abs_mul (a *ℤ b *ℤ c) d, abs_mul (a *ℤ b) c, abs_mul a b)

pow_split : (b : ℕ) {l k : ℕ} → l ≤ k → b ^ k ≡ b ^ l * b ^ (k - l)
pow_split b {l} {k} h = ap (λ (n : ℕ). b ^ n) (sym (add-sub_of_le h)) ∙ pow-add b l (k - l)

abs_pow : (h : ℤ) (k : ℕ) → nat_abs (pow h k) * scale ^ k ≡ (nat_abs h * scale) ^ k
unfolding pow one
abs_pow h zero = rw (pow-zero scale, pow-zero (nat_abs h * scale))
abs_pow h (suc k) =
    rw (abs_mul (pow h k) h, pow-suc scale k, pow-suc (nat_abs h * scale) k, ← abs_pow h k) (mul-mul-mul_comm (nat_abs (pow h k)) (nat_abs h) (scale ^ k) scale)

-- a sum of whole numbers whose magnitudes, c times, are at most g
abs_sum_under : (n c : ℕ) (f : ℕ → ℤ) (g : ℕ → ℕ) → ((k : ℕ) → k < n → c * nat_abs (f k) ≤ g k) → c * nat_abs (sum_ℤ n f) ≤ sum n g
abs_sum_under n c f g h =
    le_trans (mul-le-mul_left c (abs_sum_ℤ_le n f)) (rw (sum_factor n c (λ k. nat_abs (f k))) (sum_le n (λ k. c * nat_abs (f k)) g h))

brings_under : (target : ℕ) (term : Term) (c e : ℕ) (z : ℤ) (y : ℕ) → c * nat_abs z ≤ e * y → c * nat_abs (brings_ℤ target term z) ≤ e * brings target term y
unfolding brings brings_ℤ
brings_under target term c e z y h = asked (eqb term.to target)
  where
    asked : (b : Bool) → c * nat_abs (cond b z (pos 0)) ≤ e * cond b y 0
    asked true = h
    asked false = omega arith

-- two factors, of orders l and k - l
pair_under : (C A a b x x' g g' y y' M M' : ℕ) → scale * a * x ≤ g * y * M → scale * b * x' ≤ g' * y' * M' → scale * scale * (x * x') * (C * A * a * b) ≤ y * y' * (C * (M * M')) * (A * (g * g'))
pair_under C A a b x x' g g' y y' M M' u v =
    rw (left C A a b x x' scale, right C A g g' y y' M M') (mul-le-mul_left (C * A) (mul-le-mul u v))
  where
    left : (C A a b x x' s : ℕ) → s * s * (x * x') * (C * A * a * b) ≡ C * A * (s * a * x * (s * b * x'))
    left C A a b x x' s = simp ringℕ

    right : (C A g g' y y' M M' : ℕ) → y * y' * (C * (M * M')) * (A * (g * g')) ≡ C * A * (g * y * M * (g' * y' * M'))
    right C A g g' y y' M M' = simp ringℕ

-- from the terms' weight W, by the size b and the ratio q
next_by_ratio : (x y E W b a w G q : ℕ) → scale * scale * x * y ≤ E * W → W ≤ scale * (G * b) → b * a ≤ q * w → scale * y * (x * (a * scale)) ≤ E * (G * q) * (scale * w)
next_by_ratio x y E W b a w G q weighed sized slow =
    let once : scale * x * y ≤ E * (G * b) = le_of_mul-le-mul_left twice scale_positive in
    omega (arith, mul-le-mul_right (a * scale) once, mul-le-mul_left (E * G * scale) slow)
  where
    twice : scale * (scale * x * y) ≤ scale * (E * (G * b))
    twice = omega (arith, mul-le-mul_left E sized)

-- ---- the orders of an exact state, at a step of h ÷ w

module _ (terms : List Term) (state : State) (h : ℤ) (w G q : ℕ) where
  abbrev D : ℕ
  D = state.denominator

  abbrev M : ℕ → ℕ
  M = sum_denominator D w

  -- what a magnitude of order k is multiplied by
  abbrev step : ℕ → ℕ
  step k = (nat_abs h * scale) ^ k

  -- order k of a factor is under its scale times (q ÷ s)^k
  record Under (k factor : ℕ) : Type 0 where
    bound : scale * nat_abs (factor_ℤ D (orders_to terms state k) k factor) * step k ≤ factor_scale G factor * q ^ k * M k

  abbrev UnderTo : ℕ → Type 0
  UnderTo k = (l : ℕ) → l ≤ k → (factor : ℕ) → Under l factor

  product_under : (k : ℕ) (term : Term) → (term.first ≡ 0 → term.second ≡ 0) → UnderTo k → scale * scale * step k * nat_abs (product D (orders_to terms state k) k term) ≤ suc k * (q ^ k * (D * M k)) * weighs G term
  unfolding product weighs
  product_under k term formed under =
      rw (mul_assoc (suc k) (q ^ k * (D * M k)) (weighs G term), ← sum_constant (suc k) (q ^ k * (D * M k) * weighs G term)) (abs_sum_under (suc k) (scale * scale * step k) summand (λ l. q ^ k * (D * M k) * weighs G term) each)
    where
      factor : ℕ → ℕ → ℤ
      factor = factor_ℤ D (orders_to terms state k)

      summand : ℕ → ℤ
      summand l = pos (binomial k l) *ℤ term.coef *ℤ factor l term.first *ℤ factor (k - l) term.second

      each : (l : ℕ) → l < suc k → scale * scale * step k * nat_abs (summand l) ≤ q ^ k * (D * M k) * weighs G term
      each l lt =
          let le : l ≤ k = omega arith in
          rw (abs_product (pos (binomial k l)) term.coef (factor l term.first) (factor (k - l) term.second), factor_ℤ_stays terms state D k l term.first le, factor_ℤ_stays terms state D k (k - l) term.second (sub-le k l), pow_split (nat_abs h * scale) le, pow_split q le, ← binomial_denominators D w k l le, ← factors_weigh G term.first term.second formed) (pair_under (binomial k l) (nat_abs term.coef) _ _ (step l) (step (k - l)) (factor_scale G term.first) (factor_scale G term.second) (q ^ l) (q ^ (k - l)) (M l) (M (k - l)) (under l le term.first).bound (under (k - l) (sub-le k l) term.second).bound)

  next_under : WellFormed terms → (k i : ℕ) → UnderTo k → scale * scale * step k * nat_abs (next_order terms D (orders_to terms state k) k i) ≤ suc k * (q ^ k * (D * M k)) * weight_of terms G (suc i)
  unfolding next_order weight_of
  next_under formed k i under =
      rw (sum_factor (length terms) (suc k * (q ^ k * (D * M k))) (λ j. brings (suc i) (get_or terms j no_term) (weighs G (get_or terms j no_term)))) (abs_sum_under (length terms) (scale * scale * step k) _ _ (λ j lt. brings_under (suc i) (get_or terms j no_term) (scale * scale * step k) (suc k * (q ^ k * (D * M k))) _ _ (product_under k (get_or terms j no_term) (formed.absent j) under)))

  -- Where every start is at most G, and every size times |h| ÷ w at most q:
  module _ (formed : WellFormed terms) (large : scale ≤ G) (starts : (i : ℕ) → scale * nat_abs (get_or state.numerators i (pos 0)) ≤ G * D) (slow : (i : ℕ) → i < length state.numerators → size G (coefs terms (suc i)) * nat_abs h ≤ q * w) where
    first_order : (factor : ℕ) → Under 0 factor
    unfolding factor_ℤ factor_scale sum_denominator
    first_order zero = record { bound = rw (pow-zero (nat_abs h * scale), pow-zero q) (omega arith) }
    first_order (suc i) =
        record { bound = rw (pow-zero (nat_abs h * scale), pow-zero q, (orders_grow terms state).starts i) (omega (arith, starts i)) }

    next_order_lem : (k : ℕ) → UnderTo k → (factor : ℕ) → Under (suc k) factor
    unfolding factor_ℤ factor_scale sum_denominator
    next_order_lem k under zero = record { bound = omega arith }
    next_order_lem k under (suc i) = record { bound = rw (pow-suc (nat_abs h * scale) k, pow-suc q k, regrouped (suc k) (q ^ k) q D (M k) scale w G) (by_place (dec_lt i (length state.numerators))) }
      where
        regrouped : (n qk q D M s w G : ℕ) → G * (qk * q) * (M * (n * (D * (s * w)))) ≡ n * (qk * (D * M)) * (G * q) * (s * w)
        regrouped n qk q D M s w G = simp ringℕ

        by_place : Dec (i < length state.numerators) → scale * nat_abs (order (orders_to terms state (suc k)) (suc k) i) * (step k * (nat_abs h * scale)) ≤ suc k * (q ^ k * (D * M k)) * (G * q) * (scale * w)
        by_place (yes lt) =
            rw ((orders_grow terms state).continues k i lt) (next_by_ratio (step k) _ (suc k * (q ^ k * (D * M k))) (weight_of terms G (suc i)) (size G (coefs terms (suc i))) (nat_abs h) w G q (next_under formed k i under) (weight_by_size terms (suc i) (omega (arith, scale_positive))) (slow i lt))
        by_place (no past) = rw ((orders_grow terms state).past (suc k) (suc k) i (le_refl (suc k)) (omega arith)) (omega arith)

    all_under : (k : ℕ) → UnderTo k
    all_under zero l le factor = let e : l ≡ 0 = omega arith in rw e (first_order factor)
    all_under (suc k) l le factor =
        ⊎_elim (λ (e : l ≡ suc k). rw e (next_order_lem k (all_under k) factor)) (λ (lt : l < suc k). all_under k l (omega arith) factor) (eq-or-lt_of_le le)

    pub summand_under : (k i : ℕ) → nat_abs (pos scale *ℤ (order (orders_to terms state k) k i *ℤ pow h k)) * scale ^ k ≤ G * q ^ k * M k
    unfolding factor_ℤ factor_scale
    summand_under k i =
        rw (abs_mul (pos scale) (order (orders_to terms state k) k i *ℤ pow h k), abs_mul (order (orders_to terms state k) k i) (pow h k), regrouped scale (nat_abs (order (orders_to terms state k) k i)) (nat_abs (pow h k)) (scale ^ k), abs_pow h k) (all_under k k (le_refl k) (suc i)).bound
      where
        regrouped : (s y a b : ℕ) → s * (y * a) * b ≡ s * y * (a * b)
        regrouped s y a b = simp ringℕ
