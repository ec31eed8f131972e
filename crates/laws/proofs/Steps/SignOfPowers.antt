-- The coefficients of a step back beside those of the step forward of the same length, from the same values and radii: order k is the same, times
-- (-1)^k, with the same radius.
use Prim.Native.Nat.{ℕ, zero, suc, ◌+◌, ◌-◌, ◌*◌, ◌≤◌, ◌<◌}
use mathlib.Core.Bool.{Bool, true, false, cond}
use mathlib.Core.List.{List}
use mathlib.Core.Logic.{⊎_elim}
use mathlib.Core.Path.{◌≡◌, refl, sym, ap, ap₂, ◌∙◌}
use native.Mathlib.Nat.{eq-or-lt_of_le, zero-add, suc-add}
use native.Mathlib.Omega.{arith}
use lib.Dec.{eqb}
use lib.IntN.{ℤ, pos, neg_ℤ, nat_abs, ◌+ℤ◌, ◌*ℤ◌, neg_ℤ-+ℤ}
use lib.ListN.{length, get_or}
use Rattle.rounding.specs.Rounding.{near, up}
use Rattle.rounding.proofs.Integers.{neg_mul_ℤ, mul_neg_ℤ, abs_neg}
use Rattle.rounding.proofs.Roundings.{near_neg}
use Rattle.ranges.specs.Range.{sum, sum_ℤ}
use Rattle.model.specs.Sheet.{scale, no_term}
use Rattle.model.specs.Step.{brings_ℤ, no_ball, brings, Coefficients, coefficient, factor, product_radius, products, times, share, next_coefficient, coefficients_to}
use Rattle.model.specs.declared.Ball.{Ball}
use Rattle.model.specs.declared.Term.{Term}
use Rattle.ranges.proofs.Ranges.{sum_equal, sum_ℤ_equal, before_or_past}
use Rattle.laws.proofs.Bounds.Reach.{scale_positive}
use Rattle.laws.proofs.Steps.Tables.{coefficients_grow}

-- ---- (-1)^k times a number

pub turn : ℕ → ℤ → ℤ
turn zero z = z
turn (suc k) z = neg_ℤ (turn k z)

turn_zero : (k : ℕ) → turn k (pos 0) ≡ pos 0
unfolding turn
turn_zero zero = refl
turn_zero (suc k) = ap neg_ℤ (turn_zero k)

abs_turn : (k : ℕ) (z : ℤ) → nat_abs (turn k z) ≡ nat_abs z
unfolding turn
abs_turn zero z = refl
abs_turn (suc k) z = abs_neg (turn k z) ∙ abs_turn k z

mul_turn : (k : ℕ) (a b : ℤ) → a *ℤ turn k b ≡ turn k (a *ℤ b)
unfolding turn
mul_turn zero a b = refl
mul_turn (suc k) a b = mul_neg_ℤ a (turn k b) ∙ ap neg_ℤ (mul_turn k a b)

turn_mul_turn : (l m : ℕ) (a b : ℤ) → turn l a *ℤ turn m b ≡ turn (l + m) (a *ℤ b)
unfolding turn
turn_mul_turn zero m a b = rw (zero-add m) (mul_turn m a b)
turn_mul_turn (suc l) m a b = rw (suc-add l m) (neg_mul_ℤ (turn l a) (turn m b) ∙ ap neg_ℤ (turn_mul_turn l m a b))

near_turn : (k : ℕ) (n : ℤ) {d : ℕ} → 0 < d → near (turn k n) d ≡ turn k (near n d)
unfolding turn
near_turn zero n h = refl
near_turn (suc k) n h = near_neg (turn k n) h ∙ ap neg_ℤ (near_turn k n h)

sum_neg : (n : ℕ) (f : ℕ → ℤ) → sum_ℤ n (λ l. neg_ℤ (f l)) ≡ neg_ℤ (sum_ℤ n f)
unfolding sum_ℤ
sum_neg zero f = refl
sum_neg (suc n) f = ap (λ (z : ℤ). z +ℤ neg_ℤ (f n)) (sum_neg n f) ∙ sym (neg_ℤ-+ℤ (sum_ℤ n f) (f n))

sum_turn : (k n : ℕ) (f : ℕ → ℤ) → sum_ℤ n (λ l. turn k (f l)) ≡ turn k (sum_ℤ n f)
unfolding turn
sum_turn zero n f = refl
sum_turn (suc k) n f = sum_neg n (λ l. turn k (f l)) ∙ ap neg_ℤ (sum_turn k n f)

-- ---- coefficients

-- a ball whose value is so turned
abbrev pub turned : ℕ → Ball → Ball
turned k ball = record { value = turn k ball.value; radius = ball.radius }

turned_none : (k : ℕ) → no_ball ≡ turned k no_ball
unfolding no_ball
turned_none k = ap (λ (z : ℤ). record { value = z; radius = 0 }) (sym (turn_zero k))

-- times a number, and times one with a minus
times_turned : (a : ℤ) (k : ℕ) (ball : Ball) → times a (turned k ball) ≡ turned k (times a ball)
unfolding times
times_turned a k ball =
    ap (λ (z : ℤ). record { value = z; radius = up (nat_abs a * ball.radius) scale + 1 })
    (ap (λ (z : ℤ). near z scale) (mul_turn k a ball.value) ∙ near_turn k (a *ℤ ball.value) scale_positive)

times_back : (H : ℤ) (k : ℕ) (ball : Ball) → times (neg_ℤ H) (turned k ball) ≡ turned (suc k) (times H ball)
unfolding times turn
times_back H k ball =
    ap₂ (λ (z : ℤ) (m : ℕ). record { value = z; radius = up (m * ball.radius) scale + 1 })
    (ap (λ (z : ℤ). near z scale) (neg_mul_ℤ H (turn k ball.value) ∙ ap neg_ℤ (mul_turn k H ball.value)) ∙ near_turn (suc k) (H *ℤ ball.value) scale_positive)
    (abs_neg H)

-- |c|×e' + |c'|×e + e×e' has no sign
product_radius_turned : (l m : ℕ) (a b : Ball) → product_radius (turned l a) (turned m b) ≡ product_radius a b
unfolding product_radius
product_radius_turned l m a b =
    ap₂ (λ (x y : ℕ). x * b.radius + y * a.radius + a.radius * b.radius) (abs_turn l a.value) (abs_turn m b.value)

-- the coefficients of one table up to order d are those of the other, turned
pub record Turned (forth back : Coefficients) (d : ℕ) : Type 0 where
  pub is : (k i : ℕ) → k ≤ d → coefficient back k i ≡ turned k (coefficient forth k i)

module _ {forth back : Coefficients} {k : ℕ} (tables : Turned forth back k) where
  factor_turned : (l i : ℕ) → l ≤ k → factor back l i ≡ turned l (factor forth l i)
  unfolding factor turn
  factor_turned zero zero h = refl
  factor_turned (suc l) zero h = turned_none (suc l)
  factor_turned l (suc i) h = tables.is l i h

  products_turned : (first second : ℕ) → products back k first second ≡ turned k (products forth k first second)
  unfolding products
  products_turned first zero = factor_turned k first (omega arith)
  products_turned first (suc second) =
      ap₂ (λ (z : ℤ) (m : ℕ). record { value = z; radius = m }) (sum_ℤ_equal (suc k) _ _ value ∙ sum_turn k (suc k) _) (sum_equal (suc k) _ _ radius)
    where
      value : (l : ℕ) → l < suc k → near ((factor back l first).value *ℤ (factor back (k - l) (suc second)).value) scale ≡ turn k (near ((factor forth l first).value *ℤ (factor forth (k - l) (suc second)).value) scale)
      value l h =
          let whole : l + (k - l) ≡ k = omega arith in
          rw (factor_turned l first (omega arith), factor_turned (k - l) (suc second) (omega arith), turn_mul_turn l (k - l) (factor forth l first).value (factor forth (k - l) (suc second)).value, whole)
          (near_turn k ((factor forth l first).value *ℤ (factor forth (k - l) (suc second)).value) scale_positive)

      radius : (l : ℕ) → l < suc k → up (product_radius (factor back l first) (factor back (k - l) (suc second))) scale + 1 ≡ up (product_radius (factor forth l first) (factor forth (k - l) (suc second))) scale + 1
      radius l h =
          rw (factor_turned l first (omega arith), factor_turned (k - l) (suc second) (omega arith), product_radius_turned l (k - l) (factor forth l first) (factor forth (k - l) (suc second)))

  share_turned : (H : ℤ) (term : Term) → share (neg_ℤ H) back k term ≡ turned (suc k) (share H forth k term)
  unfolding share
  share_turned H term =
      rw (products_turned term.first term.second, times_back H k (products forth k term.first term.second))
      (times_turned term.coef (suc k) (times H (products forth k term.first term.second)))

  next_turned : (terms : List Term) (H : ℤ) (i : ℕ) → next_coefficient terms (neg_ℤ H) back k i ≡ turned (suc k) (next_coefficient terms H forth k i)
  unfolding next_coefficient
  next_turned terms H i =
      ap₂ (λ (z : ℤ) (m : ℕ). record { value = near z (suc k); radius = up m (suc k) + 1 }) (sum_ℤ_equal (length terms) _ _ (λ j h. value (get_or terms j no_term)) ∙ sum_turn (suc k) (length terms) _) (sum_equal (length terms) _ _ (λ j h. radius (get_or terms j no_term)))
      ∙ ap (λ (z : ℤ). record { value = z; radius = up (sum (length terms) (λ j. brings (suc i) (get_or terms j no_term) (share H forth k (get_or terms j no_term)).radius)) (suc k) + 1 }) (near_turn (suc k) _ (omega arith))
    where
      brings_turned : (term : Term) (x : ℤ) (b : Bool) → cond b (turn (suc k) x) (pos 0) ≡ turn (suc k) (cond b x (pos 0))
      brings_turned term x true = refl
      brings_turned term x false = sym (turn_zero (suc k))

      value : (term : Term) → brings_ℤ (suc i) term (share (neg_ℤ H) back k term).value ≡ turn (suc k) (brings_ℤ (suc i) term (share H forth k term).value)
      value term = unfold brings_ℤ in rw (share_turned H term) (brings_turned term (share H forth k term).value (eqb term.to (suc i)))

      radius : (term : Term) → brings (suc i) term (share (neg_ℤ H) back k term).radius ≡ brings (suc i) term (share H forth k term).radius
      radius term = ap (λ (ball : Ball). brings (suc i) term ball.radius) (share_turned H term)

-- ---- every order

module _ (terms : List Term) (H : ℤ) (balls : List Ball) where
  abbrev pub forth : ℕ → Coefficients
  forth = coefficients_to terms H balls

  abbrev pub back : ℕ → Coefficients
  back = coefficients_to terms (neg_ℤ H) balls

  pub coefficients_turned : (d : ℕ) → Turned (forth d) (back d) d
  unfolding turn
  coefficients_turned zero = record { is = first }
    where
      first : (k i : ℕ) → k ≤ 0 → coefficient (back 0) k i ≡ turned k (coefficient (forth 0) k i)
      first zero i h = (coefficients_grow terms (neg_ℤ H) balls).starts i ∙ sym ((coefficients_grow terms H balls).starts i)
      first (suc k) i h = absurd (omega arith)
  coefficients_turned (suc d) = next (coefficients_turned d)
    where
      next : Turned (forth d) (back d) d → Turned (forth (suc d)) (back (suc d)) (suc d)
      next before = record { is = λ k i h. ⊎_elim (last k i) (earlier k i) (eq-or-lt_of_le {n = k} {m = suc d} h) }
        where
          entry : (i : ℕ) → coefficient (back (suc d)) (suc d) i ≡ turned (suc d) (coefficient (forth (suc d)) (suc d) i)
          entry i = ⊎_elim held past (before_or_past i (length balls))
            where
              held : i < length balls → coefficient (back (suc d)) (suc d) i ≡ turned (suc d) (coefficient (forth (suc d)) (suc d) i)
              held l = (coefficients_grow terms (neg_ℤ H) balls).continues d i l ∙ next_turned before terms H i ∙ ap (turned (suc d)) (sym ((coefficients_grow terms H balls).continues d i l))

              past : length balls ≤ i → coefficient (back (suc d)) (suc d) i ≡ turned (suc d) (coefficient (forth (suc d)) (suc d) i)
              past l = (coefficients_grow terms (neg_ℤ H) balls).past (suc d) (suc d) i (omega arith) l ∙ turned_none (suc d) ∙ ap (turned (suc d)) (sym ((coefficients_grow terms H balls).past (suc d) (suc d) i (omega arith) l))

          last : (k i : ℕ) → k ≡ suc d → coefficient (back (suc d)) k i ≡ turned k (coefficient (forth (suc d)) k i)
          last k i e = rw e (entry i)

          earlier : (k i : ℕ) → k < suc d → coefficient (back (suc d)) k i ≡ turned k (coefficient (forth (suc d)) k i)
          earlier k i l =
              (coefficients_grow terms (neg_ℤ H) balls).stays (suc d) k i (omega arith) ∙ sym ((coefficients_grow terms (neg_ℤ H) balls).stays d k i (omega arith)) ∙ before.is k i (omega arith)
              ∙ ap (turned k) ((coefficients_grow terms H balls).stays d k i (omega arith) ∙ sym ((coefficients_grow terms H balls).stays (suc d) k i (omega arith)))
