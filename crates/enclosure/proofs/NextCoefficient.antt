-- One more rounded coefficient encloses the exact summand of its order: two factors, the step, the term's coefficient, the sum over the
-- terms, each with its rounding. Nothing is used of `near` and `up` but `within_rounded`.
use Prim.Native.Nat.{ℕ, zero, suc, ◌+◌, ◌-◌, ◌*◌, ◌≤◌, ◌<◌}
use mathlib.Core.Bool.{Bool, true, false, cond}
use mathlib.Core.List.{List}
use mathlib.Core.Path.{◌≡◌, refl, sym, ap, ◌∙◌}
use native.Mathlib.Nat.{add-sub_of_le, sub_self, mul_assoc, add-zero}
use native.Mathlib.Omega.{arith}
use lib.Dec.{eqb}
use lib.IntN.{ℤ, pos, ◌*ℤ◌, one, pow, pos-*ℤ-pos, *ℤ-one, zero-*ℤ, *ℤ-zero, *ℤ_comm}
use lib.ListN.{length, get_or}
use Rattle.rounding.specs.Rounding.{near, up}
use Rattle.rounding.specs.Enclosure.{Within}
use Rattle.rounding.proofs.Integers.{ringℤ, ringℕ, mul_assoc_ℤ}
use Rattle.rounding.proofs.Enclosure.{within_exact, within_factor, within_scaled, within_unscaled, within_product, within_rounded}
use Rattle.ranges.specs.Range.{sum_ℤ}
use Rattle.model.specs.Sheet.{scale, no_term}
use Rattle.enclosure.specs.Exact.{Orders, order, binomial, factor_ℤ, product, next_order, sum_denominator}
use Rattle.model.specs.Step.{brings_ℤ, no_ball, Coefficients, coefficient, factor, brings, product_radius, products, times, share, next_coefficient}
use Rattle.model.specs.declared.Ball.{Ball}
use Rattle.model.specs.declared.Term.{Term}
use Rattle.ranges.proofs.Ranges.{sum_ℤ_equal, sum_ℤ_last, sum_ℤ_factor, within_zero, within_same, within_sums}
use Rattle.laws.proofs.Bounds.Reach.{scale_positive}
use Rattle.enclosure.proofs.Binomial.{binomial_all, binomial_denominators}
use Rattle.enclosure.proofs.Convolution.{product_factored}
use Rattle.enclosure.proofs.Convolution as Convolution

-- u ÷ m lies within a ball
abbrev Inside : ℤ → ℕ → Ball → Type 0
Inside u m ball = Within u m ball.value ball.radius

-- the exact summand of order k, in units s Y H^k ÷ M_k, lies within a ball
abbrev pub SummandInside : ℤ → ℕ → ℕ → ℤ → Ball → Type 0
SummandInside H D k Y ball = Inside (pos scale *ℤ (Y *ℤ pow H k)) (sum_denominator D scale k) ball

pub summand_zero : (H : ℤ) (D k : ℕ) → SummandInside H D k (pos 0) no_ball
unfolding no_ball
summand_zero H D k = rw (zero-*ℤ, *ℤ-zero) (within_zero (sum_denominator D scale k))

pow_add : (H : ℤ) (k l m : ℕ) → l + m ≡ k → pow H l *ℤ pow H m ≡ pow H k
unfolding pow
pow_add H k l zero e = rw (← e, add-zero) (*ℤ-one (pow H l))
pow_add H zero l (suc m) e = absurd (omega arith)
pow_add H (suc k) l (suc m) e = sym (mul_assoc_ℤ (pow H l) (pow H m) H) ∙ ap (λ (z : ℤ). z *ℤ H) (pow_add H k l m (omega arith))

one_mul_ℤ : (z : ℤ) → pos 1 *ℤ z ≡ z
unfolding one
one_mul_ℤ z = *ℤ_comm (pos 1) z ∙ *ℤ-one z

brings_enclosed : (target : ℕ) (term : Term) {u : ℤ} {m : ℕ} {c : ℤ} {e : ℕ} → Within u m c e → Within (brings_ℤ target term u) m (brings_ℤ target term c) (brings target term e)
unfolding brings_ℤ brings
brings_enclosed target term {u} {m} {c} {e} w = either (eqb term.to target)
  where
    either : (b : Bool) → Within (cond b u (pos 0)) m (cond b c (pos 0)) (cond b e 0)
    either true = w
    either false = within_zero m

pub brings_factor : (target : ℕ) (term : Term) (a x : ℤ) → brings_ℤ target term (a *ℤ x) ≡ a *ℤ brings_ℤ target term x
unfolding brings_ℤ
brings_factor target term a x = either (eqb term.to target)
  where
    either : (b : Bool) → cond b (a *ℤ x) (pos 0) ≡ a *ℤ cond b x (pos 0)
    either true = refl
    either false = sym (*ℤ-zero a)

-- From tables of the orders 0 .. d that are enclosed. The denominators multiply to s M_(d+1).
module _ (terms : List Term) (H : ℤ) (D : ℕ) (table : Coefficients) (orders : Orders) (d : ℕ)
    (enclosed : (k i : ℕ) → k ≤ d → SummandInside H D k (order orders k i) (coefficient table k i)) where
  abbrev M : ℕ → ℕ
  M = sum_denominator D scale

  abbrev weight : ℕ → ℤ
  weight k = pos scale *ℤ (pos scale *ℤ pow H k)

  factor_enclosed : (k f : ℕ) → k ≤ d → SummandInside H D k (factor_ℤ D orders k f) (factor table k f)
  unfolding factor factor_ℤ sum_denominator no_ball pow
  factor_enclosed zero zero h = rw *ℤ-one (within_exact (pos scale) D)
  factor_enclosed (suc k) zero h = summand_zero H D (suc k)
  factor_enclosed zero (suc i) h = enclosed zero i h
  factor_enclosed (suc k) (suc i) h = enclosed (suc k) i h

  abbrev split : ℕ → ℕ → ℕ → ℕ → ℤ
  split = Convolution.split D orders

  abbrev convolution : ℕ → ℕ → ℕ → ℤ
  convolution = Convolution.convolution D orders

  absent_after : (m : ℕ) → 0 < m → factor_ℤ D orders m 0 ≡ pos 0
  unfolding factor_ℤ
  absent_after zero h = absurd (omega arith)
  absent_after (suc m) h = refl

  one_factor : (k f : ℕ) → convolution k f 0 ≡ factor_ℤ D orders k f *ℤ pos D
  unfolding factor_ℤ
  one_factor k f = sum_ℤ_last k (split k f 0) before ∙ rw (binomial_all, sub_self) (one_mul_ℤ (factor_ℤ D orders k f *ℤ pos D))
    where
      before : (l : ℕ) → l < k → split k f 0 l ≡ pos 0
      before l h = rw (absent_after (k - l) (omega arith), *ℤ-zero, *ℤ-zero)

  products_enclosed : (k f g : ℕ) → k ≤ d → Inside (weight k *ℤ convolution k f g) (D * M k * scale) (products table k f g)
  unfolding products product_radius
  products_enclosed k f zero h = within_same numerator (swapped D scale (M k)) (within_scaled (D * scale) (factor_enclosed k f h))
    where
      swapped : (a b c : ℕ) → a * b * c ≡ a * c * b
      swapped a b c = simp ringℕ

      out : (d s y p : ℤ) → d *ℤ s *ℤ (s *ℤ (y *ℤ p)) ≡ s *ℤ (s *ℤ p) *ℤ (y *ℤ d)
      out d s y p = simp ringℤ

      numerator : pos (D * scale) *ℤ (pos scale *ℤ (factor_ℤ D orders k f *ℤ pow H k)) ≡ weight k *ℤ convolution k f 0
      numerator = rw (← pos-*ℤ-pos D scale, one_factor) (out (pos D) (pos scale) (factor_ℤ D orders k f) (pow H k))
  products_enclosed k f (suc g) h =
      within_same (sym (sum_ℤ_factor (suc k) (weight k) (split k f (suc g)))) refl (within_sums (suc k) _ _ _ pair)
    where
      out : (c s x p y q : ℤ) → c *ℤ (s *ℤ (x *ℤ p) *ℤ (s *ℤ (y *ℤ q))) ≡ s *ℤ (s *ℤ (p *ℤ q)) *ℤ (c *ℤ (x *ℤ y))
      out c s x p y q = simp ringℤ

      numerator : (l : ℕ) → l ≤ k → pos (binomial k l) *ℤ (pos scale *ℤ (factor_ℤ D orders l f *ℤ pow H l) *ℤ (pos scale *ℤ (factor_ℤ D orders (k - l) (suc g) *ℤ pow H (k - l)))) ≡ weight k *ℤ split k f (suc g) l
      numerator l le =
          out (pos (binomial k l)) (pos scale) (factor_ℤ D orders l f) (pow H l) (factor_ℤ D orders (k - l) (suc g)) (pow H (k - l)) ∙ ap (λ (p : ℤ). pos scale *ℤ (pos scale *ℤ p) *ℤ split k f (suc g) l) (pow_add H k l (k - l) (add-sub_of_le le))

      denominator : (l : ℕ) → l ≤ k → binomial k l * (M l * M (k - l) * scale) ≡ D * M k * scale
      denominator l le =
          sym (mul_assoc (binomial k l) (M l * M (k - l)) scale) ∙ ap (λ (m : ℕ). m * scale) (binomial_denominators D scale k l le)

      pair : (l : ℕ) → l < suc k → Within (weight k *ℤ split k f (suc g) l) (D * M k * scale) (near ((factor table l f).value *ℤ (factor table (k - l) (suc g)).value) scale) (up (product_radius (factor table l f) (factor table (k - l) (suc g))) scale + 1)
      pair l lt = within_same (numerator l (omega arith)) (denominator l (omega arith)) (within_scaled (binomial k l) (within_rounded scale scale_positive (within_product (factor_enclosed l f (omega arith)) (factor_enclosed (k - l) (suc g) (omega arith)))))

  share_enclosed : (term : Term) → Inside (weight (suc d) *ℤ product D orders d term) (D * M d * scale * scale * scale) (share H table d term)
  unfolding share times pow
  share_enclosed term =
      within_same numerator refl (within_rounded scale scale_positive (within_factor term.coef (within_rounded scale scale_positive (within_factor H (products_enclosed d term.first term.second (omega arith))))))
    where
      out : (a h s p x : ℤ) → a *ℤ (h *ℤ (s *ℤ (s *ℤ p) *ℤ x)) ≡ s *ℤ (s *ℤ (p *ℤ h)) *ℤ (a *ℤ x)
      out a h s p x = simp ringℤ

      numerator : term.coef *ℤ (H *ℤ (weight d *ℤ convolution d term.first term.second)) ≡ weight (suc d) *ℤ product D orders d term
      numerator =
          out term.coef H (pos scale) (pow H d) (convolution d term.first term.second) ∙ ap (λ (z : ℤ). weight (suc d) *ℤ z) (sym (product_factored D orders d term))

  pub next_enclosed : (i : ℕ) → SummandInside H D (suc d) (next_order terms D orders d i) (next_coefficient terms H table d i)
  unfolding next_order next_coefficient sum_denominator
  next_enclosed i =
      within_unscaled scale (M (suc d)) scale_positive (within_same numerator (denominator D (M d) scale (suc d)) (within_rounded (suc d) (omega arith) (within_sums (length terms) _ _ _ (λ j h. brings_enclosed (suc i) (get_or terms j no_term) (share_enclosed (get_or terms j no_term))))))
    where
      denominator : (D m s k : ℕ) → D * m * s * s * s * k ≡ s * (m * (k * (D * (s * s))))
      denominator D m s k = simp ringℕ

      out : (s p y : ℤ) → s *ℤ (s *ℤ p) *ℤ y ≡ s *ℤ (s *ℤ (y *ℤ p))
      out s p y = simp ringℤ

      numerator : sum_ℤ (length terms) (λ j. brings_ℤ (suc i) (get_or terms j no_term) (weight (suc d) *ℤ product D orders d (get_or terms j no_term))) ≡ pos scale *ℤ (pos scale *ℤ (next_order terms D orders d i *ℤ pow H (suc d)))
      numerator =
          sum_ℤ_equal (length terms) _ _ (λ j h. brings_factor (suc i) (get_or terms j no_term) (weight (suc d)) (product D orders d (get_or terms j no_term))) ∙ sym (sum_ℤ_factor (length terms) (weight (suc d)) _) ∙ out (pos scale) (pow H (suc d)) (next_order terms D orders d i)
