-- What a term brings to an exact order: its coefficient times a convolution of its factors, which does not mind their order.
use Prim.Native.Nat.{ℕ, suc, ◌-◌, ◌<◌}
use mathlib.Core.Path.{◌≡◌, sym, ◌∙◌}
use native.Mathlib.Omega.{arith}
use lib.IntN.{ℤ, pos, ◌*ℤ◌}
use Rattle.rounding.proofs.Integers.{ringℤ}
use Rattle.ranges.specs.Range.{sum_ℤ}
use Rattle.enclosure.specs.Exact.{Orders, binomial, factor_ℤ, product}
use Rattle.model.specs.declared.Term.{Term}
use Rattle.ranges.proofs.Ranges.{sum_ℤ_equal, sum_ℤ_factor, sum_ℤ_reversed}
use Rattle.enclosure.proofs.Binomial.{binomial_symmetric}

module _ (D : ℕ) (orders : Orders) where
  -- C(k,l) × Y_l(f) × Y_(k-l)(g), and the sum of these over l = 0..k
  abbrev pub split : ℕ → ℕ → ℕ → ℕ → ℤ
  split k f g l = pos (binomial k l) *ℤ (factor_ℤ D orders l f *ℤ factor_ℤ D orders (k - l) g)

  abbrev pub convolution : ℕ → ℕ → ℕ → ℤ
  convolution k f g = sum_ℤ (suc k) (split k f g)

  pub product_factored : (k : ℕ) (term : Term) → product D orders k term ≡ term.coef *ℤ convolution k term.first term.second
  unfolding product
  product_factored k term =
      sum_ℤ_equal (suc k) _ _ (λ l h. out (pos (binomial k l)) term.coef (factor_ℤ D orders l term.first) (factor_ℤ D orders (k - l) term.second)) ∙ sym (sum_ℤ_factor (suc k) term.coef (split k term.first term.second))
    where
      out : (c a x y : ℤ) → c *ℤ a *ℤ x *ℤ y ≡ a *ℤ (c *ℤ (x *ℤ y))
      out c a x y = simp ringℤ

  pub convolution_either_way : (k f g : ℕ) → convolution k f g ≡ convolution k g f
  convolution_either_way k f g = sum_ℤ_reversed k (split k f g) ∙ sum_ℤ_equal (suc k) _ _ opposite
    where
      out : (c x y : ℤ) → c *ℤ (x *ℤ y) ≡ c *ℤ (y *ℤ x)
      out c x y = simp ringℤ

      back : (l : ℕ) → l < suc k → k - (k - l) ≡ l
      back l h = omega arith

      opposite : (l : ℕ) → l < suc k → split k f g (k - l) ≡ split k g f l
      opposite l h =
          rw (back l h, binomial_symmetric k (k - l) l (omega arith)) (out (pos (binomial k l)) (factor_ℤ D orders (k - l) f) (factor_ℤ D orders l g))
