-- Binomial numbers, and what they do to the common denominators M of the exact sums: C(k,l) · M_l · M_(k−l) = D · M_k, by Pascal's rule and
-- M_(k+1) = M_k · (k+1) · (D s w).
use Prim.Native.Nat.{ℕ, zero, suc, ◌+◌, ◌-◌, ◌*◌, ◌≤◌, ◌<◌}
use mathlib.Core.Path.{◌≡◌, refl, sym, ap, ap₂, ◌∙◌}
use native.Mathlib.Nat.{add-sub_of_le, one-mul, mul_assoc, mul_comm}
use native.Mathlib.Omega.{arith}
use Rattle.rounding.proofs.Integers.{ringℕ}
use Rattle.model.specs.Sheet.{scale}
use Rattle.enclosure.specs.Exact.{binomial, sum_denominator}

pub binomial_over : (k l : ℕ) → k < l → binomial k l ≡ 0
unfolding binomial
binomial_over k zero h = absurd (omega arith)
binomial_over zero (suc l) h = refl
binomial_over (suc k) (suc l) h = omega (arith, binomial_over k l (omega arith), binomial_over k (suc l) (omega arith))

pub binomial_all : (k : ℕ) → binomial k k ≡ 1
unfolding binomial
binomial_all zero = refl
binomial_all (suc k) = omega (arith, binomial_all k, binomial_over k (suc k) (omega arith))

-- C(k,l) = C(k,k−l)
pub binomial_symmetric : (k l m : ℕ) → l + m ≡ k → binomial k l ≡ binomial k m
unfolding binomial
binomial_symmetric k zero m e = let same : k ≡ m = omega (arith, e) in rw same (sym (binomial_all m))
binomial_symmetric k (suc l) zero e = let same : k ≡ suc l = omega (arith, e) in rw same (binomial_all (suc l))
binomial_symmetric zero (suc l) (suc m) e = absurd (omega arith)
binomial_symmetric (suc k) (suc l) (suc m) e = omega (arith, binomial_symmetric k l (suc m) (omega arith), binomial_symmetric k (suc l) m (omega arith))

-- one more by Pascal's rule: a and b are C(k-1,l-1) and C(k-1,l), M and N the denominators at l - 1 and m - 1, X what k - 1 comes to
pascal : (a b M N p l m k X : ℕ) → l + m ≡ k → a * (M * (N * (m * p))) ≡ X → b * (M * (l * p) * N) ≡ X → (a + b) * (M * (l * p) * (N * (m * p))) ≡ X * (k * p)
pascal a b M N p l m k X e left right =
    parted a b M N p l m ∙ ap₂ (λ (x y : ℕ). x * (l * p) + y * (m * p)) left right ∙ joined X l m p ∙ ap (λ (n : ℕ). X * (n * p)) e
  where
    parted : (a b M N p l m : ℕ) → (a + b) * (M * (l * p) * (N * (m * p))) ≡ a * (M * (N * (m * p))) * (l * p) + b * (M * (l * p) * N) * (m * p)
    parted a b M N p l m = simp ringℕ

    joined : (X l m p : ℕ) → X * (l * p) + X * (m * p) ≡ X * ((l + m) * p)
    joined X l m p = simp ringℕ

module _ (D w : ℕ) where
  abbrev M : ℕ → ℕ
  M = sum_denominator D w

  none : (k m : ℕ) → m ≡ k → 1 * (D * M m) ≡ D * M k
  none k m e = rw (e, one-mul)

  all : (k l : ℕ) → l ≡ k → binomial k l * (M l * D) ≡ D * M k
  all k l e = rw (e, binomial_all, one-mul) (mul_comm (M k) D)

  split : (k l m : ℕ) → l + m ≡ k → binomial k l * (M l * M m) ≡ D * M k
  unfolding binomial sum_denominator
  split k zero m e = none k m (omega arith)
  split k (suc l) zero e = all k (suc l) (omega arith)
  split zero (suc l) (suc m) e = absurd (omega arith)
  split (suc k) (suc l) (suc m) e =
      pascal (binomial k l) (binomial k (suc l)) (M l) (M m) (D * (scale * w)) (suc l) (suc m) (suc k) (D * M k) e (split k l (suc m) (omega arith)) (split k (suc l) m (omega arith)) ∙ mul_assoc D (M k) (suc k * (D * (scale * w)))

  pub binomial_denominators : (k l : ℕ) → l ≤ k → binomial k l * (M l * M (k - l)) ≡ D * M k
  binomial_denominators k l h = split k l (k - l) (add-sub_of_le h)
