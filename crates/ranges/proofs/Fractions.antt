-- Fractions of whole numbers, the same where cross-multiplication says so: their sums and products over a denominator.
use Prim.Native.Nat.{ℕ, zero, suc, ◌*◌, ◌<◌}
use mathlib.Core.Path.{◌≡◌, refl, sym, ap, ap₂, ◌∙◌}
use native.Mathlib.Nat.{mul_comm}
use native.Mathlib.Omega.{arith}
use lib.IntN.{ℤ, pos, ◌+ℤ◌, ◌*ℤ◌, *ℤ_comm, zero-*ℤ}
use Rattle.rounding.proofs.Integers.{ringℤ}
use Rattle.ranges.specs.Range.{sum_ℤ}
use Rattle.ranges.proofs.Ranges.{below}

pub record Fraction : Type 0 where
  pub numerator : ℤ
  pub denominator : ℕ

infix 60 ◌÷◌
abbrev pub ◌÷◌ : ℤ → ℕ → Fraction
u ÷ m = record { numerator = u; denominator = m }

-- the same number, by cross-multiplication
infix 40 ◌≃◌
pub record ◌≃◌ (a b : Fraction) : Type 0 where
  pub cross : a.numerator *ℤ pos b.denominator ≡ b.numerator *ℤ pos a.denominator

abbrev pub plus : Fraction → Fraction → Fraction
plus a b = (a.numerator *ℤ pos b.denominator +ℤ b.numerator *ℤ pos a.denominator) ÷ (a.denominator * b.denominator)

abbrev pub times : Fraction → Fraction → Fraction
times a b = (a.numerator *ℤ b.numerator) ÷ (a.denominator * b.denominator)

-- f 0 + .. + f (n - 1)
unfoldable pub total : ℕ → (ℕ → Fraction) → Fraction
total zero f = pos 0 ÷ 1
total (suc n) f = plus (total n f) (f n)

pub plus_over : {a b : Fraction} {u v : ℤ} {m : ℕ} → a ≃ u ÷ m → b ≃ v ÷ m → plus a b ≃ (u +ℤ v) ÷ m
plus_over {a} {b} {u} {v} {m} h k =
    record {
      cross = parted a.numerator b.numerator (pos a.denominator) (pos b.denominator) (pos m)
          ∙ ap₂ (λ (x y : ℤ). x *ℤ pos b.denominator +ℤ y *ℤ pos a.denominator) h.cross k.cross
          ∙ joined u v (pos a.denominator) (pos b.denominator);
    }
  where
    parted : (x y A B M : ℤ) → (x *ℤ B +ℤ y *ℤ A) *ℤ M ≡ x *ℤ M *ℤ B +ℤ y *ℤ M *ℤ A
    parted x y A B M = simp ringℤ

    joined : (u v A B : ℤ) → u *ℤ A *ℤ B +ℤ v *ℤ B *ℤ A ≡ (u +ℤ v) *ℤ (A *ℤ B)
    joined u v A B = simp ringℤ

regroup : (a b c d : ℤ) → a *ℤ b *ℤ (c *ℤ d) ≡ a *ℤ c *ℤ (b *ℤ d)
regroup a b c d = simp ringℤ

pub times_over : {a b : Fraction} {u v : ℤ} {m n : ℕ} → a ≃ u ÷ m → b ≃ v ÷ n → times a b ≃ (u *ℤ v) ÷ (m * n)
times_over {a} {b} {u} {v} {m} {n} h k =
    record {
      cross = regroup a.numerator b.numerator (pos m) (pos n)
          ∙ ap₂ (λ (x y : ℤ). x *ℤ y) h.cross k.cross
          ∙ regroup u (pos a.denominator) v (pos b.denominator);
    }

-- a factor on numerator and denominator
pub over_multiple : (c : ℕ) {a : Fraction} {u : ℤ} {m n : ℕ} → c * m ≡ n → a ≃ u ÷ m → a ≃ (pos c *ℤ u) ÷ n
over_multiple c {a} {u} {m} {n} e h =
    record {
      cross = ap (λ (k : ℕ). a.numerator *ℤ pos k) (sym e)
          ∙ moved a.numerator (pos c) (pos m)
          ∙ ap (λ (z : ℤ). pos c *ℤ z) h.cross
          ∙ grouped (pos c) u (pos a.denominator);
    }
  where
    moved : (x c m : ℤ) → x *ℤ (c *ℤ m) ≡ c *ℤ (x *ℤ m)
    moved x c m = simp ringℤ

    grouped : (c u d : ℤ) → c *ℤ (u *ℤ d) ≡ c *ℤ u *ℤ d
    grouped c u d = simp ringℤ

pub over_multiplied : (c : ℕ) {a : Fraction} {u : ℤ} {m : ℕ} → a ≃ u ÷ m → a ≃ (u *ℤ pos c) ÷ (m * c)
over_multiplied c {a} {u} {m} h = rw (*ℤ_comm u (pos c)) (over_multiple c (mul_comm c m) h)

pub turned : {a b : Fraction} → a ≃ b → b ≃ a
turned e = record { cross = sym e.cross }

pub itself : (a : Fraction) → a ≃ a
itself a = record { cross = refl }

pub nothing_over : (m : ℕ) → pos 0 ÷ 1 ≃ pos 0 ÷ m
nothing_over m = record { cross = zero-*ℤ (pos m) }

pub total_over : (n : ℕ) (f : ℕ → Fraction) (u : ℕ → ℤ) (m : ℕ) → ((i : ℕ) → i < n → f i ≃ u i ÷ m) → total n f ≃ sum_ℤ n u ÷ m
unfolding total sum_ℤ
total_over zero f u m h = nothing_over m
total_over (suc n) f u m h = plus_over (total_over n f u m (below n h)) (h n (omega arith))
