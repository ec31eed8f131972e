-- Whole numbers in signed machine words: what fits, and what the bits stand for.
use Prim.Native.Nat.{ℕ, zero, suc, ◌-◌, ◌^◌, ◌≤◌, ◌<◌}
use mathlib.Core.Path.{◌≡◌, refl, ap, ◌∙◌}
use mathlib.Core.Bool.{Bool, true, false}
use native.Mathlib.Omega.{arith}
use native.Mathlib.Nat.{zero-add}
use borrow.Author.Tests.{ltb-true}
use lib.IntN.{+ℤ_one, ℤ, pos, negsuc, neg_ℤ, nat_abs, ◌+ℤ◌, ◌-ℤ◌}
use lib.Signed.{mag, lt_z}
use mir.Syntax.{Width, w64}
use mir.Val.{SFits, hbits, to_z, of_z}
use mir.Facts.{to_z-of_z}

mag_le_abs : (z : ℤ) → mag z ≤ nat_abs z
mag_le_abs (pos n) = omega arith
mag_le_abs (negsuc n) = omega arith

-- a magnitude below half the width's power fits
pub sfits_abs : {w : Width} {z : ℤ} → nat_abs z < 2 ^ hbits w → SFits w z
sfits_abs {w} {z} h = record { sfits = omega (arith, mag_le_abs z) }

pub abs_of_fits : {w : Width} {z : ℤ} → SFits w z → nat_abs z ≤ 2 ^ hbits w
abs_of_fits {w} {z = pos n} f = omega (arith, f.sfits)
abs_of_fits {w} {z = negsuc n} f = f.sfits

-- a number of which it is known what it is, and that it is below 2^62: it fits 64 bits, and its bits stand for it
pub below_fits : {z x : ℤ} → z ≡ x → nat_abs x < 2 ^ 62 → SFits w64 z
below_fits e small = rw e (sfits_abs (omega arith))

pub bits_are : {z x : ℤ} → z ≡ x → nat_abs x < 2 ^ 62 → to_z w64 (of_z w64 z) ≡ x
bits_are e small = to_z-of_z (below_fits e small) ∙ e

-- ---- a number's sign, as a test of the code has it

-- of the number itself, and not of its bits
pub sign_test : {w : Width} {b : Bool} {n : ℤ} → SFits w n → lt_z (to_z w (of_z w n)) (pos 0) ≡ b → lt_z n (pos 0) ≡ b
sign_test f h = rw (to_z-of_z f) at h

-- what is said of a number's bits, said of the number itself; and of its magnitude
pub of_number : {w : Width} {A : Type 0} (f : ℤ → A) {n : ℤ} {a : A} → SFits w n → a ≡ f (to_z w (of_z w n)) → a ≡ f n
of_number f fits e = e ∙ ap f (to_z-of_z fits)

pub magnitude_is : {w : Width} {n : ℤ} {m : ℕ} → SFits w n → m ≡ nat_abs (to_z w (of_z w n)) → m ≡ nat_abs n
magnitude_is = of_number nat_abs

pub negative_abs : (n : ℤ) → lt_z n (pos 0) ≡ true → 1 ≤ nat_abs n
negative_abs (pos n) t = absurd (omega (arith, ltb-true n 0 t))
negative_abs (negsuc k) t = omega arith

pub not_negative : (n : ℤ) → lt_z n (pos 0) ≡ false → n ≡ pos (nat_abs n)
not_negative (pos n) t = refl
not_negative (negsuc k) t = absurd (let z : ◌≡◌ {A = ℕ} 0 1 = cc in omega arith)

-- ---- one more than a negative number, and its negation

next_negsuc : (k : ℕ) → negsuc k +ℤ pos 1 ≡ neg_ℤ (pos k)
next_negsuc zero = refl
next_negsuc (suc k) = +ℤ_one (negsuc (suc k))

pub next_of_negative : (n : ℤ) → lt_z n (pos 0) ≡ true → n +ℤ pos 1 ≡ neg_ℤ (pos (nat_abs n - 1))
next_of_negative (pos n) t = absurd (omega (arith, ltb-true n 0 t))
next_of_negative (negsuc k) t = next_negsuc k ∙ ap (λ (m : ℕ). neg_ℤ (pos m)) one_less
  where
    one_less : k ≡ suc k - 1
    one_less = omega arith

pub minus_neg : (m : ℕ) → pos 0 -ℤ neg_ℤ (pos m) ≡ pos m
minus_neg zero = refl
minus_neg (suc m) = ap pos (zero-add (suc m))

pub one_below : (k : ℕ) → negsuc 0 -ℤ pos k ≡ negsuc k
one_below zero = refl
one_below (suc k) = ap (λ (n : ℕ). negsuc (suc n)) (zero-add k)
