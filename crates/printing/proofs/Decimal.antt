-- A whole number in decimal: its sign, its last two digits, and how many there are.
use Prim.Native.Char.{code}
use Prim.Native.Nat.{ℕ, zero, suc, ◌^◌, ◌/◌, ◌%◌, ◌≤◌, ◌<◌}
use mathlib.Core.Path.{◌≡◌, refl}
use mathlib.Core.Bool.{true, false}
use mathlib.Core.List.{[], ◌∷◌, ◌++◌, append_assoc}
use mathlib.Core.Logic.{⊎_elim}
use native.Mathlib.Nat.{le_trans, pow-suc, pow-le-pow_right}
use native.Mathlib.Omega.{arith}
use lib.IntN.{ℤ, pos, negsuc, nat_abs}
use lib.ListN.{length, length-append}
use lib.Signed.{lt_z}
use borrow.Author.Tests.{ltb-true}
use Rattle.rounding.proofs.Machine.{not_negative}
use Rattle.model.specs.Answer.{decimal}
use Rattle.printing.specs.Pieces.{pair, sign}
use Rattle.ranges.proofs.Ranges.{before_or_past}
use Rattle.laws.proofs.Text.DecimalText.{decimal_digit, decimal_digits}

-- ---- the sign

pub decimal_signed : (z : ℤ) → decimal z ≡ sign z ++ decimal (pos (nat_abs z))
unfolding decimal
decimal_signed (pos n) = refl
decimal_signed (negsuc n) = refl

pub sign_minus : (z : ℤ) → lt_z z (pos 0) ≡ true → sign z ≡ code "-" ∷ []
sign_minus (pos n) t = absurd (omega (arith, ltb-true n 0 t))
sign_minus (negsuc n) t = refl

pub sign_none : (z : ℤ) → lt_z z (pos 0) ≡ false → sign z ≡ []
sign_none z t = rw (not_negative z t)

-- ---- the last two digits

-- a number of two digits is one pair
pub decimal_pair : (n : ℕ) → 10 ≤ n → n < 100 → decimal (pos n) ≡ pair n
decimal_pair n l h = rw (decimal_digits n l, decimal_digit (n / 10) (omega arith))

-- the hundredth, and the two digits that it leaves
tenth_of_tenth : (n : ℕ) → n / 10 / 10 ≡ n / 100
tenth_of_tenth n = omega arith

tenth_of_rest : (n : ℕ) → n / 10 % 10 ≡ n % 100 / 10
tenth_of_rest n = omega arith

last_of_rest : (n : ℕ) → n % 10 ≡ n % 100 % 10
last_of_rest n = omega arith

-- a larger number has one pair more than its hundredth
pub decimal_pairs : (n : ℕ) → 100 ≤ n → decimal (pos n) ≡ decimal (pos (n / 100)) ++ pair (n % 100)
decimal_pairs n h =
    rw (decimal_digits n (omega arith), decimal_digits (n / 10) (omega arith), append_assoc, tenth_of_tenth n, tenth_of_rest n, last_of_rest n)

-- ---- how many digits there are

tenth_from : (k n : ℕ) → 10 ^ suc k ≤ n → 10 ^ k ≤ n / 10
tenth_from k n h = omega (arith, pow-suc 10 k)

-- one at least ..
pub length_some : (n : ℕ) → 0 < length (decimal (pos n))
length_some n =
    ⊎_elim (λ short. rw (decimal_digit n short) (omega arith)) (λ long. rw (decimal_digits n long, length-append) (omega arith)) (before_or_past n 10)

-- .. and more than k from 10^k on
pub length_from : (k n : ℕ) → 10 ^ k ≤ n → k < length (decimal (pos n))
length_from zero n h = length_some n
length_from (suc k) n h =
    rw (decimal_digits n (le_trans (pow-le-pow_right {n = 10} (omega arith) {i = 1} {j = suc k} (omega arith)) h), length-append) (omega (arith, length_from k (n / 10) (tenth_from k n h)))
