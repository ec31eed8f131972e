-- A number's decimal text: the fuel of its definition does not decide it, it spells the number, without a leading zero, and how long it
-- is at most.
use Prim.Native.Nat.{ℕ, zero, suc, ◌+◌, ◌-◌, ◌*◌, ◌^◌, ◌/◌, ◌%◌, ◌≤◌, ◌<◌}
use Prim.Native.Char.{code}
use Prim.Native.String.{String}
use mathlib.Core.Path.{◌≡◌, refl, sym, ap, ◌∙◌}
use mathlib.Core.Bool.{true}
use mathlib.Core.Logic.{◌≢◌, ⊎_elim}
use mathlib.Core.List.{List, [], ◌∷◌, ◌++◌}
use native.Mathlib.Nat.{pow-suc}
use native.Mathlib.Omega.{arith}
use native.Mathlib.Decide.{dec_lt}
use lib.IntN.{ℤ, pos, negsuc, nat_abs}
use lib.ListN.{length, get_or, length-append, get_or-append}
use borrow.Author.Tests.{lt-ltb, le-ltb, le-leb, leb-true}
use lib.Dec.{leb}
use Rattle.ranges.specs.Range.{bytes}
use Rattle.model.specs.Reading.{is_digit}
use Rattle.model.specs.Answer.{digit, decimal_by, decimal, printed}
use Rattle.ranges.proofs.EveryLaws.{both_true}
use Rattle.ranges.proofs.Ranges.{before_or_past}

-- one digit, and one digit more
short : (fuel : ℕ) {n : ℕ} → n < 10 → decimal_by fuel n ≡ digit n ∷ []
unfolding decimal_by
short zero h = refl
short (suc fuel) {n} h = rw (lt-ltb n 10 h, decimal_by)

long : (fuel : ℕ) {n : ℕ} → 10 ≤ n → decimal_by (suc fuel) n ≡ decimal_by fuel (n / 10) ++ (digit (n % 10) ∷ [])
unfolding decimal_by
long fuel {n} h = rw (le-ltb n 10 h, decimal_by)

-- what holds of each digit, and of a text and one digit more, holds of every number's text
pub decimal_induction : (P : ℕ → List ℕ → Type 0) → ((n : ℕ) → n < 10 → P n (digit n ∷ [])) → ((n : ℕ) (text : List ℕ) → 10 ≤ n → P (n / 10) text → P n (text ++ (digit (n % 10) ∷ []))) → (fuel n : ℕ) → n ≤ fuel → P n (decimal_by fuel n)
decimal_induction P one more zero n h = rw (short zero {n = n} (omega arith)) (one n (omega arith))
decimal_induction P one more (suc fuel) n h = turn (dec_lt n 10) (decimal_induction P one more fuel (n / 10) (omega arith))
  where
    turn : Dec (n < 10) → P (n / 10) (decimal_by fuel (n / 10)) → P n (decimal_by (suc fuel) n)
    turn (yes l) p = rw (short (suc fuel) l) (one n l)
    turn (no f) p = rw (long fuel {n = n} (omega (arith, f))) (more n (decimal_by fuel (n / 10)) (omega (arith, f)) p)

-- any two fuels from n up give the same text
pub fuel_is_free : (fuel other n : ℕ) → n ≤ fuel → n ≤ other → decimal_by fuel n ≡ decimal_by other n
fuel_is_free fuel other n h k = decimal_induction Same one more fuel n h other k
  where
    Same : ℕ → List ℕ → Type 0
    Same n text = (other : ℕ) → n ≤ other → text ≡ decimal_by other n

    one : (n : ℕ) → n < 10 → Same n (digit n ∷ [])
    one n l other k = sym (short other l)

    more : (n : ℕ) (text : List ℕ) → 10 ≤ n → Same (n / 10) text → Same n (text ++ (digit (n % 10) ∷ []))
    more n text l same zero k = absurd (omega arith)
    more n text l same (suc other) k = rw (long other l, same other (omega arith))

pub decimal_digit : (n : ℕ) → n < 10 → decimal (pos n) ≡ digit n ∷ []
unfolding decimal
decimal_digit n h = short n h

pub decimal_digits : (n : ℕ) → 10 ≤ n → decimal (pos n) ≡ decimal (pos (n / 10)) ++ (digit (n % 10) ∷ [])
unfolding decimal
decimal_digits zero h = absurd (omega arith)
decimal_digits (suc m) h =
    long m h ∙ ap (λ (front : List ℕ). front ++ (digit (suc m % 10) ∷ [])) (fuel_is_free m (suc m / 10) (suc m / 10) (omega arith) (omega arith))

-- the number that digits spell, after those that spell `front`
unfoldable pub spells : ℕ → List ℕ → ℕ
spells front [] = front
spells front (b ∷ text) = spells (front * 10 + (b - code "0")) text

spells_append : (front : ℕ) (text more : List ℕ) → spells front (text ++ more) ≡ spells (spells front text) more
unfolding spells
spells_append front [] more = refl
spells_append front (b ∷ text) more = spells_append (front * 10 + (b - code "0")) text more

pub text_spells_number : (fuel n : ℕ) → n ≤ fuel → spells 0 (decimal_by fuel n) ≡ n
unfolding spells digit
text_spells_number fuel n h = decimal_induction (λ n text. spells 0 text ≡ n) (λ n l. omega arith) more fuel n h
  where
    more : (n : ℕ) (text : List ℕ) → 10 ≤ n → spells 0 text ≡ n / 10 → spells 0 (text ++ (digit (n % 10) ∷ [])) ≡ n
    more n text l e = rw (spells_append 0 text (digit (n % 10) ∷ []), e) (omega arith)

-- every byte is a digit, and there is one at least; the first is 0 only where the number is
pub record Digits (n : ℕ) (text : List ℕ) : Type 0 where
  pub digits : (i : ℕ) → i < length text → is_digit (get_or text i 0) ≡ true
  pub some : 0 < length text
  pub no_leading_zero : 0 < n → get_or text 0 0 ≢ code "0"

-- a digit is a byte from `0` to `9`
pub digit_range : {b : ℕ} → is_digit b ≡ true → (48 ≤ b) × (b ≤ 57)
unfolding is_digit
digit_range {b} is =
    let test = both_true (leb (code "0") b) (leb b (code "9")) is in
    (leb-true (code "0") b test.0, leb-true b (code "9") test.1)

digit_is_digit : (n : ℕ) → n < 10 → is_digit (digit n) ≡ true
unfolding digit is_digit
digit_is_digit n l = rw (le-leb (code "0") (code "0" + n) (omega arith), le-leb (code "0" + n) (code "9") (omega arith))

pub text_is_digits : (fuel n : ℕ) → n ≤ fuel → Digits n (decimal_by fuel n)
unfolding digit
text_is_digits fuel n h = decimal_induction Digits one more fuel n h
  where
    alone : (n : ℕ) → n < 10 → (i : ℕ) → i < 1 → is_digit (get_or (digit n ∷ []) i 0) ≡ true
    alone n l zero h = digit_is_digit n l
    alone n l (suc i) h = absurd (omega arith)

    one : (n : ℕ) → n < 10 → Digits n (digit n ∷ [])
    one n l = record { digits = alone n l; some = omega arith; no_leading_zero = λ k. omega arith }

    each : (text : List ℕ) (d i : ℕ) → d < 10 → ((i : ℕ) → i < length text → is_digit (get_or text i 0) ≡ true) → i < length text + 1 → is_digit (get_or (text ++ (digit d ∷ [])) i 0) ≡ true
    each [] d i l h k = alone d l i (omega arith)
    each (b ∷ text) d zero l h k = h 0 (omega arith)
    each (b ∷ text) d (suc i) l h k = each text d i l (λ i k. h (suc i) (omega arith)) (omega arith)

    more : (n : ℕ) (text : List ℕ) → 10 ≤ n → Digits (n / 10) text → Digits n (text ++ (digit (n % 10) ∷ []))
    more n text l d =
        record {
          digits = λ i h. each text (n % 10) i (omega arith) d.digits (omega (arith, length-append text (digit (n % 10) ∷ [])));
          some = omega (arith, d.some, length-append text (digit (n % 10) ∷ []));
          no_leading_zero = λ k. rw (get_or-append text (digit (n % 10) ∷ []) 0 0 d.some) (d.no_leading_zero (omega arith));
        }

-- ---- how long it is

tenth_below : (k n : ℕ) → n < 10 ^ suc (suc k) → n / 10 < 10 ^ suc k
tenth_below k n h = omega (arith, pow-suc 10 (suc k))

-- no more than k digits below 10^k
pub length_below : (k n : ℕ) → 0 < k → n < 10 ^ k → length (decimal (pos n)) ≤ k
length_below zero n l h = absurd (omega arith)
length_below (suc zero) n l h = rw (decimal_digit n h) (omega arith)
length_below (suc (suc k)) n l h =
    ⊎_elim
    (λ short. rw (decimal_digit n short) (omega arith))
    (λ long. rw (decimal_digits n long, length-append) (omega (arith, length_below (suc k) (n / 10) (omega arith) (tenth_below k n h))))
    (before_or_past n 10)

-- a sign, and no more than k digits
pub length_signed : (k : ℕ) (z : ℤ) → 0 < k → nat_abs z < 10 ^ k → length (decimal z) ≤ suc k
unfolding decimal
length_signed k (pos n) l h = omega (arith, length_below k n l h)
length_signed k (negsuc n) l h = omega (arith, length_below k (suc n) l h)

-- a line: its key, its number and two bytes more
pub length_printed : (key : String) (z : ℤ) → length (printed key z) ≡ length (bytes key) + length (decimal z) + 2
unfolding printed bytes
length_printed key z =
    omega
    (arith, length-append (bytes key ++ bytes "=" ++ decimal z) (bytes "\n"), length-append (bytes key ++ bytes "=") (decimal z), length-append (bytes key) (bytes "="))
