-- A number digit by digit: one step of the definitions, by the digit at the front of the bytes, and how large the number is by then.
use Rattle.std.proofs.Common.{◌≡◌, ◌≢◌, ℕ, suc, ◌+◌, ◌-◌, ◌*◌, ◌^◌, ◌<◌, ◌≤◌, Bool, true, false, cond, List, [], ◌∷◌, Option, Some, None, pos, refl, sym, ap, ◌∙◌, add-one, arith}
use Prim.Native.Char.{code}
use borrow.Author.Tests.{eq-eqb, ne_eqb}
use native.Mathlib.Nat.{pow-suc, pow-le-pow_right}
use Rattle.std.proofs.lemmas.Option.{some_pair_parts}
use mir.Syntax.{w64}
use mir.Val.{to_z}
use mir.Facts.{to_z_pos}
use Rattle.model.specs.Sheet.{most_digits}
use Rattle.model.specs.Reading.{spelled, wrong, is_digit, digits, natural}
use Rattle.laws.proofs.Text.DecimalText.{digit_range}
use Rattle.lines.specs.Lines.{front_digit}

-- a front byte as a digit, if it is one
abbrev as_digit : Bool → ℕ → List ℕ → Option (ℕ × List ℕ)
as_digit t b rest = cond t (Some (b - code "0", rest)) None

-- a front digit, as the byte that it is
pub record DigitFirst (l : List ℕ) (d : ℕ) (after : List ℕ) : Type 0 where
  pub byte : ℕ
  pub byte_is_digit : is_digit byte ≡ true
  pub value : byte - 48 ≡ d
  pub front : l ≡ byte ∷ after

pub digit_first : (l : List ℕ) {d : ℕ} {m : List ℕ} → front_digit l ≡ Some (d, m) → DigitFirst l d m
unfolding front_digit
digit_first [] e = absurd cc
digit_first (b ∷ rest) {d} {m} e = go (is_digit b) refl e
  where
    go : (t : Bool) → is_digit b ≡ t → as_digit t b rest ≡ Some (d, m) → DigitFirst (b ∷ rest) d m
    go true t e = let parts = some_pair_parts (b - code "0") d rest m e in record { byte = b; byte_is_digit = t; value = parts.0; front = ap (λ (l : List ℕ). b ∷ l) parts.1 }
    go false t e = absurd cc

pub digit_small : (l : List ℕ) {d : ℕ} {m : List ℕ} → front_digit l ≡ Some (d, m) → d < 10
digit_small l e = let f = digit_first l e in omega (arith, f.value, digit_range f.byte_is_digit)

-- ---- a number that begins with a digit

pub natural_wrong : (l : List ℕ) → front_digit l ≡ None → natural l ≡ wrong
unfolding natural front_digit
natural_wrong [] e = refl
natural_wrong (b ∷ rest) e = go (is_digit b) refl e
  where
    go : (t : Bool) → is_digit b ≡ t → as_digit t b rest ≡ None → natural (b ∷ rest) ≡ wrong
    go true t e = absurd cc
    go false t e = rw (t, natural)

pub natural_zero : (l : List ℕ) {d : ℕ} {m : List ℕ} → front_digit l ≡ Some (d, m) → d ≡ 0 → natural l ≡ spelled (pos 0) m
unfolding natural
natural_zero l e zero_is = let f = digit_first l e in rw (f.front, f.byte_is_digit, eq-eqb f.byte 48 (omega (arith, f.value, digit_range f.byte_is_digit)), natural)

pub natural_digits : (l : List ℕ) {d : ℕ} {m : List ℕ} → front_digit l ≡ Some (d, m) → d ≢ 0 → natural l ≡ digits (most_digits - 1) d m
unfolding natural
natural_digits l e not-zero =
    let f = digit_first l e in
    rw (f.front, f.byte_is_digit, ne_eqb f.byte 48 (λ (e : f.byte ≡ 48). not-zero (omega (arith, f.value))), natural, f.value)

-- what a number is, by its first digit
pub ruleset first_digits = (digit_small, natural_wrong, natural_zero, natural_digits)

-- ---- the digits after the first

digits_go : (more value : ℕ) (l : List ℕ) {d : ℕ} {m : List ℕ} → front_digit l ≡ Some (d, m) → digits (suc more) value l ≡ digits more (value * 10 + d) m
unfolding digits
digits_go more value l e = let f = digit_first l e in rw (f.front, f.byte_is_digit, digits, f.value)

digits_stop : (more value : ℕ) (l : List ℕ) → front_digit l ≡ None → digits (suc more) value l ≡ spelled (pos value) l
unfolding digits front_digit
digits_stop more value [] e = refl
digits_stop more value (b ∷ rest) e = go (is_digit b) refl e
  where
    go : (t : Bool) → is_digit b ≡ t → as_digit t b rest ≡ None → digits (suc more) value (b ∷ rest) ≡ spelled (pos value) (b ∷ rest)
    go true t e = absurd cc
    go false t e = rw (t, digits)

-- at most nine digits fit
pub few_digits : {value read : ℕ} → read ≤ most_digits → value < 10 ^ read → value < 1000000000
few_digits h below = omega (arith, pow-le-pow_right {n = 10} (omega arith) h)

pub few_as_number : {value read : ℕ} → read ≤ most_digits → value < 10 ^ read → to_z w64 value ≡ pos value
few_as_number {value} h below = to_z_pos w64 {n = value} (omega (arith, few_digits h below))

one_less : {read : ℕ} → read < most_digits → most_digits - read ≡ suc (most_digits - (read + 1))
one_less h = omega arith

module _ (read value : ℕ) (l : List ℕ) where
  pub stopped : read < most_digits → value < 10 ^ read → None ≡ front_digit l → spelled (to_z w64 value) l ≡ digits (most_digits - read) value l
  stopped h small e = rw (few_as_number {read = read} (omega arith) small) (sym (ap (λ (more : ℕ). digits more value l) (one_less h) ∙ digits_stop (most_digits - (read + 1)) value l (sym e)))

  pub none_left : read ≡ most_digits → value < 10 ^ read → spelled (to_z w64 value) l ≡ digits (most_digits - read) value l
  unfolding digits
  none_left h small = rw (few_as_number {read = read} (omega arith) small) (ap (λ (more : ℕ). digits more value l) none)
    where
      none : 0 ≡ most_digits - read
      none = omega arith

  module _ {ten d : ℕ} {m : List ℕ} (is-ten : ten ≡ 10) (h : read < most_digits) (here : Some (d, m) ≡ front_digit l) where
    pub tenfold : value < 10 ^ read → value * ten + d < 10 ^ (read + 1)
    tenfold small = rw (is-ten, add-one read, pow-suc) (omega (arith, digit_small l (sym here)))

    pub tenfold_few : value < 10 ^ read → value * ten + d < 1000000000
    tenfold_few small = few_digits {read = read + 1} (omega arith) (tenfold small)

    pub one_more : digits (most_digits - (read + 1)) (value * ten + d) m ≡ digits (most_digits - read) value l
    one_more = rw is-ten (sym (ap (λ (more : ℕ). digits more value l) (one_less h) ∙ digits_go (most_digits - (read + 1)) value l (sym here)))
