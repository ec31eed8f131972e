-- How long a line is, and how large a number that is read from one.
use Prim.Native.Nat.{ℕ, zero, suc, ◌+◌, ◌-◌, ◌*◌, ◌^◌, ◌≤◌, ◌<◌}
use mathlib.Core.Bool.{Bool, true, false}
use mathlib.Core.List.{List, [], ◌∷◌, ◌++◌}
use Rattle.std.specs.Prelude.{Option, Some, None}
use mathlib.Core.Path.{◌≡◌, refl, subst}
use native.Mathlib.Nat.{pow-suc, pow-le-pow_right}
use native.Mathlib.Omega.{arith}
use lib.Dec.{eqb}
use lib.IntN.{ℤ, pos, negsuc, nat_abs}
use lib.ListN.{length, length-append}
use Rattle.ranges.specs.Range.{bytes}
use Rattle.model.specs.Sheet.{most_digits}
use Rattle.model.specs.Answer.{decimal}
use Rattle.model.specs.Reading.{Spelled, spelled, wrong, is_digit, digits, natural, negated, signed, after, ended}
use Rattle.printing.specs.Pieces.{line_of}
use Rattle.laws.proofs.Text.DecimalText.{length_signed}
use Rattle.lines.specs.Lines.{spelling, line_after}
use Rattle.laws.proofs.Text.DecimalText.{digit_range}

-- ---- a line

-- a key of seven bytes, a minus, ten digits and a line feed
pub length_line : (key : List ℕ) (z : ℤ) → length key ≤ 7 → nat_abs z < 2 ^ 32 → length (line_of key z) ≤ 19
unfolding bytes
length_line key z short small =
    omega (arith, length-append (key ++ decimal z) (bytes "\n"), length-append key (decimal z), length_signed 10 z (omega arith) (omega arith))

-- ---- a number that is spelled has at most nine digits

abbrev Short : Spelled → Type 0
Short (spelled z rest) = nat_abs z < 10 ^ most_digits
Short wrong = Unit {0}

-- so many digits are no more than nine
small : {read value : ℕ} → read ≤ most_digits → value < 10 ^ read → value < 10 ^ most_digits
small l h = omega (arith, pow-le-pow_right {n = 10} (omega arith) l)

digits_short : (more read value : ℕ) (l : List ℕ) → read + more ≡ most_digits → value < 10 ^ read → Short (digits more value l)
unfolding digits
digits_short zero read value l e h = small {read = read} (omega arith) h
digits_short (suc more) read value [] e h = small {read = read} (omega arith) h
digits_short (suc more) read value (b ∷ rest) e h =
    go (is_digit b) refl (λ d. digits_short more (suc read) (value * 10 + (b - 48)) rest (omega arith) (rw pow-suc (omega (arith, digit_range d))))
  where
    go : (t : Bool) → is_digit b ≡ t → (is_digit b ≡ true → Short (digits more (value * 10 + (b - 48)) rest)) → Short (elim t [ true ↦ digits more (value * 10 + (b - 48)) rest | false ↦ spelled (pos value) (b ∷ rest) ])
    go true t longer = longer t
    go false t longer = small {read = read} (omega arith) h

natural_short : (l : List ℕ) → Short (natural l)
unfolding natural
natural_short [] = tt
natural_short (b ∷ rest) = go (is_digit b) (eqb b 48) refl
  where
    go : (t zero-first : Bool) → is_digit b ≡ t → Short (elim t [ true ↦ elim zero-first [ true ↦ spelled (pos 0) rest | false ↦ digits (most_digits - 1) (b - 48) rest ] | false ↦ wrong ])
    go true true t = omega arith
    go true false t = digits_short (most_digits - 1) 1 (b - 48) rest (omega arith) (omega (arith, digit_range t))
    go false _ t = tt

negated_short : (s : Spelled) → Short s → Short (negated s)
unfolding negated
negated_short (spelled (pos zero) rest) h = tt
negated_short (spelled (pos (suc n)) rest) h = h
negated_short (spelled (negsuc n) rest) h = tt
negated_short wrong h = tt

signed_short : (l : List ℕ) → Short (signed l)
unfolding signed
signed_short [] = tt
signed_short (b ∷ rest) = go (eqb b 45)
  where
    go : (t : Bool) → Short (elim t [ true ↦ negated (natural rest) | false ↦ natural (b ∷ rest) ])
    go true = negated_short (natural rest) (natural_short rest)
    go false = natural_short (b ∷ rest)

ended_short : (s : Spelled) → Short s → Short (ended s)
unfolding ended
ended_short (spelled z []) h = tt
ended_short (spelled z (b ∷ rest)) h = go (eqb b 10)
  where
    go : (t : Bool) → Short (elim t [ true ↦ spelled z rest | false ↦ wrong ])
    go true = h
    go false = tt
ended_short wrong h = tt

line_short : (key l : List ℕ) → Short (line_after key true l)
unfolding line_after spelling
line_short key l = go (after key l)
  where
    go : (found : Option (List ℕ)) → Short (elim found [ Some rest ↦ ended (signed rest) | None ↦ wrong ])
    go (Some rest) = ended_short (signed rest) (signed_short rest)
    go None = tt

-- so what is read from a line can be printed
pub read_small : (key l : List ℕ) {z : ℤ} {rest : List ℕ} → line_after key true l ≡ spelled z rest → nat_abs z < 2 ^ 32
read_small key l {z} {rest} e = let h : nat_abs z < 10 ^ most_digits = subst Short e (line_short key l) in omega arith
