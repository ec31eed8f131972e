-- A number's line: how long it is, and that the code, which hands over a number's bits, adds the number's.
use Prim.Native.Nat.{ℕ, suc, ◌+◌, ◌^◌, ◌≤◌, ◌<◌}
use Prim.Native.String.{String}
use mathlib.Core.Path.{◌≡◌, sym, ap, ◌∙◌}
use mathlib.Core.List.{List, [], ◌++◌, append-nil, append_assoc}
use native.Mathlib.Omega.{arith}
use lib.IntN.{ℤ, pos, nat_abs}
use lib.ListN.{length, length-append}
use mir.Syntax.{w64}
use mir.Val.{SFits, to_z, of_z}
use mir.Facts.{to_z-of_z}
use Rattle.rounding.proofs.Machine.{sfits_abs}
use Rattle.ranges.specs.Range.{bytes}
use Rattle.model.specs.Answer.{decimal, printed}
use Rattle.laws.proofs.Text.DecimalText.{length_below, length_signed, length_printed}
use Rattle.printing.specs.Pieces.{Put, most_line}
use Rattle.printing.proofs.Pieces.{put_same}

-- ---- its length

length_line : (key : String) (z : ℤ) (k : ℕ) → length (decimal z) ≤ k → length (printed key z) ≤ most_line (length (bytes key)) k
length_line key z k h = omega (arith, length_printed key z)

-- a number of no more than k digits
pub length_natural : (key : String) (k n : ℕ) → 0 < k → n < 10 ^ k → length (printed key (pos n)) ≤ most_line (length (bytes key)) k
length_natural key k n l h = length_line key (pos n) k (length_below k n l h)

-- the same with a sign
pub length_whole : (key : String) (k : ℕ) (z : ℤ) → 0 < k → nat_abs z < 10 ^ k → length (printed key z) ≤ most_line (length (bytes key)) (suc k)
length_whole key k z l h = length_line key z (suc k) (length_signed k z l h)

-- ---- a number's line behind others

-- the bits that the code hands over
abbrev pub bits : ℤ → ℤ
bits z = to_z w64 (of_z w64 z)

-- a number that is printed in no more than so many digits, its sign with them
pub record Short (key : String) (digits : ℕ) (z : ℤ) : Type 0 where
  pub fits : SFits w64 z
  pub small : nat_abs z < 2 ^ 32
  pub line : length (printed key z) ≤ most_line (length (bytes key)) digits

pub natural_fits : {n : ℕ} → n < 2 ^ 32 → SFits w64 (pos n)
natural_fits h = sfits_abs (omega arith)

pub of_bits : {n : ℕ} → n < 2 ^ 32 → bits (pos n) ≡ pos n
of_bits h = to_z-of_z (natural_fits h)

-- so what is put of a number's bits is put of the number
pub whole_put : (key : String) {a b : List ℕ} {i j : ℕ} {z : ℤ} → SFits w64 z → Put a i (printed key (bits z)) j b → Put a i (printed key z) j b
whole_put key f p = put_same (ap (printed key) (to_z-of_z f)) p

pub line_put : (key : String) {a b : List ℕ} {i j n : ℕ} → n < 2 ^ 32 → Put a i (printed key (bits (pos n))) j b → Put a i (printed key (pos n)) j b
line_put key h p = whole_put key (natural_fits h) p

pub short_natural : (key : String) (k : ℕ) {n : ℕ} → 0 < k → n < 10 ^ k → n < 2 ^ 32 → Short key k (pos n)
short_natural key k {n} l h small = record { fits = natural_fits small; small = small; line = length_natural key k n l h }

pub short_whole : (key : String) (k : ℕ) {z : ℤ} → 0 < k → nat_abs z < 10 ^ k → nat_abs z < 2 ^ 32 → Short key (suc k) z
short_whole key k {z} l h small = record { fits = sfits_abs (omega arith); small = small; line = length_whole key k z l h }

-- text was added, of no more than so many bytes
pub record Added (before text : List ℕ) (most : ℕ) (after : List ℕ) : Type 0 where
  pub added : after ≡ before ++ text
  pub short : length text ≤ most

pub none_added : (before : List ℕ) → Added before [] 0 before
none_added before = record { added = sym (append-nil before); short = omega arith }

pub length_added : {before text after : List ℕ} {most : ℕ} → Added before text most after → length after ≤ length before + most
length_added {before} {text} p = omega (arith, p.short, ap length p.added, length-append before text)

module _ (key : String) {before text after : List ℕ} {most digits : ℕ} {z : ℤ} (p : Added before text most after) (s : Short key digits z) where
  -- what a line asks ..
  pub line_asked : {room : ℕ} → length before + (most + most_line (length (bytes key)) digits) ≤ room → (nat_abs (bits z) < 2 ^ 32) × (length after + length (printed key (bits z)) ≤ room)
  line_asked h = rw (to_z-of_z s.fits) (s.small, omega (arith, h, s.line, length_added p))

  -- .. and that it is added
  pub line_added : {end : List ℕ} → end ≡ after ++ printed key (bits z) → Added before (text ++ printed key z) (most + most_line (length (bytes key)) digits) end
  line_added e =
      record {
        added = e ∙ rw (to_z-of_z s.fits, p.added) (append_assoc before text (printed key z));
        short = omega (arith, p.short, s.line, length-append text (printed key z));
      }
