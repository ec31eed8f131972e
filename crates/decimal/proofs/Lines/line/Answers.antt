-- `decimal::Lines::line` meets its contract: the key, the sign, the digits and the line feed, piece after piece.
use Prim.Native.Nat.{ℕ, ◌+◌, ◌≤◌, ◌<◌}
use mathlib.Core.Path.{◌≡◌, sym, ap}
use mathlib.Core.List.{List, ◌∷◌, [], ◌++◌, append_assoc}
use native.Mathlib.Omega.{arith}
use lib.IntN.{ℤ, pos, nat_abs}
use lib.ListN.{length, length-append}
use mir.Facts.{to_z-of_z}
use Rattle.std.proofs.Common.{rules}
use Rattle.ranges.specs.Range.{bytes}
use Rattle.model.specs.Answer.{decimal}
use Rattle.printing.specs.Pieces.{sign, line_of}
use Rattle.printing.proofs.Decimal.{decimal_signed}
use Rattle.decimal.proofs.Lines.line.Goals as goal

-- the four pieces of a line
pieces : (key : List ℕ) (z : ℤ) → line_of key z ≡ key ++ sign z ++ decimal (pos (nat_abs z)) ++ 10 ∷ []
unfolding bytes
pieces key z = rw (decimal_signed z) (ap (λ (text : List ℕ). text ++ 10 ∷ []) (sym (append_assoc key (sign z) (decimal (pos (nat_abs z))))))

length-pieces : (key : List ℕ) (z : ℤ) → length (line_of key z) ≡ length key + length (sign z) + length (decimal (pos (nat_abs z))) + 1
length-pieces key z = rw (pieces, length-append, length-append, length-append) (omega arith)

-- one after the other, of a number of which the code hands over the bits
module _ (before key : List ℕ) {z bits : ℤ} {keyed : List ℕ} (is : bits ≡ z) (k : keyed ≡ before ++ key) where
  room_sign : {n : ℕ} → length before + length (line_of key z) ≤ n → length keyed + length (sign bits) ≤ n
  room_sign room = rw (is, k, length-append) (omega (arith, room, length-pieces key z))

  module _ {signed : List ℕ} {m : ℕ} (size : m ≡ nat_abs bits) (s : signed ≡ keyed ++ sign bits) where
    room_digits : {n : ℕ} → length before + length (line_of key z) ≤ n → length signed + length (decimal (pos m)) ≤ n
    room_digits room = rw (s, size, is, k, length-append, length-append) (omega (arith, room, length-pieces key z))

    module _ {spelled : List ℕ} (d : spelled ≡ signed ++ decimal (pos m)) where
      room_end : {n : ℕ} → length before + length (line_of key z) ≤ n → length spelled < n
      room_end room = rw (d, s, size, is, k, length-append, length-append, length-append) (omega (arith, room, length-pieces key z))

      in_turn : {after : List ℕ} → after ≡ spelled ++ 10 ∷ [] → after ≡ before ++ line_of key z
      in_turn e = rw (e, d, s, size, is, k, pieces key z) (simp append_assoc)

pub sign-requires : goal.sign-requires
sign-requires g c = (search rules, room_sign _ _ (to_z-of_z c.ranges.number) c.bytes.ensures c.requires.room)

pub natural-requires : goal.natural-requires
natural-requires g c =
    (search rules, room_digits _ _ (to_z-of_z c.ranges.number) c.bytes.ensures c.unsigned_abs.ensures.value c.sign.ensures c.requires.room)

pub byte-requires : goal.byte-requires
byte-requires g c =
    (search rules, room_end _ _ (to_z-of_z c.ranges.number) c.bytes.ensures c.unsigned_abs.ensures.value c.sign.ensures c.natural.ensures c.requires.room)

pub returns : goal.returns
returns g c =
    in_turn _ _ (to_z-of_z c.ranges.number) c.bytes.ensures c.unsigned_abs.ensures.value c.sign.ensures c.natural.ensures c.byte.ensures
