-- Text put into a lent buffer, piece after piece. As with C's snprintf, the bytes that lie past the buffer's end are counted and not stored:
-- the count is of the whole text, and the buffer holds as much of it as fits. No zero byte is put behind it.
use Prim.Native.Char.{code}
use Rattle.std.specs.Prelude.{ℕ, ◌+◌, ◌/◌, ◌%◌, List, [], ◌∷◌, ◌++◌, ◌≡◌, ℤ, pos, negsuc, length, take, drop}
use Rattle.std.proofs.lemmas.List.Edits.{sets}
use Rattle.ranges.specs.Range.{bytes}
use Rattle.model.specs.Answer.{digit, decimal}

-- From `before` to `after` a text was put at `at`, and `next` is the place that follows it. What would lie past the end `sets` leaves out.
pub record Put (before : List ℕ) (at : ℕ) (text : List ℕ) (next : ℕ) (after : List ℕ) : Type 0 where
  pub counted : next ≡ at + length text
  pub stored : after ≡ sets before at text

-- A text was put from the buffer's start on: how long it is, and that the buffer holds as much of it as fits, with every
-- byte past it unchanged.
pub record Printed (before text : List ℕ) (count : ℕ) (after : List ℕ) : Type 0 where
  pub counted : count ≡ length text
  pub held : after ≡ take (length before) text ++ drop (length text) before

-- The two digits of a number below 100, a leading 0 with them.
abbrev pub pair : ℕ → List ℕ
pair n = digit (n / 10) ∷ digit (n % 10) ∷ []

-- A minus, where a number is negative.
abbrev pub sign : ℤ → List ℕ
sign (pos n) = []
sign (negsuc n) = code "-" ∷ []

-- The line of a whole number, behind a key that has its `=`.
abbrev pub line_of : List ℕ → ℤ → List ℕ
line_of key z = key ++ decimal z ++ bytes "\n"

-- The most bytes of a line: a key of so many bytes, `=`, so many digits with their sign, and the line feed.
abbrev pub most_line : ℕ → ℕ → ℕ
most_line key digits = key + digits + 2
