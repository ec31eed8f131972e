-- What the readers of a line give, as the definitions have it: each answer comes with the bytes that are left.
-- Document 01 numbers lines alone: a digit or a text that was found is no answer of its own.
use Rattle.std.specs.Prelude.{ℕ, ◌-◌, Bool, true, false, if◌then◌else◌, List, [], ◌∷◌, ℤ, pos, Option, Some, None}
use Rattle.std.specs.Borrow.{Bor}
use Prim.Native.Char.{code}
use Rattle.model.specs.Sheet.{number}
use Rattle.model.specs.Reading.{Spelled, spelled, wrong, is_digit, natural, signed, after, ended, Parser, ranged}
use Rattle.model.specs.declared.Refusal.TheVariants.{Misspelt}

-- the digit at the front of some bytes, and the bytes after it
unfoldable pub front_digit : List ℕ → Option (ℕ × List ℕ)
front_digit [] = None
front_digit (b ∷ rest) = if is_digit b then Some (b - code "0", rest) else None

-- the number that was read
abbrev pub spelled_as : Option (ℤ × Bor (List ℕ)) → Spelled
spelled_as (Some x) = spelled x.0 x.1.now
spelled_as None = wrong

-- how a number is spelled, where a minus is allowed and where it is not
unfoldable pub spelling : Bool → List ℕ → Spelled
spelling true = signed
spelling false = natural

-- a line whose key is given as its bytes, the equals sign with them
unfoldable pub line_after : List ℕ → Bool → List ℕ → Spelled
line_after key minus text = elim (after key text) [ Some rest ↦ ended (spelling minus rest) | None ↦ wrong ]

-- question 2 of a line by itself, whose number may be any
unfoldable pub line_asked : List ℕ → Bool → Parser ℤ
line_asked key minus text = ranged (λ z. true) (line_after key minus text)

-- document 01's number of a line by itself, and its value: 0 and the number that was read; a misspelt one is refusal 2 and has no value, and 0 is put for it
unfoldable pub line_gives : Option (ℤ × Bor (List ℕ)) → ℕ × ℤ
line_gives (Some x) = (0, x.0)
line_gives None = (number Misspelt, pos 0)
