-- What the readers of a field give, as the definitions have it.
use Rattle.std.specs.Prelude.{ℕ, Bool, false, List, [], ℤ, nat_abs, Result, Ok, Err}
use Rattle.std.specs.Borrow.{Bor}
use Rattle.model.specs.declared.Limits.{Limits}
use Rattle.model.specs.declared.Refusal.{Refusal}
use Rattle.model.specs.Sheet.{number, within}
use Rattle.model.specs.Reading.{Parsed, parsed, fault, Parser, return, ◌>>=◌, ranged}
use Rattle.lines.specs.Lines.{line_after}

-- what was read and the bytes that are left, or the refusal
abbrev pub read_as : {A : Type 0} → Result (A × Bor (List ℕ)) Refusal → Parsed A
read_as (Ok x) = parsed x.0 x.1.now
read_as (Err r) = fault r

-- the same where nothing is left
abbrev pub whole_as : {A : Type 0} → Result A Refusal → Parsed A
whole_as (Ok a) = parsed a []
whole_as (Err r) = fault r

-- document 01's number of what was read, and its value: 0 and the value, or the refusal's; a refusal has no value, and `blank` is put for it
unfoldable pub field_gives : {A : Type 0} → A → Result (A × Bor (List ℕ)) Refusal → ℕ × A
field_gives blank (Ok x) = (0, x.0)
field_gives blank (Err r) = (number r, blank)

-- a field whose key is given as its bytes, the equals sign with them: where a minus may be allowed ..
unfoldable pub whole_after : List ℕ → Bool → Limits → Parser ℤ
whole_after key minus limits text = ranged (within limits) (line_after key minus text)

-- .. and where it is not
unfoldable pub natural_after : List ℕ → Limits → Parser ℕ
natural_after key limits = do
  z ← whole_after key false limits
  return (nat_abs z)
