-- Document 01, 'The sheet' and questions 1 and 2: from bytes to a sheet, line by line, the first fault deciding.
use Rattle.std.specs.Prelude.{ℕ, zero, suc, ◌+◌, ◌-◌, ◌*◌, Bool, true, false, ◌&&◌, List, [], ◌∷◌, ◌++◌, leb, eqb, ℤ, pos, negsuc, nat_abs, length, Option, Some, None}
use Prim.Native.Char.{code}
use Prim.Native.String.{String}
use Rattle.ranges.specs.Range.{bytes}
use Rattle.model.specs.Sheet.{most_bytes, most_digits, most_steps, number, not_refused, refused_at, Limits, within, step_within, quantities_held, terms_held, no_sheet, n_limits, steps_limits, tail_limits, tol_limits, start_limits, radius_limits, terms_limits, to_limits, coef_limits, first_limits, second_limits}
use Rattle.model.specs.declared.Head.{Head}
use Rattle.model.specs.declared.Quantity.{Quantity}
use Rattle.model.specs.declared.Term.{Term}
use Rattle.model.specs.declared.Terms.{Terms}
use Rattle.model.specs.declared.Sheet.{Sheet}
use Rattle.model.specs.declared.Refusal.{Refusal}
use Rattle.model.specs.declared.Refusal.TheVariants.{Oversized, Misspelt, OutOfRange, NoReading}
use Rattle.model.specs.declared.ReadSheet.{ReadSheet}

-- ---- a number, as it is spelled

-- what the front of some bytes spells: a number and the bytes after it, or nothing
pub data Spelled : Type 0 where
  spelled : ℤ → List ℕ → Spelled
  wrong : Spelled

-- a byte from `0` to `9`
unfoldable pub is_digit : ℕ → Bool
is_digit b = leb (code "0") b && leb b (code "9")

-- at most so many digits more
unfoldable pub digits : ℕ → ℕ → List ℕ → Spelled
digits zero value rest = spelled (pos value) rest
digits (suc more) value [] = spelled (pos value) []
digits (suc more) value (b ∷ rest) =
    elim (is_digit b) [ true ↦ digits more (value * 10 + (b - code "0")) rest | false ↦ spelled (pos value) (b ∷ rest) ]

-- one to nine digits, no leading zero except 0 itself
unfoldable pub natural : List ℕ → Spelled
natural [] = wrong
natural (b ∷ rest) =
    elim (is_digit b) [ true ↦ elim (eqb b (code "0")) [ true ↦ spelled (pos 0) rest | false ↦ digits (most_digits - 1) (b - code "0") rest ] | false ↦ wrong ]

-- never a minus before 0; `natural` spells no negative number, so that the third case does not occur
unfoldable pub negated : Spelled → Spelled
negated (spelled (pos zero) rest) = wrong
negated (spelled (pos (suc n)) rest) = spelled (negsuc n) rest
negated (spelled (negsuc n) rest) = wrong
negated wrong = wrong

-- a number that may have a minus
unfoldable pub signed : List ℕ → Spelled
signed [] = wrong
signed (b ∷ rest) = elim (eqb b (code "-")) [ true ↦ negated (natural rest) | false ↦ natural (b ∷ rest) ]

-- ---- a line `key=value`, ended by one line feed

-- the bytes after a text that stands at the front
unfoldable pub after : List ℕ → List ℕ → Option (List ℕ)
after [] rest = Some rest
after (k ∷ key) [] = None
after (k ∷ key) (b ∷ rest) = elim (eqb k b) [ true ↦ after key rest | false ↦ None ]

-- a number that was spelled, and the bytes after the line feed that ends its line
unfoldable pub ended : Spelled → Spelled
ended (spelled z []) = wrong
ended (spelled z (b ∷ rest)) = elim (eqb b (code "\n")) [ true ↦ spelled z rest | false ↦ wrong ]
ended wrong = wrong

-- the key, `=`, a number so spelled, and a line feed
unfoldable pub line : String → (List ℕ → Spelled) → List ℕ → Spelled
line key spelling text = elim (after (bytes key ++ bytes "=") text) [ Some rest ↦ ended (spelling rest) | None ↦ wrong ]

-- ---- a sheet

-- What reading from the front of some bytes gives: a result and the bytes after it, or the first fault.
pub data Parsed (A : Type 0) : Type 0 where
  parsed : A → List ℕ → Parsed A
  fault : Refusal → Parsed A

-- its number in document 01 and its value: 0 and the result, or the fault's number; a fault has no value, and `blank` is put for it
unfoldable pub gives : {A : Type 0} → A → Parsed A → ℕ × A
gives blank (parsed a rest) = (0, a)
gives blank (fault r) = (number r, blank)

-- a way of reading from the front of some bytes
abbrev pub Parser : Type 0 → Type 0
Parser A = List ℕ → Parsed A

-- a result that reads nothing
unfoldable pub return : {A : Type 0} → A → Parser A
return a rest = parsed a rest

-- one reading after the other: the first fault decides
infixl 10 ◌>>=◌
unfoldable pub ◌>>=◌ : {A B : Type 0} → Parser A → (A → Parser B) → Parser B
◌>>=◌ p f text = elim (p text) [ parsed a rest ↦ f a rest | fault r ↦ fault r ]

-- so many, one after the other
unfoldable pub times : {A : Type 0} → ℕ → Parser A → Parser (List A)
times zero p = return []
times (suc n) p = do
  xs ← times n p
  x ← p
  return (xs ++ (x ∷ []))

-- question 2 of a line: are key, number and line feed right? If not, 2. Is the number in its range? If not, 3.
unfoldable pub ranged : (ℤ → Bool) → Spelled → Parsed ℤ
ranged range wrong = fault Misspelt
ranged range (spelled z rest) = elim (range z) [ true ↦ parsed z rest | false ↦ fault OutOfRange ]

-- a field without a minus, whose number is never negative
unfoldable pub field : String → Limits → Parser ℕ
field key limits = do
  z ← (λ text. ranged (within limits) (line key natural text))
  return (nat_abs z)

-- a field that may have a minus
unfoldable pub signed_field : String → Limits → Parser ℤ
signed_field key limits text = ranged (within limits) (line key signed text)

-- the step, which may have a minus and is not 0
unfoldable pub step : Parser ℤ
step text = ranged step_within (line "step" signed text)

-- the lines above the quantities, with at most so many steps
unfoldable pub head : ℕ → Parser Head
head high = do
  n ← field "n" n_limits
  steps ← field "steps" (steps_limits high)
  H ← step
  tail ← field "tail" tail_limits
  tol ← field "tol" tol_limits
  return (record { n = n; steps = steps; step = H; tail = tail; tol = tol })

-- `start` alone may read `none`: no reading
unfoldable pub start : Parser (Option ℤ)
start text =
    elim (after (bytes "start=none\n") text) [
      | Some rest ↦ fault NoReading
      | None ↦ (do
        z ← signed_field "start" start_limits
        return (Some z)) text
    ]

-- a start and its radius
unfoldable pub quantity : Parser Quantity
quantity = do
  reading ← start
  radius ← field "radius" radius_limits
  return (record { start = reading; radius = radius })

-- n quantities
unfoldable pub quantities : ℕ → Parser (List Quantity)
quantities n = do
  list ← times n quantity
  return (quantities_held list)

-- a term of n quantities
unfoldable pub term : ℕ → Parser Term
term n = do
  to ← field "to" (to_limits n)
  coef ← signed_field "coef" coef_limits
  first ← field "first" (first_limits n)
  second ← field "second" (second_limits n first)
  return (record { to = to; coef = coef; first = first; second = second })

-- the terms of n quantities: first how many there are
unfoldable pub terms : ℕ → Parser Terms
terms n = do
  count ← field "terms" terms_limits
  list ← times count (term n)
  return (terms_held count list)

-- bytes after the last line count as one more line, misspelt
unfoldable pub end : {A : Type 0} → A → Parser A
end a [] = parsed a []
end a (b ∷ rest) = fault Misspelt

-- what follows a head, to the end of the text
unfoldable pub body : Head → Parser Sheet
body head = do
  quantities ← quantities head.n
  terms ← terms head.n
  end (record { head = head; quantities = quantities; terms = terms })

-- a sheet, with at most so many steps, from its first line to the end of the text
unfoldable pub sheet : ℕ → Parser Sheet
sheet high = do
  head ← head high
  body head

-- what reading gives: the sheet, or the refusal and the sheet of zeros
unfoldable pub accepted : Parsed Sheet → ReadSheet
accepted (parsed x rest) = record { outcome = not_refused; sheet = x }
accepted (fault r) = record { outcome = refused_at r 0; sheet = no_sheet }

-- the reading of a sheet's bytes, with at most so many steps (a reader of stored sheets may take more): question 1, and then its lines
unfoldable pub read_sheet_to : ℕ → List ℕ → ReadSheet
read_sheet_to high text = accepted (elim (leb (length text) most_bytes) [ true ↦ sheet high text | false ↦ fault Oversized ])

-- the reading of the bytes of a passage's sheet
abbrev pub read_sheet : List ℕ → ReadSheet
read_sheet text = read_sheet_to most_steps text
