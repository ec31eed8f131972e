-- What a worked case is: what the definitions come to, and what they should come to. The tables of the chapters are lists of such.
use Rattle.std.specs.Prelude.{ℕ, Bool, true, false, List, [], ◌∷◌, map, ◌≡◌, ℤ, pos, neg_ℤ, ◌+ℤ◌, ◌-ℤ◌, length, take, drop, replicate, Some}
use Prim.Native.Char.{code}
use Prim.Native.String.{String, ◌++◌ as ◌&◌}
use Rattle.rounding.specs.Rounding.{near, up}
use Rattle.ranges.specs.Range.{bytes}
use Rattle.model.specs.Sheet.{number, Outcome, result, refused_step, verdict_number, verdict_outcome, sheet_verdict_to, terms_of}
use Rattle.model.specs.Reading.{Spelled, spelled, wrong, natural, signed, read_sheet_to, read_sheet}
use Rattle.model.specs.LikeTerms.{gathered}
use Rattle.model.specs.Step.{Ball, Span, Row}
use Rattle.model.specs.Passage.{Advance, step_of, passage, rows_written}
use Rattle.model.specs.Rows.{laid_out, balls_of, spans_laid_out, spans_of, no_spans, written, rows_in}
use Rattle.model.specs.Answer.{decimal, run_of, answer}
use Rattle.model.specs.declared.Refusal.{Refusal}
use Rattle.model.specs.declared.Quantity.{Quantity}
use Rattle.model.specs.declared.Sheet.{Sheet}
use Rattle.model.specs.declared.Term.{Term}

-- what something comes to, in one of these forms
infixr 20 ◌and◌
pub data Finding : Type 0 where
  -- a text
  text : List ℕ → Finding
  -- a result, at a step
  outcome : ℕ → ℕ → Finding
  -- the degrees of some rows
  degrees : List ℕ → Finding
  -- their values and radii
  balls : List (List Ball) → Finding
  -- both
  ◌and◌ : Finding → Finding → Finding
  -- a row, or the refusal of a step
  advanced : Advance → Finding
  -- the places of a buffer, and the rows that it holds
  places : List ℤ → List Row → Finding
  -- terms
  list : List Term → Finding
  -- what stands past the first quantity, and past the first term
  past : List Quantity → List Term → Finding
  -- a sheet
  record_of : Sheet → Finding
  -- balls and spans in arrays, and by themselves
  arrays : List Ball → List Span → List Ball → List Span → Finding
  -- whether each of some numbers is in a range
  tests : List Bool → Finding
  -- a whole number
  whole : ℤ → Finding
  -- a number and the text left, where a number has no minus, and where it may have one
  spelling : Spelled → Spelled → Finding

-- a case: what something comes to, and what it should
abbrev pub Case : Type 0
Case = Finding × Finding

-- every case of a table comes to what it should
unfoldable pub Hold : List Case → Type 0
Hold cases = map (λ case. case.0) cases ≡ map (λ case. case.1) cases

-- ---- the forms of a case

-- a sheet prints an answer
abbrev pub prints : String → String → Case
prints sheet printed = (text (answer (bytes sheet)), text (bytes printed))

-- a sheet is refused by this number, before step 1
abbrev pub fails : String → String → Case
fails sheet number = prints sheet ("result=" & number & "\nat=0\n")

-- the first of its rows, alone, or none
unfoldable pub first_row : String → List Row
first_row sheet = take 1 (run_of (bytes sheet)).rows

-- a sheet's first row has a degree
abbrev pub opens_at : String → ℕ → Case
opens_at sheet degree = (degrees (map (λ row. row.degree) (first_row sheet)), degrees (degree ∷ []))

-- it has a degree, and a value and a radius of its one quantity
abbrev pub opens : String → ℕ → ℤ → ℕ → Case
opens sheet degree value radius =
    let row = opens_at sheet degree in (
      row.0 and balls (map (λ row. row.balls) (first_row sheet)),
      row.1 and balls ((record { value = value; radius = radius } ∷ []) ∷ []),
    )

-- what is printed of an outcome
abbrev pub told : Outcome → Finding
told out = outcome (result out) (refused_step out)

-- a sheet's passage ends with a result, at a step
abbrev pub ends : String → ℕ → ℕ → Case
ends sheet number step = (told (run_of (bytes sheet)).outcome, outcome number step)

-- with so many places it ends with a result, before step 1 or accepted
abbrev pub lent : String → ℕ → ℕ → Case
lent sheet count number = (told (passage (read_sheet (bytes sheet)).sheet count).outcome, outcome number 0)

-- a lent buffer that held the one list holds the other after a sheet's passage, and its rows are read back from there
abbrev pub leaves : String → List ℤ → List ℤ → Case
leaves sheet before after =
    let read = (read_sheet (bytes sheet)).sheet in
    let run = passage read (length before) in
    (places (written run.rows before) run.rows, places after (rows_in read.head.n (rows_written read run.outcome) after))

-- one step of a sheet, from its own start or from others, comes to this
abbrev pub steps : Sheet → List Ball → Advance → Case
steps sheet from to = (advanced (step_of sheet from), advanced to)

-- a sheet is read, and its terms are these
abbrev pub reads : String → List Term → Case
reads sheet terms = (told (read_sheet (bytes sheet)).outcome and list (terms_of (read_sheet (bytes sheet)).sheet), outcome 0 0 and list terms)

-- a sheet of one quantity and one term is read, and 0 stands past both
abbrev pub alone : String → Case
alone sheet =
    let read = read_sheet (bytes sheet) in (
      told read.outcome and past (drop 1 read.sheet.quantities) (drop 1 read.sheet.terms.list),
      outcome 0 0 and past (replicate 7 (record { start = Some (pos 0); radius = 0 })) (replicate 31 (record { to = 0; coef = pos 0; first = 0; second = 0 })),
    )

-- a text of so many letters is refused by this number, before step 1
abbrev pub garbled : ℕ → ℕ → Case
garbled count number = (told (run_of (replicate count (code "n"))).outcome, outcome number 0)

-- a reader of at most so many steps gives a sheet's text this result
abbrev pub takes : ℕ → String → ℕ → Case
takes high sheet number = (told (read_sheet_to high (bytes sheet)).outcome, outcome number 0)

-- a sheet given as numbers, with no places lent, is refused by this number, before step 1
abbrev pub judged : Sheet → ℕ → Case
judged sheet number = (told (passage sheet 0).outcome, outcome number 0)

-- a sheet given as numbers, with at most so many steps, is refused by this number, before step 1, or passes
abbrev pub verdict_to : ℕ → Sheet → ℕ → Case
verdict_to high sheet number =
    let verdict = sheet_verdict_to high sheet in (told (verdict_outcome verdict) and whole (pos (verdict_number verdict)), outcome number 0 and whole (pos number))

-- a refusal has this number
abbrev pub numbered : Refusal → ℕ → Case
numbered refusal n = (whole (pos (number refusal)), whole (pos n))

-- balls and spans are laid out in these arrays, and read back from there
abbrev pub laid : List Ball → List Span → List Ball → List Span → Case
laid these ends in-balls in-spans =
    (arrays (laid_out these) (spans_laid_out ends) (balls_of (length these) in-balls) (spans_of (length ends) in-spans), arrays in-balls in-spans these ends)

-- none are these arrays
abbrev pub laid_none : List Ball → List Span → Case
laid_none in-balls in-spans = (arrays (laid_out []) no_spans [] [], arrays in-balls in-spans [] [])

-- a text is refused by this number, and read as the sheet of zeros
abbrev pub zeros : String → ℕ → Case
zeros sheet number =
    let read = read_sheet (bytes sheet) in (
      told read.outcome and record_of read.sheet,
      outcome number 0 and record_of (record {
        head = record { n = 0; steps = 0; step = pos 0; tail = 0; tol = 0 };
        quantities = replicate 8 (record { start = Some (pos 0); radius = 0 });
        terms = record { count = 0; list = replicate 32 (record { to = 0; coef = pos 0; first = 0; second = 0 }) };
      }),
    )

-- the one list of terms is gathered into the other
abbrev pub gathers : List Term → List Term → Case
gathers terms into = (list (gathered terms), list into)

-- a range has these ends, and the numbers next to them are outside
abbrev pub spans : (ℤ → Bool) → ℤ → ℤ → Case
spans range low high =
    (tests (map range (low ∷ high ∷ (low -ℤ pos 1) ∷ (high +ℤ pos 1) ∷ [])), tests (true ∷ true ∷ false ∷ false ∷ []))

-- a quotient is rounded so
abbrev pub near_is : ℤ → ℕ → ℤ → Case
near_is n d z = (whole (near n d), whole z)

abbrev pub up_is : ℕ → ℕ → ℕ → Case
up_is n d u = (whole (pos (up n d)), whole (pos u))

-- a number is printed so
abbrev pub shows : ℤ → String → Case
shows z printed = (text (decimal z), text (bytes printed))

-- what the front of a text spells
abbrev pub front_of : String → Finding
front_of front = spelling (natural (bytes front)) (signed (bytes front))

-- a number without a minus, and the text left
abbrev pub plain : String → ℕ → String → Case
plain front n left = (front_of front, spelling (spelled (pos n) (bytes left)) (spelled (pos n) (bytes left)))

-- one with a minus
abbrev pub minus : String → ℕ → String → Case
minus front n left = (front_of front, spelling wrong (spelled (neg_ℤ (pos n)) (bytes left)))

-- no number
abbrev pub neither : String → Case
neither front = (front_of front, spelling wrong wrong)
