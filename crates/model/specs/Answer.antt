-- Document 01, 'A sheet and its answer': the answer's text, from bytes to bytes.
use Rattle.std.specs.Prelude.{ℕ, zero, suc, ◌+◌, ◌/◌, ◌%◌, true, false, List, [], ◌∷◌, ◌++◌, ltb, ℤ, pos, negsuc, Ok, Err}
use Prim.Native.Char.{code}
use Prim.Native.String.{String}
use Rattle.ranges.specs.Range.{bytes}
use Rattle.model.specs.Sheet.{Outcome, result, refused_step}
use Rattle.model.specs.Reading.{read_sheet}
use Rattle.model.specs.Step.{Ball, Span, Row}
use Rattle.model.specs.Passage.{Run, refused, run}

-- a digit's byte
unfoldable pub digit : ℕ → ℕ
digit n = code "0" + n

-- n in decimal; the first number is fuel, and n itself is always enough
unfoldable pub decimal_by : ℕ → ℕ → List ℕ
decimal_by zero n = digit n ∷ []
decimal_by (suc fuel) n =
    elim (ltb n 10) [ true ↦ digit n ∷ [] | false ↦ decimal_by fuel (n / 10) ++ (digit (n % 10) ∷ []) ]

-- a whole number in decimal, with its sign where it is negative
unfoldable pub decimal : ℤ → List ℕ
decimal (pos n) = decimal_by n n
decimal (negsuc n) = code "-" ∷ decimal_by (suc n) (suc n)

-- a line: key=number
unfoldable pub printed : String → ℤ → List ℕ
printed key z = bytes key ++ bytes "=" ++ decimal z ++ bytes "\n"

-- four lines for each quantity; a row has as many spans as balls
unfoldable pub quantities_text : List Ball → List Span → List ℕ
quantities_text [] spans = []
quantities_text (ball ∷ balls) [] = []
quantities_text (ball ∷ balls) (span ∷ spans) =
    printed "value" ball.value ++
    printed "radius" (pos ball.radius) ++
    printed "low" span.low ++
    printed "high" span.high ++
    quantities_text balls spans

-- the rows, the first of them with this number
unfoldable pub rows_text : ℕ → List Row → List ℕ
rows_text number [] = []
rows_text number (row ∷ rows) =
    printed "row" (pos number) ++ printed "degree" (pos row.degree) ++ quantities_text row.balls row.spans ++ rows_text (suc number) rows

-- the last two lines
unfoldable pub outcome_text : Outcome → List ℕ
outcome_text outcome = printed "result" (pos (result outcome)) ++ printed "at" (pos (refused_step outcome))

-- the rows, and then what came of the passage
unfoldable pub run_text : Run → List ℕ
run_text run = rows_text 1 run.rows ++ outcome_text run.outcome

-- what comes of a sheet's bytes: its passage, or its refusal and no row
unfoldable pub run_of : List ℕ → Run
run_of text =
    let read = read_sheet text in
    elim read.outcome [ Ok done ↦ run read.sheet | Err stop ↦ refused stop.refusal stop.step ]

-- what the planner prints for a sheet
unfoldable pub answer : List ℕ → List ℕ
answer text = run_text (run_of text)
