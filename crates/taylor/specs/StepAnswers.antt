-- What the code asks of a step and answers to it, by the definition of the step.
use Rattle.std.specs.Prelude.{ℕ, ◌^◌, ◌≤◌, List, [], ◌∷◌, ◌≡◌, length, Result, Ok, Err}
use Rattle.model.specs.Sheet.{number, most_quantities}
use Rattle.model.specs.Step.{most_degree, Row}
use Rattle.model.specs.Rows.{balls_of, laid_out, spans_of, spans_laid_out, no_spans}
use Rattle.model.specs.Passage as passage
use Rattle.laws.specs.Bounds.{TermsInBounds, InBounds}
use Rattle.model.specs.declared.Ball.{Ball}
use Rattle.model.specs.declared.Head.{Head}
use Rattle.model.specs.declared.Refusal.{Refusal}
use Rattle.model.specs.declared.Term.{Term}
use Rattle.coefficients.specs.Orders.{Usable}
use Rattle.products.specs.declared.table.Table.{Table}
use Rattle.ratio.specs.declared.degree.Truncation.{Truncation}
use Rattle.taylor.specs.declared.step.Numbers.{Numbers}
use Rattle.taylor.specs.declared.step.Stepped.{Stepped}

-- ---- what a step asks

-- What a sheet that passes question 3 gives: of its terms and its step, and of its tail.
pub record CanStep (head : Head) (terms : List Term) : Type 0 where
  pub bounds : TermsInBounds terms head.step head.n
  pub room : head.n ≤ most_quantities
  pub tail_low : 2 ≤ head.tail
  pub tail_high : head.tail ≤ 2 ^ 32

-- What questions 4 and 5 give besides, with the degree and the tail, and a table of coefficients to work in.
pub record CanRow (head : Head) (cut : Truncation) (terms : List Term) (balls : List Ball) (table : Table) : Type 0 where
  pub bounds : InBounds terms head.step balls
  pub all : length balls ≡ head.n
  pub room : head.n ≤ most_quantities
  pub degree : cut.degree ≤ most_degree
  pub tail : cut.tail ≤ 2 ^ 32
  pub usable : Usable head.n table

-- ---- what it comes to

-- a step's answer: the row's degree, or the refusal
unfoldable pub advance_of : passage.Advance → Result ℕ Refusal
advance_of (passage.moves row) = Ok row.degree
advance_of (passage.stops r) = Err r

-- a row's balls and spans, laid out
unfoldable pub row_laid_out : Row → Numbers
row_laid_out row = record { balls = laid_out row.balls; spans = spans_laid_out row.spans }

-- a step's answer, whole: the row's degree, its balls and spans laid out; or the refusal, the balls that the step started from, and no spans
unfoldable pub answered : List Ball → passage.Advance → Stepped
answered start (passage.moves row) = record { advance = advance_of (passage.moves row); numbers = row_laid_out row }
answered start (passage.stops r) = record { advance = advance_of (passage.stops r); numbers = record { balls = start; spans = no_spans } }

-- the row of a degree and of the numbers of n quantities, as they are laid out
abbrev pub row_of : ℕ → ℕ → Numbers → Row
row_of n degree numbers = record { degree = degree; balls = balls_of n numbers.balls; spans = spans_of n numbers.spans }

-- the row that an answer gives, alone; a refusal gives none
unfoldable pub rows_given : ℕ → Stepped → List Row
rows_given n stepped = elim stepped.advance [ Ok degree ↦ row_of n degree stepped.numbers ∷ [] | Err r ↦ [] ]

-- ---- document 01's number and values of an answer

-- its number: 0 where there is a row
unfoldable pub advance_number : Result ℕ Refusal → ℕ
advance_number (Ok degree) = 0
advance_number (Err r) = number r

-- its value: the row's degree; a refusal has none, and 0 is put for it
unfoldable pub advance_degree : Result ℕ Refusal → ℕ
advance_degree (Ok degree) = degree
advance_degree (Err r) = 0

-- an answer has the number and the degree of the one that is meant
pub record Numbered (answer meant : Result ℕ Refusal) : Type 0 where
  pub number_is : advance_number answer ≡ advance_number meant
  pub degree_is : advance_degree answer ≡ advance_degree meant
