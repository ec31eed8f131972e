-- What a step's answer says, in words: its number and its degree, each of its places, and the row that it gives.
use Prim.Native.Nat.{ℕ}
use mathlib.Core.List.{List, [], ◌∷◌}
use mathlib.Core.Path.{◌≡◌, refl}
use Rattle.model.specs.Sheet.{number}
use Rattle.model.specs.Step.{Row}
use Rattle.model.specs.Rows.{balls_of, laid_out, spans_of, spans_laid_out, no_spans}
use Rattle.model.specs.Passage.{moves, stops}
use Rattle.model.specs.declared.Ball.{Ball}
use Rattle.model.specs.declared.Refusal.{Refusal}
use Rattle.std.specs.Prelude.{Result, Ok, Err}
use Rattle.taylor.specs.StepAnswers.{advance_of, row_laid_out, answered, rows_given, advance_number, advance_degree, Numbered}
use Rattle.taylor.specs.declared.step.Numbers.{Numbers}

-- a row has the number 0 and its degree, a refusal its number, and 0 for a degree
pub moves_numbered : (degree : ℕ) → (advance_number (Ok degree) ≡ 0) × (advance_degree (Ok degree) ≡ degree)
unfolding advance_number advance_degree
moves_numbered degree = (refl, refl)

pub stops_numbered : (r : Refusal) → (advance_number (Err r) ≡ number r) × (advance_degree (Err r) ≡ 0)
unfolding advance_number advance_degree
stops_numbered r = (refl, refl)

pub numbered_says : {answer meant : Result ℕ Refusal} → Numbered answer meant → (advance_number answer ≡ advance_number meant) × (advance_degree answer ≡ advance_degree meant)
numbered_says numbered = (numbered.number_is, numbered.degree_is)

-- what is answered to a step, place by place: a row's degree and its numbers with 0 past them; or the refusal, with what was started from and no spans
pub answered_moves : (start : List Ball) (row : Row) → answered start (moves row) ≡ record { advance = Ok row.degree; numbers = record { balls = laid_out row.balls; spans = spans_laid_out row.spans } }
unfolding answered advance_of row_laid_out
answered_moves start row = refl

pub answered_stops : (start : List Ball) (r : Refusal) → answered start (stops r) ≡ record { advance = Err r; numbers = record { balls = start; spans = spans_laid_out [] } }
unfolding answered advance_of no_spans
answered_stops start r = refl

-- the answer that is meant
pub meant_moves : (row : Row) → advance_of (moves row) ≡ Ok row.degree
unfolding advance_of
meant_moves row = refl

pub meant_stops : (r : Refusal) → advance_of (stops r) ≡ Err r
unfolding advance_of
meant_stops r = refl

-- the one row, with the answer's degree and numbers; none where it is a refusal
pub moves_gives : (n degree : ℕ) (numbers : Numbers) → rows_given n (record { advance = Ok degree; numbers = numbers }) ≡ record { degree = degree; balls = balls_of n numbers.balls; spans = spans_of n numbers.spans } ∷ []
unfolding rows_given
moves_gives n degree numbers = refl

pub stops_gives : (n : ℕ) (r : Refusal) (numbers : Numbers) → rows_given n (record { advance = Err r; numbers = numbers }) ≡ []
unfolding rows_given
stops_gives n r numbers = refl
