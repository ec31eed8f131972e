-- Document 01, demand 3, and document 02's claim about the water between the rows: each is one claim about a whole list of rows, over the exact sum.
-- Nothing here mentions the rounded rule.
use Rattle.std.specs.Prelude.{ℕ, zero, suc, ◌*◌, ◌≤◌, ◌<◌, List, ◌≡◌, ℤ, pos, ◌*ℤ◌, length, get_or, ◌≤ℤ◌}
use Rattle.rounding.specs.Enclosure.{Within}
use Rattle.model.specs.Sheet.{scale, terms_of, starts_of}
use Rattle.enclosure.specs.Exact.{State, exact_sum}
use Rattle.model.specs.Step.{no_ball, no_span, Row, no_row}
use Rattle.model.specs.Rows.{written, rows_in}
use Rattle.model.specs.Passage.{Run}
use Rattle.model.specs.declared.Ball.{Ball}
use Rattle.model.specs.declared.Span.{Span}
use Rattle.model.specs.declared.Sheet.{Sheet}
use Rattle.model.specs.declared.Term.{Term}

-- an exact state lies within radii of values: for every quantity, s times its number differs from the value by at most the radius
pub record LiesWithin (balls : List Ball) (state : State) : Type 0 where
  pub rational : 0 < state.denominator
  pub quantities : length state.numerators ≡ length balls
  pub near : (i : ℕ) → i < length balls → Within (pos scale *ℤ get_or state.numerators i (pos 0)) state.denominator (get_or balls i no_ball).value (get_or balls i no_ball).radius

-- an exact state lies between lows and highs: for every quantity, s times its number is no lower than the low and no higher than the high
pub record LiesBetween (spans : List Span) (state : State) : Type 0 where
  pub rational : 0 < state.denominator
  pub quantities : length state.numerators ≡ length spans
  pub above : (i : ℕ) → i < length spans → ((get_or spans i no_span).low *ℤ pos state.denominator) ≤ℤ (pos scale *ℤ get_or state.numerators i (pos 0))
  pub below : (i : ℕ) → i < length spans → (pos scale *ℤ get_or state.numerators i (pos 0)) ≤ℤ ((get_or spans i no_span).high *ℤ pos state.denominator)

-- no radius is over the tolerance
pub record Tolerated (tol : ℕ) (balls : List Ball) : Type 0 where
  pub within : (i : ℕ) → i < length balls → (get_or balls i no_ball).radius ≤ tol

-- exact state j: from state j - 1, the exact sum of degree K_j at the passage's step (K_1 is the first of the list; none is asked for past it)
unfoldable pub state_after : List Term → ℤ → List ℕ → State → ℕ → State
state_after terms H degrees state zero = state
state_after terms H degrees state (suc j) = exact_sum terms H scale (get_or degrees j 0) (state_after terms H degrees state j)

-- a list of whole numbers, one for each row and none lower than the row's degree
pub record NoLower (degrees : List ℕ) (rows : List Row) : Type 0 where
  pub each : length degrees ≡ length rows
  pub lower : (j : ℕ) → j < length rows → (get_or rows j no_row).degree ≤ get_or degrees j 0

-- Demand 3, of rows: every exact state that the passage's step and terms lead to, from any state 0 within the start's radii of its values and
-- by any such degrees, lies within its row's radii of its row's values; and all these radii are at most `tol`.
unfoldable pub Trusted : List Term → ℤ → ℕ → List Ball → List Row → Type 0
Trusted terms H tol starts rows =
    (state : State) → LiesWithin starts state →
    (degrees : List ℕ) → NoLower degrees rows →
    (j : ℕ) → j < length rows →
    LiesWithin (get_or rows j no_row).balls (state_after terms H degrees state (suc j)) × Tolerated tol (get_or rows j no_row).balls

-- Demand 3, of rows of a sheet: from its start, by its step and its terms, within its tolerance.
unfoldable pub TrustedOf : Sheet → List Row → Type 0
TrustedOf sheet rows = Trusted (terms_of sheet) sheet.head.step sheet.head.tol (starts_of sheet) rows

-- ---- between the rows

-- the values and radii that the step of row j starts from, the rows counted from 0
unfoldable pub start_of : List Ball → List Row → ℕ → List Ball
start_of starts rows zero = starts
start_of starts rows (suc j) = (get_or rows j no_row).balls

-- Document 02, of rows: for every row, from every exact state within the radii that its step started from, at every fraction u ÷ w of the step from 0
-- to 1 and for every degree no lower than the printed one, the exact sum lies between the row's lows and highs. At the fraction the step H ÷ s is
-- (H u) ÷ (s w).
unfoldable pub Spanned : List Term → ℤ → List Ball → List Row → Type 0
Spanned terms H starts rows =
    (j : ℕ) → j < length rows →
    (state : State) → LiesWithin (start_of starts rows j) state →
    (u w : ℕ) → 0 < w → u ≤ w →
    (K : ℕ) → (get_or rows j no_row).degree ≤ K →
    LiesBetween (get_or rows j no_row).spans (exact_sum terms (H *ℤ pos u) (scale * w) K state)

-- Document 02, of rows of a sheet: from its start, by its step and its terms.
unfoldable pub SpannedOf : Sheet → List Row → Type 0
SpannedOf sheet rows = Spanned (terms_of sheet) sheet.head.step (starts_of sheet) rows

-- ---- what a run leaves

-- What a run of a sheet leaves in a lent buffer: its rows from the front, every other place as it was; and of these rows, as they stand there, demand 3
-- and the water between them.
pub record Leaves (sheet : Sheet) (run : Run) (before after : List ℤ) : Type 0 where
  pub buffer : after ≡ written run.rows before
  pub trusted : TrustedOf sheet (rows_in sheet.head.n (length run.rows) after)
  pub spanned : SpannedOf sheet (rows_in sheet.head.n (length run.rows) after)
