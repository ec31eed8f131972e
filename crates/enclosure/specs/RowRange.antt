-- The range of a row's numbers, which every row of a passage has (proofs/RowRange.antt).
use Rattle.std.specs.Prelude.{ℕ, ◌*◌, ◌≤◌, ◌<◌, List, ℤ, nat_abs, length, get_or}
use Rattle.model.specs.Sheet.{most}
use Rattle.model.specs.Step.{no_ball, most_degree, no_span, Row}
use Rattle.model.specs.Rows.{row_in}

-- the most that a value of a row is, without its sign: 1,610,612,736
abbrev pub most_value : ℕ
most_value = 3 * most

-- the most that a low or a high is, without its sign: 2^31
abbrev pub most_span : ℕ
most_span = 4 * most

-- What the functions that print ask of a row: so no number has more than ten digits.
pub record Printable (row : Row) : Type 0 where
  pub degree : row.degree ≤ most_degree
  pub values : (i : ℕ) → i < length row.balls → nat_abs (get_or row.balls i no_ball).value ≤ most_value
  pub radii : (i : ℕ) → i < length row.balls → (get_or row.balls i no_ball).radius ≤ most
  pub lows : (i : ℕ) → i < length row.spans → nat_abs (get_or row.spans i no_span).low ≤ most_span
  pub highs : (i : ℕ) → i < length row.spans → nat_abs (get_or row.spans i no_span).high ≤ most_span

-- The same of so many rows of n quantities, as they stand in a buffer.
abbrev pub RowsPrintable : ℕ → ℕ → List ℤ → Type 0
RowsPrintable n count rows = (j : ℕ) → j < count → Printable (row_in n rows j)
