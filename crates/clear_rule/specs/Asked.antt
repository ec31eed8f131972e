-- What the search asks of the buffer and the query: that the rows are there, and that the questions before it passed, so that no sum leaves 64 bits.
use Rattle.std.specs.Prelude.{ℕ, ◌≤◌, true, List, ◌≡◌, ℤ, Ok, Some}
use Rattle.ranges.specs.Range.{every}
use Rattle.model.specs.Sheet.{most_steps}
use Rattle.rows.specs.Room.{HasRow, HasRows}
use Rattle.clear_rule.specs.Clearance.{query_within, row_within, Found}
use Rattle.clear_rule.specs.declared.Query.{Query}

-- row j can be weighed
pub record Weighable (n j : ℕ) (buffer : List ℤ) (query : Query) : Type 0 where
  pub place : HasRow n j buffer
  pub query_is_within : query_within n query ≡ true
  pub row_is_within : row_within n buffer j ≡ true

-- the first `count` rows can be searched
pub record Searchable (n count : ℕ) (buffer : List ℤ) (query : Query) : Type 0 where
  pub few : count ≤ most_steps
  pub places : HasRows n count buffer
  pub query_is_within : query_within n query ≡ true
  pub rows_within : every count (row_within n buffer) ≡ true

-- an answer names a row that a passage can have
unfoldable pub NamesRow : Found → Type 0
NamesRow found = (row : ℕ) → found ≡ Ok (Some row) → row ≤ most_steps
