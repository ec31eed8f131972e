-- A row as the code looks at it: n quantities, and the row's own places. Rows and quantities are counted from 0.
use Rattle.std.specs.Prelude.{ℕ, ◌<◌, List, ◌≡◌, ℤ, pos, get_or}
use Rattle.ranges.specs.Range.{tabulate}
use Rattle.model.specs.Step as step
use Rattle.model.specs.Rows.{parts, part_place, row_in}
use Rattle.rows.specs.declared.view.Row.{Row}
use Rattle.rows.specs.declared.view.Rows.{Rows}

-- its places, as a buffer that has this row alone
abbrev pub places_of : Row → List ℤ
places_of row = row.places.now

-- the row that stands there
abbrev pub row_of : Row → step.Row
row_of row = row_in row.n (places_of row) 0

-- the n numbers of part p of row j, as they stand in a buffer
unfoldable pub part_in : ℕ → List ℤ → ℕ → ℕ → List ℤ
part_in n buffer j p = tabulate n (λ i. get_or buffer (part_place n j p i) (pos 0))

-- .. and in a row
abbrev pub part_of : Row → ℕ → List ℤ
part_of row p = part_in row.n (places_of row) 0 p

-- it is row j of a buffer of rows of n quantities
pub record Stands (n j : ℕ) (buffer : List ℤ) (row : Row) : Type 0 where
  pub quantities : row.n ≡ n
  pub row_is : row_of row ≡ row_in n buffer j
  pub parts_are : (p : ℕ) → p < parts → part_of row p ≡ part_in n buffer j p

-- ---- the first rows of a buffer

-- the buffer in which they stand
abbrev pub buffer_of : Rows → List ℤ
buffer_of rows = rows.places.now

-- they are the first `count` of a buffer of rows of n quantities
pub record Shows (n count : ℕ) (buffer : List ℤ) (rows : Rows) : Type 0 where
  pub quantities : rows.n ≡ n
  pub counted : rows.count ≡ count
  pub buffer_is : buffer_of rows ≡ buffer
