-- Document 02, the conversion of stored sheets, with places lent for the rows of a first part, and of an input of any length.
use Rattle.std.specs.Prelude.{ℕ, ◌*◌, ◌≤◌, ◌<◌, List, ◌≡◌}
use Rattle.model.specs.Sheet.{most_steps, stored_steps}
use Rattle.model.specs.Reading.{read_sheet_to}
use Rattle.model.specs.Rows.{width}
use Rattle.stored.specs.Conversion.{converted, ComesOutAs}
use Rattle.stored.specs.Lent.{converted_lent}

-- A stored sheet comes out so, where one of more steps than a passage may have has places lent for a row of each that it may have.
unfoldable pub ComesOutWith : ℕ → List ℕ → Type 0
ComesOutWith places sheet =
    let head = (read_sheet_to stored_steps sheet).sheet.head in
    (most_steps < head.steps → most_steps * width head.n ≤ places) → ComesOutAs sheet (converted_lent sheet places)

-- Two texts are read as the same stored sheet, and come out alike.
pub record ConvertsAlike (one other : List ℕ) : Type 0 where
  pub reading : read_sheet_to stored_steps one ≡ read_sheet_to stored_steps other
  pub text : converted one ≡ converted other
