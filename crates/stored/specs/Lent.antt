-- The conversion with so many places lent for the rows of a first part: what is printed, and the run whose rows stand in the buffer.
use Rattle.std.specs.Prelude.{ℕ, true, false, List, [], leb, Ok, Err}
use Rattle.model.specs.Sheet.{not_refused, most_steps, stored_steps}
use Rattle.model.specs.Reading.{read_sheet_to}
use Rattle.model.specs.Passage.{Run, refused, passage}
use Rattle.stored.specs.Conversion.{first_part, converted_by}

-- what is printed for a stored sheet's bytes. With places enough it is `converted`.
unfoldable pub converted_lent : List ℕ → ℕ → List ℕ
converted_lent text places = converted_by most_steps stored_steps (λ sheet. passage sheet places) text

-- the run of its first part, where it has more steps than a passage may have; a refused sheet, or one of no more, runs nothing
unfoldable pub split_lent : List ℕ → ℕ → Run
split_lent text places =
    let read = read_sheet_to stored_steps text in
    elim read.outcome [
      | Err stop ↦ refused stop.refusal stop.step
      | Ok done ↦ elim (leb read.sheet.head.steps most_steps) [
        | true ↦ record { rows = []; outcome = not_refused }
        | false ↦ passage (first_part most_steps read.sheet) places
      ]
    ]
