-- What comes of a sheet's bytes, with so many places lent for the rows, and of an input of any length.
use Rattle.std.specs.Prelude.{ℕ, List, [], ◌∷◌, ◌≡◌, ℤ, length, take, Err, Ok}
use Rattle.model.specs.Answer.{answer}
use Rattle.model.specs.Rows.{written}
use Rattle.model.specs.Passage.{Run, refused, passage}
use Rattle.model.specs.Reading.{read_sheet}
use Rattle.model.specs.Sheet.{result, refused_step}
use Rattle.answer.specs.declared.Ended.{Ended}

-- a sheet's passage, or its refusal and no row. With places enough it is `run_of` of document 01 (proofs/Answered.antt).
unfoldable pub run_lent : List ℕ → ℕ → Run
run_lent sheet places =
    let read = read_sheet sheet in
    elim read.outcome [ Ok done ↦ passage read.sheet places | Err stop ↦ refused stop.refusal stop.step ]

-- the sheet's quantities, 0 where it was refused, the rows written, and the outcome
unfoldable pub ended_of : List ℕ → ℕ → Ended
ended_of sheet places =
    let run = run_lent sheet places in
    record { n = (read_sheet sheet).sheet.head.n; count = length run.rows; outcome = run.outcome }

-- A sheet was read and run: what came of it, and the buffer lent for the rows, before and after.
pub record Ran (sheet : List ℕ) (before after : List ℤ) (ended : Ended) : Type 0 where
  pub answer : ended ≡ ended_of sheet (length before)
  pub buffer : after ≡ written (run_lent sheet (length before)).rows before

-- how many numbers a summary has
abbrev pub summary_length : ℕ
summary_length = 4

-- the same as so many numbers: result, refused step, quantities, rows
unfoldable pub summary_of : Ended → List ℕ
summary_of ended = result ended.outcome ∷ refused_step ended.outcome ∷ ended.n ∷ ended.count ∷ []

-- ---- an input of any length

-- The bytes that are read of an input into a buffer of so many: all of it, or as many as there is room for. Whatever an input is, it has such bytes,
-- and whatever they are, they are those of an input (proofs/Answered.antt).
unfoldable pub FrontOf : ℕ → List ℕ → List ℕ → Type 0
FrontOf room input bytes = bytes ≡ take room input

-- Two texts are read as the same sheet, and so have the same answer.
pub record AnswersAlike (one other : List ℕ) : Type 0 where
  pub reading : read_sheet one ≡ read_sheet other
  pub text : answer one ≡ answer other
