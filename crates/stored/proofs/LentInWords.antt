-- What is run of a stored sheet with so many places lent, in words: nothing of one that is refused as a sheet or has no more steps than a passage may have, and
-- of any other the first part.
use Prim.Native.Nat.{ℕ, ◌≤◌, ◌<◌}
use mathlib.Core.List.{List, []}
use mathlib.Core.Path.{◌≡◌, refl}
use borrow.Author.Tests.{le-leb, lt-leb}
use Rattle.model.specs.Sheet.{not_refused, refused_at, most_steps, stored_steps}
use Rattle.model.specs.Reading.{read_sheet_to}
use Rattle.model.specs.Passage.{refused, passage}
use Rattle.model.specs.declared.Refusal.{Refusal}
use Rattle.stored.specs.Conversion.{first_part}
use Rattle.stored.specs.Lent.{split_lent}

module _ (text : List ℕ) (places : ℕ) where
  pub lent_refused : {r : Refusal} {step : ℕ} → (read_sheet_to stored_steps text).outcome ≡ refused_at r step → split_lent text places ≡ refused r step
  unfolding split_lent
  lent_refused e = rw (e, split_lent)

  pub lent_short : (read_sheet_to stored_steps text).outcome ≡ not_refused → (read_sheet_to stored_steps text).sheet.head.steps ≤ most_steps → split_lent text places ≡ record { rows = []; outcome = not_refused }
  unfolding split_lent
  lent_short e short = rw (e, split_lent, le-leb (read_sheet_to stored_steps text).sheet.head.steps most_steps short) refl

  pub lent_long : (read_sheet_to stored_steps text).outcome ≡ not_refused → most_steps < (read_sheet_to stored_steps text).sheet.head.steps → split_lent text places ≡ passage (first_part most_steps (read_sheet_to stored_steps text).sheet) places
  unfolding split_lent
  lent_long e long = rw (e, split_lent, lt-leb (read_sheet_to stored_steps text).sheet.head.steps most_steps long)
