-- `conversion::convert_sheet` meets its contract. Its rows have places enough for every sheet, so the conversion is document 02's.
use Prim.Native.Nat.{ℕ, ◌*◌}
use mathlib.Core.List.{List}
use mathlib.Core.Path.{refl, subst}
use borrow.Author.Tests.{leb-true}
use Rattle.model.specs.Sheet.{most_quantities, most_steps}
use Rattle.model.specs.Rows.{width}
use Rattle.printing.specs.Pieces.{Printed}
use Rattle.conversion.proofs.Converted.{most_are_enough}
use Rattle.conversion.proofs.convert_sheet.Goals as goal

pub returns-clause-printed : goal.returns-clause-printed
unfolding width
returns-clause-printed c =
    subst (λ (text : List ℕ). Printed c.args.text.now text c.planner_convert.result c.planner_convert.new.text) (most_are_enough c.args.sheet.now _ (leb-true (most_steps * width most_quantities) _ refl)) c.planner_convert.ensures.printed
