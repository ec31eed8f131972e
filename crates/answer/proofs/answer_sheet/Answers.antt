-- `answer::answer_sheet` meets its contract. Its rows have places enough for every sheet, so the answer is document 01's.
use Prim.Native.Nat.{ℕ, ◌*◌}
use mathlib.Core.List.{List}
use mathlib.Core.Path.{refl, subst}
use borrow.Author.Tests.{leb-true}
use Rattle.model.specs.Sheet.{most_quantities, most_steps}
use Rattle.model.specs.Rows.{width}
use Rattle.printing.specs.Pieces.{Printed}
use Rattle.answer.proofs.Answered.{enough_is_answer}
use Rattle.answer.proofs.answer_sheet.Goals as goal

pub returns-clause-printed : goal.returns-clause-printed
unfolding width
returns-clause-printed c =
    subst (λ (text : List ℕ). Printed c.args.text.now text c.planner_answer.result c.planner_answer.new.text) (enough_is_answer c.args.sheet.now _ (leb-true (most_steps * width most_quantities) _ refl)) c.planner_answer.ensures.printed
