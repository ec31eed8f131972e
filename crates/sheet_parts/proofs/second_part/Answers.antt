-- `sheet_parts::second_part` meets its contract: the sheet with another head and other starts.
use Prim.Native.Nat.{ℕ, ◌-◌, ◌≤◌}
use mathlib.Core.List.{List, map}
use mathlib.Core.Path.{◌≡◌, refl, sym, ap, ◌∙◌}
use native.Mathlib.Omega.{arith}
use borrow.Author.Rules.{rules}
use lib.IntN.{ℤ}
use lib.ListN.{length, get_or, take, length-take}
use mir.Syntax.{w64}
use mir.Val.{SFits}
use mir.Facts.{to_z-of_z}
use Rattle.std.proofs.lemmas.List.{get_or-take}
use Rattle.model.specs.Sheet.{most_steps, quantities_held}
use Rattle.model.specs.Step.{no_ball}
use Rattle.model.specs.Rows.{balls_of}
use Rattle.model.specs.declared.Ball.{Ball}
use Rattle.model.specs.declared.Quantity.{Quantity}
use Rattle.model.specs.declared.Sheet.{Sheet}
use Rattle.stored.specs.Conversion.{with_steps, starting_from, second_part}
use Rattle.ranges.proofs.Ranges.{tabulate_is}
use Rattle.sheet_parts.proofs.second_part.Goals as goal

-- the first n balls
first_balls : (n : ℕ) (balls : List Ball) → n ≤ length balls → take n balls ≡ balls_of n balls
unfolding balls_of
first_balls n balls few =
    sym (tabulate_is n (λ i. get_or balls i no_ball) no_ball (take n balls) (rw length-take (omega arith)) (λ i h. sym (get_or-take n balls i no_ball h)))

-- with so many steps, the same step and these quantities
second_is : (sheet : Sheet) (balls : List Ball) {steps : ℕ} {step : ℤ} {quantities : List Quantity} → steps ≡ sheet.head.steps - most_steps → step ≡ sheet.head.step → quantities ≡ quantities_held (map starting_from balls) → record { head = record { n = sheet.head.n; steps = steps; step = step; tail = sheet.head.tail; tol = sheet.head.tol }; quantities = quantities; terms = sheet.terms } ≡ second_part most_steps sheet balls
unfolding second_part with_steps
second_is sheet balls left same starts = rw (left, same, starts)

pub returns : goal.returns
returns c =
    let fits : SFits w64 c.args.sheet.now.head.step = search rules in
    let room : c.args.sheet.now.head.n ≤ length c.args.balls.now = search rules in
    second_is c.args.sheet.now (balls_of c.args.sheet.now.head.n c.args.balls.now) refl (to_z-of_z fits) (c.starting_from.ensures ∙ ap (λ (balls : List Ball). quantities_held (map starting_from balls)) (first_balls c.args.sheet.now.head.n c.args.balls.now room))
