-- `sheet_parts::starting_from` meets its contract.
use Prim.Native.Nat.{◌≤◌}
use mathlib.Core.List.{List, map}
use mathlib.Core.Path.{◌≡◌, refl, sym, ap, ◌∙◌}
use native.Mathlib.Omega.{arith}
use borrow.Author.Rules.{rules}
use lib.ListN.{length, get_or, replicate}
use lib.Seq.{sets}
use mir.Syntax.{w64}
use mir.Val.{SFits}
use mir.Facts.{to_z-of_z}
use Rattle.ranges.specs.Range.{tabulate}
use Rattle.model.specs.Sheet.{most_quantities, no_quantity, quantities_held}
use Rattle.model.specs.Step.{no_ball}
use Rattle.model.specs.declared.Ball.{Ball}
use Rattle.model.specs.declared.Quantity.{Quantity}
use Rattle.stored.specs.Conversion.{starting_from}
use Rattle.ranges.proofs.Ranges.{map_tabulate, tabulate_is}
use Rattle.ranges.proofs.Stores.{stored_in_front}
use Rattle.laws.proofs.Passages.LaidOut.{stored_front}
use Rattle.sheet_parts.proofs.starting_from.Invariants.{starting}
use Rattle.sheet_parts.proofs.starting_from.Goals as goal

-- the quantities of all balls
all_started : (balls : List Ball) {quantities : List Quantity} → length balls ≤ most_quantities → quantities ≡ sets (replicate most_quantities no_quantity) 0 (tabulate (length balls) (starting balls)) → quantities ≡ quantities_held (map starting_from balls)
unfolding quantities_held
all_started balls few held =
    let all : tabulate (length balls) (λ i. get_or balls i no_ball) ≡ balls = tabulate_is (length balls) (λ i. get_or balls i no_ball) no_ball balls refl (λ i h. refl) in
    held ∙ stored_front no_quantity (length balls) (starting balls) few ∙ ap quantities_held (sym (map_tabulate (length balls) (λ i. get_or balls i no_ball) starting_from) ∙ ap (map starting_from) all)

pub loop-i-init : goal.loop-i-init
unfolding tabulate no_quantity
loop-i-init c = refl

pub loop-i-preserved : goal.loop-i-preserved
unfolding starting_from no_ball
loop-i-preserved c =
    let fits : SFits w64 (get_or c.args.balls.now c.loop-i.i no_ball).value = search rules in
    rw (to_z-of_z fits) (stored_in_front _ c.loop-i.i (starting c.args.balls.now) c.loop-i.invariant)

pub returns : goal.returns
returns c =
    let all : c.loop-i.i ≡ length c.args.balls.now = omega (arith, c.loop-i.auto.i-end, c.loop-i-test.false) in
    all_started c.args.balls.now c.requires (rw all at c.loop-i.invariant)
