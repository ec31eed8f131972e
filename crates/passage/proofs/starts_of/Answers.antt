-- `passage::starts_of` meets its contract.
use Prim.Native.Nat.{◌<◌}
use borrow.Author.Rules.{rules}
use mathlib.Core.Path.{◌≡◌, refl, ap, ◌∙◌}
use native.Mathlib.Omega.{arith}
use lib.ListN.{length, get_or, set}
use Rattle.std.proofs.lemmas.List.{get_or_default}
use Rattle.model.specs.Sheet.{no_quantity, start_ball, starts_of}
use Rattle.model.specs.Step.{no_ball}
use Rattle.ranges.specs.Range.{tabulate}
use Rattle.ranges.proofs.Stores.{stored_in_front}
use Rattle.laws.proofs.Passages.LaidOut.{stored_laid_out}
use Rattle.passage.proofs.starts_of.Goals as goal

pub loop-i-init : goal.loop-i-init
unfolding tabulate no_ball
loop-i-init c = refl

pub loop-i-preserved : goal.loop-i-preserved
loop-i-preserved c =
    let quantities = c.args.sheet.now.quantities in
    let inside : c.loop-i.i < length quantities = search rules in
    ap (set c.loop-i.balls c.loop-i.i) (c.start_ball.ensures ∙ ap start_ball (get_or_default quantities c.loop-i.i _ no_quantity inside)) ∙ stored_in_front _ c.loop-i.i _ c.loop-i.invariant

pub returns : goal.returns
unfolding starts_of
returns c =
    let sheet = c.args.sheet.now in
    let all : c.loop-i.i ≡ sheet.head.n = omega arith in
    rw all at (stored_laid_out c.loop-i.i (λ k. start_ball (get_or sheet.quantities k no_quantity)) (omega (arith, c.requires)) c.loop-i.invariant)
