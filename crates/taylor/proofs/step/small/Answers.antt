-- `taylor::step::small` meets its contract: the test of every ball.
use mathlib.Core.Bool.{true, false}
use mathlib.Core.Path.{◌≡◌}
use borrow.Author.Rules.{rules}
use lib.Dec.{leb}
use Rattle.std.proofs.lemmas.Iterator.{cases_from_all, YieldsList-from_slice}
use Rattle.model.specs.Sheet.{most}
use Rattle.model.specs.Step.{reach}
use Rattle.model.specs.Passage.{small}
use Rattle.taylor.proofs.EveryBall.{every_ball}
use Rattle.taylor.proofs.step.small.Goals as goal

pub returns : goal.returns
unfolding small
returns c =
    every_ball (λ ball. leb (reach ball) most) c.args.balls.now _ (cases_from_all _ _ _ (λ ball. leb (reach ball) most ≡ true) (λ ball. leb (reach ball) most ≡ false) c.all.ensures.ran (YieldsList-from_slice c.args.balls.now cc) (λ x q k. search rules) (λ x q k. search rules))
