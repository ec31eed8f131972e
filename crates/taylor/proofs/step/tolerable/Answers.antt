-- `taylor::step::tolerable` meets its contract: the test of every ball.
use mathlib.Core.Bool.{true, false}
use mathlib.Core.Path.{◌≡◌}
use borrow.Author.Rules.{rules}
use borrow.Author.Tests.{tests}
use lib.Dec.{leb}
use Rattle.std.proofs.lemmas.Iterator.{cases_from_all, YieldsList-from_slice}
use Rattle.model.specs.Passage.{tolerable}
use Rattle.taylor.proofs.EveryBall.{every_ball}
use Rattle.taylor.proofs.step.tolerable.Goals as goal

pub returns : goal.returns
unfolding tolerable
returns c =
    every_ball (λ ball. leb ball.radius c.args.tol) c.args.balls.now _ (cases_from_all _ _ _ (λ ball. leb ball.radius c.args.tol ≡ true) (λ ball. leb ball.radius c.args.tol ≡ false) c.all.ensures.ran (YieldsList-from_slice c.args.balls.now cc) (λ x q k. search (rules, tests)) (λ x q k. search (rules, tests)))
