-- What the loop of `close_order` keeps.
use lib.ListN.{get_or}
use Rattle.model.specs.Step.{no_ball}
use Rattle.coefficients.specs.Orders.{Closed}
use Rattle.coefficients.proofs.close_order.Given as goal

abbrev pub invariant-loop-i : goal.invariant-loop-i
invariant-loop-i l = Closed (λ i. get_or l.sums i no_ball) l.k l.i l.initial.table l.table
