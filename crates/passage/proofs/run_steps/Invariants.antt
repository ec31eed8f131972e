-- What the loop of `run_steps` keeps.
use Rattle.model.specs.Rows.{balls_of}
use Rattle.laws.proofs.Passages.UnderWay.{Underway}
use Rattle.coefficients.specs.Orders.{Usable}
use Rattle.passage.proofs.run_steps.Given as goal

abbrev pub invariant-loop-done : goal.invariant-loop-done
invariant-loop-done l = Underway l.terms l.head.step l.head.tail l.head.tol l.head.steps l.head.n (balls_of l.head.n l.initial.balls) l.initial.rows l.done (balls_of l.head.n l.balls) l.rows × Usable l.head.n l.table
