-- What the steps of a passage ask.
use Rattle.std.specs.Prelude.{◌*◌, ◌^◌, ◌≤◌, ◌<◌, List, ℤ, length}
use Rattle.model.specs.Sheet.{most_steps}
use Rattle.model.specs.Rows.{width}
use Rattle.model.specs.declared.Head.{Head}
use Rattle.model.specs.declared.Term.{Term}
use Rattle.taylor.specs.StepAnswers.{CanStep}

-- What the steps of a passage ask: what each step asks, and room for a row of each.
pub record CanRun (head : Head) (terms : List Term) (rows : List ℤ) : Type 0 where
  pub each : CanStep head terms
  pub steps : head.steps ≤ most_steps
  pub tol : head.tol < 2 ^ 63
  pub room : head.steps * width head.n ≤ length rows
