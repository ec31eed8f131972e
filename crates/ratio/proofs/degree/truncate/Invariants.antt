-- What the loop of `truncate` keeps.
use Prim.Native.Nat.{ℕ, ◌<◌}
use mathlib.Core.Path.{◌≡◌}
use Rattle.model.specs.Step as rule
use Rattle.ratio.proofs.degree.truncate.Given as goal

-- the majorant is that of the order, and the tails of the orders passed are over the limit
abbrev pub invariant-loop-degree : goal.invariant-loop-degree
invariant-loop-degree l = (l.majorant ≡ rule.majorant l.reach l.ratio l.degree) × ((j : ℕ) → j < l.degree → l.limit < rule.tail_at l.reach l.ratio j)
