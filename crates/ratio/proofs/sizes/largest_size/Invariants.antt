-- What the loop of `largest_size` keeps: the largest size of the targets passed.
use mathlib.Core.Path.{◌≡◌}
use Rattle.ranges.specs.Range as range
use Rattle.model.specs.Step as rule
use Rattle.ratio.specs.Ratio.{sum_at}
use Rattle.ratio.proofs.sizes.largest_size.Given as goal

abbrev pub invariant-loop-own : goal.invariant-loop-own
invariant-loop-own l = l.largest ≡ range.largest l.own-index (λ i. rule.size l.reach (sum_at l.sums i))
