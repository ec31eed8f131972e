-- `limits::second_limits`: where there is no first factor, 0 .. 0.
use Rattle.model.specs.Sheet.{second_limits, from◌to◌}
use Rattle.limits.proofs.second_limits.Goals as goal

pub returns-then-first-eq0 : goal.returns-then-first-eq0
unfolding second_limits from◌to◌
returns-then-first-eq0 c = rw c.if-first-eq0.true
