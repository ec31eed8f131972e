-- `clearance::planner_first_clear` meets its contract: the number of the answer to the query as it is lent.
use Rattle.clear_rule.proofs.WholeClaim.{numbered}
use Rattle.clearance.proofs.planner_first_clear.Goals as goal

pub found_number-requires : goal.found_number-requires
found_number-requires c = numbered _ _ _ _ c.first_clear.ensures.found
