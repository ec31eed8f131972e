-- `answer::run_sheet` meets its contract. A refused sheet has no rows; a passage's stand in the buffer.
use Rattle.answer.proofs.Answered.{ran_refused, ran_accepted}
use Rattle.answer.proofs.run_sheet.Goals as goal

pub returns-in-Err : goal.returns-in-Err
returns-in-Err c = ran_refused c.args.sheet.now c.read-reading.ensures.whole c.args.rows.now c.in-Err.is

pub returns : goal.returns
returns c =
    rw c.rows_written.ensures (ran_accepted c.args.sheet.now c.read-reading.ensures.whole c.args.rows.now c.in_default.is c.run-outcome.ensures.ended c.run-outcome.ensures.leaves.buffer)
