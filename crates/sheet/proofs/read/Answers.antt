-- `sheet::read` meets its contract: a reading's number.
use Rattle.model.specs.Reading.{accepted}
use Rattle.sheet.proofs.Numbered.{numbered}
use Rattle.sheet.proofs.read.Goals as goal

pub returns-in-Ok-clause-numbered : goal.returns-in-Ok-clause-numbered
unfolding accepted
returns-in-Ok-clause-numbered c = numbered c.args.most c.args.text.now c.in-Ok.ensures

pub returns-in-Err-clause-numbered : goal.returns-in-Err-clause-numbered
unfolding accepted
returns-in-Err-clause-numbered c = rw c.into.ensures (numbered c.args.most c.args.text.now c.in-Err.ensures)
