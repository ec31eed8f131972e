-- The lines so far gave the front of the list.
use Rattle.model.specs.Sheet.{most_quantities, no_quantity}
use Rattle.model.specs.Reading.{quantity}
use Rattle.sheet_body.proofs.Arrays.{Filled}
use Rattle.sheet_body.proofs.read_quantities.Given as goal

abbrev pub invariant-loop-i : goal.invariant-loop-i
invariant-loop-i l = Filled quantity most_quantities no_quantity l.text l.i l.quantities l.rest
