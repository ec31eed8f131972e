-- What a refused text is read as, by one name: to unfold it is to unfold each of these definitions.
use Rattle.model.specs.Sheet.{no_head, no_quantity, no_term, no_sheet, quantities_held, terms_held, padded}
use Rattle.model.specs.Reading.{accepted}

unfoldable pub Zeros : Type 0
unfolding accepted no_sheet no_head no_quantity no_term quantities_held terms_held padded
Zeros = Unit {0}
