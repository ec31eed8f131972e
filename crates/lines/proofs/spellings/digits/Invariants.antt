-- So many digits more from here give what was asked from the start, and a number of so many digits is below that power of ten.
use Rattle.std.proofs.Common.{◌≡◌, ◌-◌, ◌^◌, ◌<◌}
use Rattle.model.specs.Sheet.{most_digits}
use Rattle.model.specs.Reading.{digits}
use Rattle.lines.proofs.spellings.digits.Given as goal

abbrev pub invariant-loop : goal.invariant-loop
invariant-loop l = record {
  short : l.value < 10 ^ l.counter;
  so_far : digits (most_digits - l.counter) l.value l.rest ≡ digits (most_digits - 1) l.first l.text;
}
