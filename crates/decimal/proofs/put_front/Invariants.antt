-- What the loop of `put_front` keeps: after i turns the first i bytes are put.
use Rattle.std.proofs.Common.{◌+◌, take}
use Rattle.printing.specs.Pieces.{Put}
use Rattle.decimal.proofs.put_front.Given as goal

abbrev pub invariant-loop-i : goal.invariant-loop-i
invariant-loop-i l = Put l.initial.text l.at (take l.i l.bytes) (l.at + l.i) l.text
