-- What the loop of `Lines::bytes` keeps: after i turns the first i bytes are put.
use Rattle.std.proofs.Common.{◌≡◌, ◌++◌, take}
use Rattle.decimal.proofs.Lines.bytes.Given as goal

abbrev pub invariant-loop-byte : goal.invariant-loop-byte
invariant-loop-byte g l = l.self ≡ l.initial.self ++ take l.byte-index l.bytes
