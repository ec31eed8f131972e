-- What reading an input came to. Document 01 has no number for it: an input that cannot be read has no answer.
use Rattle.std.specs.Prelude.{ℕ, zero, suc, min, Bool, true, false, Result, Ok, Err, Option, Some, None}

-- how many bytes were read, and none where a read failed
unfoldable pub counted : {E : Type 0} → Result ℕ E → ℕ
counted (Ok count) = count
counted (Err e) = 0

-- whether no read failed
unfoldable pub readable : {E : Type 0} → Result ℕ E → Bool
readable (Ok count) = true
readable (Err e) = false

-- so many bytes more; where there are none, the input has ended
unfoldable pub bytes_more : ℕ → Option ℕ
bytes_more zero = None
bytes_more (suc more) = Some (suc more)

-- what a read came to that had room for so many bytes, by what it answered: an error is a failure, and no byte is counted past the room
unfoldable pub turn_of : {E : Type 0} → Result ℕ E → ℕ → Result (Option ℕ) E
turn_of (Ok k) room = Ok (bytes_more (min k room))
turn_of (Err e) room = Err e
