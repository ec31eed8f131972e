-- What the answer of the reader gives, for the lines above the quantities.
use Rattle.std.specs.Prelude.{ℕ, List, Result, Ok, Err}
use Rattle.std.specs.Borrow.{Bor}
use Rattle.model.specs.Sheet.{number, no_head}
use Rattle.model.specs.declared.Head.{Head}
use Rattle.model.specs.declared.Refusal.{Refusal}

-- document 01's number of an answer, and its values: 0 and what the lines hold, or the refusal's; a refusal has no values, and zeros are put for them
unfoldable pub head_gives : Result (Head × Bor (List ℕ)) Refusal → ℕ × Head
head_gives (Ok x) = (0, x.0)
head_gives (Err r) = (number r, no_head)
