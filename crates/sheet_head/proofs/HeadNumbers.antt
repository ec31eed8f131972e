-- Document 01's number and values of what the lines above the quantities hold: worked cases, and that an answer which is read as the definitions'
-- has theirs.
use Rattle.std.proofs.Common.{◌≡◌, ℕ, List, [], ◌∷◌, map, Result, Ok, Err, Bor, refl, ap, ◌∙◌, pos, neg_ℤ}
use Rattle.ranges.specs.Range.{bytes}
use Rattle.model.specs.Sheet.{no_head}
use Rattle.model.specs.Reading.{Parsed, gives, head}
use Rattle.model.specs.declared.Head.{Head}
use Rattle.model.specs.declared.Refusal.{Refusal}
use Rattle.model.specs.declared.Refusal.TheVariants.{Misspelt, OutOfRange}
use Rattle.model.proofs.Definitions.{EveryDefinition}
use Rattle.lines.specs.Fields.{read_as}
use Rattle.sheet_head.specs.HeadRead.{head_gives}

-- five numbers ..
abbrev five : Head
five = record { n = 1; steps = 2; step = neg_ℤ (pos 3); tail = 4; tol = 5 }

-- .. and zeros
abbrev zeros : Head
zeros = record { n = 0; steps = 0; step = pos 0; tail = 0; tol = 0 }

-- answers with what each gives, whatever is left of the text, and texts: all five lines, a step of 0, and a text that ends before its last line
pub heads_give : (rest : Bor (List ℕ)) →
    (map head_gives (Ok (five, rest) ∷ Err OutOfRange ∷ Err Misspelt ∷ []) ≡ (0, five) ∷ (3, zeros) ∷ (2, zeros) ∷ [])
    × (map (λ text. gives no_head (head 240 (bytes text))) ("n=1\nsteps=2\nstep=-3\ntail=4\ntol=5\n" ∷ "n=1\nsteps=2\nstep=0\ntail=4\ntol=5\n" ∷ "n=1\nsteps=2\nstep=-3\ntail=4\n" ∷ []) ≡ (0, five) ∷ (3, zeros) ∷ (2, zeros) ∷ [])
unfolding EveryDefinition head_gives
heads_give rest = (refl, refl)

pub head_numbered : (r : Result (Head × Bor (List ℕ)) Refusal) {meant : Parsed Head} → read_as r ≡ meant → head_gives r ≡ gives no_head meant
head_numbered r e = numbered r ∙ ap (gives no_head) e
  where
    numbered : (r : Result (Head × Bor (List ℕ)) Refusal) → head_gives r ≡ gives no_head (read_as r)
    numbered (Ok x) = unfold head_gives gives in refl
    numbered (Err refusal) = unfold head_gives gives in refl
