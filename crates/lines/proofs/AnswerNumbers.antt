-- Document 01's number and value of an answer: worked cases, and that an answer which is read as the definitions' has theirs.
use Rattle.std.proofs.Common.{◌≡◌, ℕ, ℤ, Bool, List, [], ◌∷◌, map, Option, Some, None, Result, Ok, Err, Bor, refl, ap, ◌∙◌, pos, neg_ℤ, true}
use Rattle.ranges.specs.Range.{bytes}
use Rattle.model.specs.Sheet.{coef_limits, radius_limits}
use Rattle.model.specs.Reading.{Parsed, gives, ranged}
use Rattle.model.specs.declared.Refusal.{Refusal}
use Rattle.model.specs.declared.Refusal.TheVariants.{Misspelt, OutOfRange, NoReading}
use Rattle.model.proofs.Definitions.{EveryDefinition}
use Rattle.lines.specs.Lines.{spelled_as, spelling, line_after, line_asked, line_gives}
use Rattle.lines.specs.Fields.{read_as, whole_after, natural_after, field_gives}

-- answers, with the number and the value of each, whatever is left of the text ..
pub answers_give : (rest : Bor (List ℕ)) →
    (map line_gives (Some (neg_ℤ (pos 5), rest) ∷ None ∷ []) ≡ (0, neg_ℤ (pos 5)) ∷ (2, pos 0) ∷ [])
    × (map (field_gives (pos 0)) (Ok (neg_ℤ (pos 5), rest) ∷ Err Misspelt ∷ Err OutOfRange ∷ Err NoReading ∷ []) ≡ (0, neg_ℤ (pos 5)) ∷ (2, pos 0) ∷ (3, pos 0) ∷ (4, pos 0) ∷ [])
    × (map (field_gives {A = ℕ} 0) (Ok (5, rest) ∷ Err Misspelt ∷ Err OutOfRange ∷ []) ≡ (0, 5) ∷ (2, 0) ∷ (3, 0) ∷ [])
unfolding EveryDefinition line_gives field_gives
answers_give rest = (refl, refl, refl)

-- .. and texts: a line by itself takes any number that is rightly spelled, a field one in its range, and without a minus none that has one
pub texts_give :
    (map (λ text. gives (pos 0) (line_asked (bytes "coef=") true (bytes text))) ("coef=-5\n" ∷ "coef=268435457\n" ∷ "coef=-05\n" ∷ "coef=5" ∷ "cost=5\n" ∷ []) ≡ (0, neg_ℤ (pos 5)) ∷ (0, pos 268435457) ∷ (2, pos 0) ∷ (2, pos 0) ∷ (2, pos 0) ∷ [])
    × (map (λ text. gives (pos 0) (whole_after (bytes "coef=") true coef_limits (bytes text))) ("coef=-5\n" ∷ "coef=268435457\n" ∷ "coef=-05\n" ∷ []) ≡ (0, neg_ℤ (pos 5)) ∷ (3, pos 0) ∷ (2, pos 0) ∷ [])
    × (map (λ text. gives 0 (natural_after (bytes "radius=") radius_limits (bytes text))) ("radius=5\n" ∷ "radius=536870913\n" ∷ "radius=-5\n" ∷ []) ≡ (0, 5) ∷ (3, 0) ∷ (2, 0) ∷ [])
unfolding EveryDefinition line_asked line_after spelling whole_after natural_after
texts_give = (refl, refl, refl)

-- ---- an answer that is read as what the definitions parse has its number and its value

-- of a line ..
pub line_numbered : (r : Option (ℤ × Bor (List ℕ))) (key : List ℕ) (minus : Bool) (l : List ℕ) → spelled_as r ≡ line_after key minus l → line_gives r ≡ gives (pos 0) (line_asked key minus l)
unfolding line_asked
line_numbered r key minus l e = numbered r ∙ ap (λ x. gives (pos 0) (ranged (λ z. true) x)) e
  where
    numbered : (r : Option (ℤ × Bor (List ℕ))) → line_gives r ≡ gives (pos 0) (ranged (λ z. true) (spelled_as r))
    numbered (Some x) = unfold line_gives gives ranged in refl
    numbered None = unfold line_gives gives ranged in refl

-- .. and of a field
pub field_numbered : {A : Type 0} (blank : A) (r : Result (A × Bor (List ℕ)) Refusal) {meant : Parsed A} → read_as r ≡ meant → field_gives blank r ≡ gives blank meant
field_numbered {A} blank r e = numbered r ∙ ap (gives blank) e
  where
    numbered : (r : Result (A × Bor (List ℕ)) Refusal) → field_gives blank r ≡ gives blank (read_as r)
    numbered (Ok x) = unfold field_gives gives in refl
    numbered (Err refusal) = unfold field_gives gives in refl
