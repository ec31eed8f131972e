-- Z0, Z1 and Z2 of each target as the code holds them.
use Rattle.std.specs.Prelude.{ℕ, suc, ◌≤◌, ◌<◌, List, [], ◌≡◌, length, get_or}
use Rattle.model.specs.Sheet.{scale, most}
use Rattle.model.specs.Step.{coefs}
use Rattle.laws.specs.Bounds.{most_total}
use Rattle.model.specs.declared.Term.{Term}

-- a term has no factor, one or two: so many sums has a target
abbrev pub counts : ℕ
counts = 3

-- the sum of |A| over the terms of target i, from 0, with so many factors
unfoldable pub sum_at : List (List ℕ) → ℕ → ℕ → ℕ
sum_at sums i count = get_or (get_or sums i []) count 0

-- they are those of the first n targets of these terms
pub record SumsOf (terms : List Term) (n : ℕ) (sums : List (List ℕ)) : Type 0 where
  pub held : n ≤ length sums
  pub each : (i : ℕ) → i < n → (count : ℕ) → count < counts → sum_at sums i count ≡ coefs terms (suc i) count

-- no sum of a target is above the most that it can be
pub record Few (own : List ℕ) : Type 0 where
  pub each : (count : ℕ) → count < counts → get_or own count 0 ≤ most_total

-- G is one whole at least and 32 at most
pub record Reaching (G : ℕ) : Type 0 where
  pub low : scale ≤ G
  pub high : G ≤ most

-- what the ratio is worked out from: G, and the sums of each quantity
pub record Sized (G : ℕ) (sums : List (List ℕ)) : Type 0 where
  pub few : (i : ℕ) → i < length sums → Few (get_or sums i [])
  pub reaching : Reaching G
