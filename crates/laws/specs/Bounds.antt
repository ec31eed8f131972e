-- What the functions of one step ask of the terms, the step and the balls that they are handed, so that no working number leaves 64 bits. A sheet
-- that passes question 3 has it, of its terms as read and gathered (proofs/Bounds/SheetBounds.antt, proofs/Gathering/GatheredBounds.antt), and
-- questions 4 and 5 give the rest.
use Rattle.std.specs.Prelude.{ℕ, ◌*◌, ◌≤◌, ◌<◌, List, ◌≡◌, ℤ, nat_abs, length, get_or}
use Rattle.ranges.specs.Range.{sum}
use Rattle.model.specs.Sheet.{scale, most, most_terms, most_coef, no_term}
use Rattle.model.specs.Step.{no_ball, reach, greatest, ratio}
use Rattle.model.specs.declared.Ball.{Ball}
use Rattle.model.specs.Passage.{most_ratio}
use Rattle.model.specs.declared.Term.{Term}

-- the sum of |A| over all terms
unfoldable pub total : List Term → ℕ
total terms = sum (length terms) (λ j. nat_abs (get_or terms j no_term).coef)

-- the most that it is: the most terms with the largest coefficient
unfoldable pub most_total : ℕ
most_total = most_terms * most_coef

-- the terms are few enough, and their |A| small enough in all, to be summed up in 64 bits
pub record Summable (terms : List Term) : Type 0 where
  pub count : length terms ≤ most_terms
  pub total : total terms ≤ most_total

-- What a sheet's verdict says of its terms and its step, n being the number of quantities. Of the coefficients only their total is bounded: a
-- gathered one may pass the range of those as read.
pub record TermsInBounds (terms : List Term) (H : ℤ) (n : ℕ) : Type 0 where
  pub summable : Summable terms
  pub formed : (j : ℕ) → (get_or terms j no_term).first ≡ 0 → (get_or terms j no_term).second ≡ 0
  pub step : nat_abs H ≤ scale
  pub to_low : (j : ℕ) → j < length terms → 1 ≤ (get_or terms j no_term).to
  pub to_high : (j : ℕ) → j < length terms → (get_or terms j no_term).to ≤ n
  pub first_high : (j : ℕ) → j < length terms → (get_or terms j no_term).first ≤ n
  pub second_high : (j : ℕ) → j < length terms → (get_or terms j no_term).second ≤ n

-- What questions 4 and 5 say besides, of the balls that a step starts from.
pub record InBounds (terms : List Term) (H : ℤ) (balls : List Ball) : Type 0 where
  pub sheet : TermsInBounds terms H (length balls)
  pub small : (i : ℕ) → i < length balls → reach (get_or balls i no_ball) ≤ most
  pub slow : ratio terms H (length balls) (greatest balls) ≤ most_ratio
