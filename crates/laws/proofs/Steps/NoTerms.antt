-- Document 01's case F in general: without terms, or where all cancel, a step has degree 0 and leaves the values and radii as they are, and
-- its lows and highs are the values less and plus the radii.
use Prim.Native.Nat.{ℕ, zero, suc, ◌+◌, ◌≤◌, ◌<◌}
use mathlib.Core.Path.{◌≡◌, refl, ap, ◌∙◌}
use mathlib.Core.Bool.{Bool, true}
use mathlib.Core.List.{List, [], ◌∷◌}
use native.Mathlib.Omega.{arith}
use native.Mathlib.Nat.{mul-zero, zero-mul, sub-zero}
use lib.IntN.{ℤ, pos, nat_abs, ◌+ℤ◌, ◌-ℤ◌, +ℤ_idl}
use lib.Dec.{leb}
use lib.ListN.{length, get_or, replicate}
use borrow.Author.Tests.{le-leb}
use Rattle.rounding.specs.Rounding.{up}
use Rattle.rounding.proofs.Roundings.{up_is_least}
use Rattle.ranges.specs.Range.{sum, sum_ℤ, largest, tabulate, least}
use Rattle.model.specs.Sheet.{not_refused, scale, no_term, sheet_verdict, passes, listed, terms_of, starts_of}
use Rattle.model.specs.LikeTerms.{coefs_like, filter, summed, gathered}
use Rattle.model.specs.Step.{no_ball, greatest, size, coefs, ratio_by, ratio, majorant, tail_at, degree, coefficient, coefficients_to, Row, new_ball, step_reach, new_span, new_row, step_row}
use Rattle.model.specs.declared.Ball.{Ball}
use Rattle.model.specs.declared.Span.{Span}
use Rattle.model.specs.Passage.{moves, question, small, slow, most_ratio, tolerable, tolerated, advance, go_on, follow, places_needed, run, passage}
use Rattle.model.specs.declared.Sheet.{Sheet}
use Rattle.model.specs.declared.Term.{Term}
use Rattle.laws.proofs.Bounds.Reach.{scale_positive}
use Rattle.laws.proofs.Bounds.Invariant.{scale_le_greatest}
use Rattle.ranges.proofs.Ranges.{tabulate_is, tabulate_equal}
use Rattle.laws.proofs.Gathering.Gathered.{gathered_coef, gathered_nonzero}

up_zero : {d : ℕ} → 0 < d → up 0 d ≡ 0
up_zero {d} h = omega (arith, up_is_least 0 h 0 (omega arith))

largest_zero : (n : ℕ) {f : ℕ → ℕ} → ((i : ℕ) → f i ≡ 0) → largest n f ≡ 0
unfolding largest
largest_zero zero h = refl
largest_zero (suc n) h = omega (arith, largest_zero n h, h n)

least_at_once : (n : ℕ) (f : ℕ → Bool) → f 0 ≡ true → least (suc n) f ≡ 0
unfolding least
least_at_once n f h = rw (h, least)

-- ---- one step

no_size : (G target : ℕ) → 0 < G → size G (coefs [] target) ≡ 0
unfolding size coefs sum
no_size G target h = rw (mul-zero scale, mul-zero G, up_zero h, up_zero scale_positive)

no_ratio : (H : ℤ) (n : ℕ) {G : ℕ} → 0 < G → ratio [] H n G ≡ 0
unfolding ratio ratio_by
no_ratio H n {G} h = rw (largest_zero n (λ i. no_size G (suc i) h), zero-mul) (up_zero scale_positive)

no_tail : (G k : ℕ) → tail_at G 0 k ≡ 0
unfolding tail_at majorant
no_tail G k = rw (mul-zero (majorant G 0 k), up_zero scale_positive, zero-mul scale, sub-zero scale) (up_zero scale_positive)

no_degree : (G limit : ℕ) → degree G 0 limit ≡ 0
unfolding degree
no_degree G limit = least_at_once 27 (λ k. leb (tail_at G 0 k) limit) (rw (no_tail G 0) (le-leb 0 limit (omega arith)))

greatest_positive : (balls : List Ball) → 0 < greatest balls
greatest_positive balls = omega (arith, scale_le_greatest balls, scale_positive)

same_ball : (balls : List Ball) (i : ℕ) → new_ball (balls ∷ []) 0 0 i ≡ get_or balls i no_ball
unfolding new_ball coefficient sum sum_ℤ
same_ball balls i = λ t. record { value = +ℤ_idl (get_or balls i no_ball).value t; radius = plain (get_or balls i no_ball).radius t }
  where
    plain : (r : ℕ) → 0 + r + 0 ≡ r
    plain r = omega arith

-- a value less and plus its radius
unfoldable pub span_of : Ball → Span
span_of ball = record { low = ball.value -ℤ pos ball.radius; high = ball.value +ℤ pos ball.radius }

same_span : (balls : List Ball) (i : ℕ) → new_span (balls ∷ []) 0 0 i ≡ span_of (get_or balls i no_ball)
unfolding new_span step_reach span_of coefficient sum
same_span balls i = ap (λ (reach : ℕ). record { low = (get_or balls i no_ball).value -ℤ pos reach; high = (get_or balls i no_ball).value +ℤ pos reach }) (plain (get_or balls i no_ball).radius)
  where
    plain : (r : ℕ) → r + 0 + 0 ≡ r
    plain r = omega arith

-- the row of a step without terms
unfoldable pub unmoved : List Ball → Row
unmoved balls = record { degree = 0; balls = balls; spans = tabulate (length balls) (λ i. span_of (get_or balls i no_ball)) }

same_row : (H : ℤ) (balls : List Ball) → new_row [] H balls 0 0 ≡ unmoved balls
unfolding new_row coefficients_to unmoved
same_row H balls =
    λ t. record {
      degree = 0;
      balls = tabulate_is (length balls) (new_ball (balls ∷ []) 0 0) no_ball balls refl (λ i h. same_ball balls i) t;
      spans = tabulate_equal (length balls) (new_span (balls ∷ []) 0 0) _ (λ i h. same_span balls i) t;
    }

pub step_without_terms : (H : ℤ) (limit : ℕ) (balls : List Ball) → step_row [] H limit balls ≡ unmoved balls
unfolding step_row
step_without_terms H limit balls = rw (no_ratio H (length balls) (greatest_positive balls), no_degree (greatest balls) limit, no_tail (greatest balls) 0) (same_row H balls)

-- with questions 4 and 6
pub advance_without_terms : (H : ℤ) (limit tol : ℕ) (balls : List Ball) → small balls ≡ true → tolerable tol balls ≡ true → advance [] H limit tol balls ≡ moves (unmoved balls)
unfolding advance question slow tolerated unmoved
advance_without_terms H limit tol balls s t = rw (s, no_ratio H (length balls) (greatest_positive balls), le-leb 0 most_ratio (omega arith), step_without_terms H limit balls, t)

-- ---- step after step

pub follow_without_terms : (H : ℤ) (limit tol steps step : ℕ) (balls : List Ball) → small balls ≡ true → tolerable tol balls ≡ true → follow [] H limit tol steps step balls ≡ record { rows = replicate steps (unmoved balls); outcome = not_refused }
unfolding follow go_on unmoved
follow_without_terms H limit tol zero step balls s t = refl
follow_without_terms H limit tol (suc steps) step balls s t = rw (advance_without_terms H limit tol balls s t, follow_without_terms H limit tol steps (suc step) balls s t)

-- ---- a sheet

-- no terms: none is left, and so where they cancel wholly
pub no_terms : (sheet : Sheet) → sheet.terms.count ≡ 0 → gathered (terms_of sheet) ≡ []
unfolding terms_of listed tabulate gathered summed filter
no_terms sheet none = rw none

pub cancelled : (terms : List Term) → ((t : Term) → coefs_like t terms ≡ pos 0) → gathered terms ≡ []
cancelled terms zero-sums = go (gathered terms) (gathered_coef terms) (gathered_nonzero terms)
  where
    go : (left : List Term) → ((j : ℕ) → j < length left → (get_or left j no_term).coef ≡ coefs_like (get_or left j no_term) terms) → ((j : ℕ) → j < length left → nat_abs (get_or left j no_term).coef ≡ 0 → ⊥) → left ≡ []
    go [] sums none-zero = refl
    go (t ∷ ts) sums none-zero = absurd (none-zero 0 (omega arith) (ap nat_abs (sums 0 (omega arith) ∙ zero-sums t)))

-- a sheet without terms, or whose terms cancel wholly: where question 4 passes and the radii are within `tol`, every row is of degree 0 with the
-- start's values and radii
pub passage_without_terms : (sheet : Sheet) (places : ℕ) → sheet_verdict sheet ≡ passes → places_needed sheet ≤ places → gathered (terms_of sheet) ≡ [] → small (starts_of sheet) ≡ true → tolerable sheet.head.tol (starts_of sheet) ≡ true → passage sheet places ≡ record { rows = replicate sheet.head.steps (unmoved (starts_of sheet)); outcome = not_refused }
unfolding passage run starts_of
passage_without_terms sheet places v p none s t = rw (v, le-leb (places_needed sheet) places p, passage) (rw none (follow_without_terms sheet.head.step sheet.head.tail sheet.head.tol sheet.head.steps 1 (starts_of sheet) s t))
