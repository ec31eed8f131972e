-- The degree is the least k whose tail is within the limit, and it never passes 28: a ratio of at most a half brings the majorant of order 29
-- down to 1.
use Prim.Native.Nat.{ℕ, zero, suc, ◌+◌, ◌*◌, ◌-◌, ◌^◌, ◌≤◌, ◌<◌}
use native.Mathlib.Nat.{le_refl, le_trans, mul-le-mul_left, two-pow-succ}
use native.Mathlib.Omega.{arith}
use borrow.Author.Tests.{le-leb, leb-true, leb-false}
use lib.Dec.{leb}
use Rattle.rounding.proofs.Roundings.{up_is_least}
use Rattle.model.specs.Sheet.{scale, most}
use Rattle.model.specs.Step.{most_degree, majorant, tail_at, degree}
use Rattle.model.specs.Passage.{most_ratio}
use Rattle.ranges.proofs.Least.{IsLeast, least_is_least, least_le}
use Rattle.laws.proofs.Bounds.Reach.{scale_positive, up_close}

-- ---- the majorant, where the ratio is at most a half

module _ (G : ℕ) {q : ℕ} (slow : q ≤ most_ratio) where
  pub majorant_halves : (j : ℕ) → 2 * majorant G q (suc j) ≤ majorant G q j + 1
  unfolding majorant most_ratio scale
  majorant_halves j =
      omega (arith, up_close (majorant G q j * q) scale_positive, mul-le-mul_left (majorant G q j) slow)

  pub majorant_le : (j : ℕ) → majorant G q j ≤ G
  unfolding majorant
  majorant_le zero = le_refl G
  majorant_le (suc j) = le_trans (omega (arith, majorant_halves j)) (majorant_le j)

  majorant_scaled : (j : ℕ) → 2 ^ j * majorant G q j + 1 ≤ G + 2 ^ j
  unfolding majorant
  majorant_scaled zero = omega arith
  majorant_scaled (suc j) = rw (two-pow-succ j) (omega (arith, majorant_scaled j, mul-le-mul_left (2 ^ j) (majorant_halves j)))

  pub majorant_vanishes : G ≤ most → majorant G q (most_degree + 1) ≤ 1
  unfolding most
  majorant_vanishes h = omega (arith, majorant_scaled (most_degree + 1))

  pub tail_le : (k : ℕ) → tail_at G q k ≤ 2 * majorant G q (suc k)
  unfolding tail_at most_ratio scale
  tail_le k =
      up_is_least _ (omega (arith, slow)) _ (omega (arith, mul-le-mul_left (majorant G q (suc k)) half))
    where
      half : scale ≤ 2 * (scale - q)
      half = omega (arith, slow)

  pub tail_vanishes : G ≤ most → tail_at G q most_degree ≤ 2
  tail_vanishes h = omega (arith, tail_le most_degree, majorant_vanishes h)

-- ---- the degree

-- the least k whose tail is within the limit
pub record IsDegree (G q limit k : ℕ) : Type 0 where
  pub within : tail_at G q k ≤ limit
  pub none_before : (j : ℕ) → j < k → limit < tail_at G q j
  pub at_most : k ≤ most_degree

pub degree_is_least : (G : ℕ) {q limit : ℕ} → G ≤ most → q ≤ most_ratio → 2 ≤ limit → IsDegree G q limit (degree G q limit)
unfolding degree
degree_is_least G {q} {limit} small slow h =
    record {
      within = leb-true (tail_at G q (degree G q limit)) limit found.passes;
      none_before = λ j l. leb-false (tail_at G q j) limit (found.none_before j l);
      at_most = least_le most_degree (λ k. leb (tail_at G q k) limit);
    }
  where
    found : IsLeast (λ k. leb (tail_at G q k) limit) (degree G q limit)
    found =
        least_is_least most_degree (λ k. leb (tail_at G q k) limit) most_degree (le_refl most_degree) (le-leb (tail_at G q most_degree) limit (le_trans (tail_vanishes G slow small) h))
