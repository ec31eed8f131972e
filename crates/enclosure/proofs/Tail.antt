-- The exact sum at a step of h ÷ w, by its summands: enclosures of the orders 0 .. d enclose the sum of degree d, and the tail covers all that the
-- orders after d add, whatever the degree. It rests on the majorant's bound of each order, and on `up` not being below.
use Prim.Native.Nat.{ℕ, zero, suc, ◌+◌, ◌-◌, ◌*◌, ◌^◌, ◌≤◌, ◌<◌}
use mathlib.Core.List.{List}
use mathlib.Core.Path.{◌≡◌, refl}
use native.Mathlib.Nat.{le_refl, add-zero, add-suc, suc-add, zero-add, add-sub_of_le, pow-zero, pow-suc, mul_comm, mul-le-mul_right, le_of_mul-le-mul_right, one-le-pow}
use native.Mathlib.Omega.{arith}
use lib.Pow.{pow-add}
use lib.IntN.{ℤ, pos, nat_abs, ◌+ℤ◌, ◌-ℤ◌, ◌*ℤ◌, pow, +ℤ_idl, +ℤ_invr, *ℤ-one}
use Rattle.rounding.specs.Rounding.{up}
use Rattle.rounding.specs.Enclosure.{Within}
use Rattle.rounding.proofs.Enclosure.{within_sum, within_scaled}
use Rattle.rounding.proofs.Integers.{ringℤ, ringℕ, abs_add, abs_mul}
use Rattle.rounding.proofs.Roundings.{up_not_below}
use Rattle.ranges.specs.Range.{sum, sum_ℤ}
use Rattle.model.specs.Sheet.{scale}
use Rattle.enclosure.specs.Exact.{State, order, orders_to, sum_denominator, sum_numerator}
use Rattle.model.specs.Step.{majorant, tail_at}
use Rattle.model.specs.declared.Term.{Term}
use Rattle.ranges.proofs.Ranges.{within_same}
use Rattle.laws.proofs.Bounds.Reach.{scale_positive}

pow_parts : (b d n : ℕ) → b ^ suc (d + n) ≡ b ^ suc d * b ^ n
pow_parts b d n = rw (← suc-add d n) (pow-add b (suc d) n)

-- p_k is not below G·(q ÷ s)^k
pub majorant_not_below : (G q k : ℕ) → G * q ^ k ≤ majorant G q k * scale ^ k
unfolding majorant
majorant_not_below G q zero = rw (pow-zero q, pow-zero scale) (le_refl (G * 1))
majorant_not_below G q (suc k) =
    rw (pow-suc q k, pow-suc scale k) (turn (q ^ k) (scale ^ k) (majorant G q k) (up (majorant G q k * q) scale) (majorant_not_below G q k) (up_not_below (majorant G q k * q) scale_positive))
  where
    turn : (a b p r : ℕ) → G * a ≤ p * b → p * q ≤ r * scale → G * (a * q) ≤ r * (b * scale)
    turn a b p r h k = omega (arith, mul-le-mul_right q h, mul-le-mul_right b k)

-- all that comes after: the tail is p_(d+1) and the tail again, q ÷ s times
pub tail_not_below : (G q d : ℕ) → q < scale → majorant G q (suc d) * scale + tail_at G q d * q ≤ tail_at G q d * scale
unfolding tail_at
tail_not_below G q d h =
    let fits : scale - q + q ≡ scale = omega arith in
    let positive : 0 < scale - q = omega arith in
    let p : ℕ = majorant G q (suc d) * scale in
    parted (up p (scale - q)) p (scale - q) fits (up_not_below p positive)
  where
    parted : (t p r : ℕ) → r + q ≡ scale → p ≤ t * r → p + t * q ≤ t * scale
    parted t p r e k = rw (← e) (omega (arith))

module _ (terms : List Term) (state : State) (h : ℤ) (w i : ℕ) where
  -- the k-th summand of the exact sum, in units, over the denominator of degree k
  unfoldable pub summand : ℕ → ℤ
  summand k = pos scale *ℤ (order (orders_to terms state k) k i *ℤ pow h k)

  -- the exact sum of degree K, in units, over the denominator of degree K
  unfoldable pub partial_sum : ℕ → ℤ
  partial_sum K = pos scale *ℤ sum_numerator terms state h w K i

  abbrev denominator : ℕ → ℕ
  denominator = sum_denominator state.denominator w

  -- where each summand lies within e_k of c_k, the sum lies within their sum of theirs
  pub sums_within : (c : ℕ → ℤ) (e : ℕ → ℕ) (d : ℕ) → ((k : ℕ) → k ≤ d → Within (summand k) (denominator k) (c k) (e k)) → Within (partial_sum d) (denominator d) (sum_ℤ (suc d) c) (sum (suc d) e)
  unfolding summand partial_sum sum_numerator sum_denominator sum sum_ℤ pow
  sums_within c e zero each = rw (+ℤ_idl, zero-add) (rw *ℤ-one at (each 0 (le_refl 0)))
  sums_within c e (suc d) each =
      within_same (out (pos growth) (pos scale) (sum_numerator terms state h w d i) (order (orders_to terms state (suc d)) (suc d) i *ℤ pow h (suc d))) refl (within_sum (within_same refl (mul_comm growth (denominator d)) (within_scaled growth (sums_within c e d (λ k le. each k (omega arith))))) (each (suc d) (le_refl (suc d))))
    where
      growth : ℕ
      growth = suc d * (state.denominator * (scale * w))

      out : (q s n x : ℤ) → q *ℤ (s *ℤ n) +ℤ s *ℤ x ≡ s *ℤ (n *ℤ q +ℤ x)
      out q s n x = simp ringℤ

  -- what the exact sums of degrees d and K differ by, over both denominators
  unfoldable pub apart : ℕ → ℕ → ℤ
  apart d K = partial_sum K *ℤ pos (denominator d) -ℤ partial_sum d *ℤ pos (denominator K)

  apart_same : (d : ℕ) → apart d d ≡ pos 0
  unfolding apart
  apart_same d = +ℤ_invr (partial_sum d *ℤ pos (denominator d))

  -- what the denominator of degree suc K has that that of degree K lacks
  abbrev growth : ℕ → ℕ
  growth K = suc K * (state.denominator * (scale * w))

  apart_next : (d K : ℕ) → nat_abs (apart d (suc K)) ≤ nat_abs (apart d K) * growth K + nat_abs (summand (suc K)) * denominator d
  unfolding apart partial_sum summand sum_numerator sum_denominator
  apart_next d K =
      rw (parted (pos scale) (sum_numerator terms state h w K i) (pos (growth K)) (order (orders_to terms state (suc K)) (suc K) i *ℤ pow h (suc K)) (pos (denominator d)) (partial_sum d) (pos (denominator K)), ← abs_mul (apart d K) (pos (growth K)), ← abs_mul (summand (suc K)) (pos (denominator d))) (abs_add (apart d K *ℤ pos (growth K)) (summand (suc K) *ℤ pos (denominator d)))
    where
      parted : (s n m y a b c : ℤ) → s *ℤ (n *ℤ m +ℤ y) *ℤ a -ℤ b *ℤ (c *ℤ m) ≡ (s *ℤ n *ℤ a -ℤ b *ℤ c) *ℤ m +ℤ s *ℤ y *ℤ a
      parted s n m y a b c = simp ringℤ

  -- Where each summand is under the majorant G·(q ÷ s)^k, and q is below s:
  module _ (G q : ℕ) (slow : q < scale) (under : (k : ℕ) → nat_abs (summand k) * scale ^ k ≤ G * q ^ k * denominator k) where
    -- a summand after d, by p_(d+1)
    summand_under : (d n : ℕ) → nat_abs (summand (suc (d + n))) * scale ^ n ≤ majorant G q (suc d) * q ^ n * denominator (suc (d + n))
    summand_under d n =
        let positive : 0 < scale ^ suc d = one-le-pow (suc d) scale scale_positive in
        let parted = rw (pow_parts scale d n, pow_parts q d n) at (under (suc (d + n))) in
        le_of_mul-le-mul_right (cancelled (nat_abs (summand (suc (d + n)))) (scale ^ suc d) (scale ^ n) (q ^ suc d) (q ^ n) (majorant G q (suc d)) (denominator (suc (d + n))) parted (majorant_not_below G q (suc d))) positive
      where
        cancelled : (u sd sn qd qn p m : ℕ) → u * (sd * sn) ≤ G * (qd * qn) * m → G * qd ≤ p * sd → u * sn * sd ≤ p * qn * m * sd
        cancelled u sd sn qd qn p m h k = omega (arith, mul-le-mul_right (qn * m) k)

    -- what is not yet used of the tail, (q ÷ s)^n of it, covers the rest
    rest_covered : (d n : ℕ) → nat_abs (apart d (d + n)) * scale ^ n + tail_at G q d * q ^ n * (denominator (d + n) * denominator d) ≤ tail_at G q d * scale ^ n * (denominator (d + n) * denominator d)
    unfolding sum_denominator
    rest_covered d zero = rw (add-zero d, apart_same d, pow-zero q, pow-zero scale) (omega arith)
    rest_covered d (suc n) =
        rw (add-suc d n, pow-suc scale n, pow-suc q n) (turn (nat_abs (apart d (d + n))) (nat_abs (apart d (suc (d + n)))) (nat_abs (summand (suc (d + n)))) (tail_at G q d) (majorant G q (suc d)) (scale ^ n) (q ^ n) (denominator (d + n)) (denominator d) (growth (d + n)) (rest_covered d n) (apart_next d (d + n)) (summand_under d n) (tail_not_below G q d slow))
      where
        turn : (r r' u t p sn qn M N m : ℕ) → r * sn + t * qn * (M * N) ≤ t * sn * (M * N) → r' ≤ r * m + u * N → u * sn ≤ p * qn * (M * m) → p * scale + t * q ≤ t * scale → r' * (sn * scale) + t * (qn * q) * (M * m * N) ≤ t * (sn * scale) * (M * m * N)
        turn r r' u t p sn qn M N m rest next small tail =
            rw (left r' t sn qn M N m scale q, right t sn M N m scale) (combined (r * sn * m) (r' * sn) (u * sn * N) t p (qn * (M * m * N)) (t * sn * (M * N) * m) (omega (arith, mul-le-mul_right m rest)) (omega (arith, mul-le-mul_right sn next)) (omega (arith, mul-le-mul_right N small)) tail)
          where
            left : (r t sn qn M N m s q : ℕ) → r * (sn * s) + t * (qn * q) * (M * m * N) ≡ r * sn * s + t * (qn * (M * m * N)) * q
            left r t sn qn M N m s q = simp ringℕ

            right : (t sn M N m s : ℕ) → t * (sn * s) * (M * m * N) ≡ t * sn * (M * N) * m * s
            right t sn M N m s = simp ringℕ

            combined : (r r' u t p z y : ℕ) → r + t * z ≤ y → r' ≤ r + u → u ≤ p * z → p * scale + t * q ≤ t * scale → r' * scale + t * z * q ≤ y * scale
            combined r r' u t p z y a b c d =
                omega (arith, mul-le-mul_right scale a, mul-le-mul_right scale b, mul-le-mul_right scale c, mul-le-mul_right z d)

    pub tail_covers_rest : (d K : ℕ) → d ≤ K → nat_abs (apart d K) ≤ tail_at G q d * (denominator K * denominator d)
    tail_covers_rest d K le =
        let within : nat_abs (apart d (d + (K - d))) * scale ^ (K - d) ≤ tail_at G q d * (denominator (d + (K - d)) * denominator d) * scale ^ (K - d) = omega (arith, rest_covered d (K - d)) in
        rw (add-sub_of_le le) at (le_of_mul-le-mul_right within (one-le-pow (K - d) scale scale_positive))
