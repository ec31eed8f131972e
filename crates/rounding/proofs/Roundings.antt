-- What `up` and `near` are, for any divisor from 1 up: `IsUp` and `IsNear` hold of them, and of nothing else.
use Prim.Native.Nat.{ℕ, zero, suc, ◌+◌, ◌*◌, ◌-◌, ◌/◌, ◌≤◌, ◌<◌}
use mathlib.Core.Path.{◌≡◌, refl, sym, ap, ◌∙◌, subst}
use native.Mathlib.Nat.{div-lt_iff_lt-mul, div-eq_of_lt-le, div-add-mod', mod-lt, le_antisymm, le_refl, le_trans, mul-le-mul_right, one-mul, le-mul_of_pos_right}
use native.Mathlib.Omega.{arith}
use native.Mathlib.Decide.{dec_lt}
use mathlib.Core.Logic.{◌≢◌}
use mathlib.Core.Bool.{true}
use borrow.Author.Tests.{ltb-true}
use lib.Signed.{lt_z}
use lib.IntN.{ℤ, pos, negsuc, neg_ℤ, nat_abs, ◌+ℤ◌, ◌-ℤ◌, ◌*ℤ◌, ℤ_discrete, neg_ℤ-neg_ℤ}
use Rattle.rounding.specs.Rounding.{up, near, near_ℕ}
use Rattle.rounding.specs.RoundingMeans.{IsUp, IsNear, distance}
use Rattle.rounding.proofs.Integers.{ringℤ, ringℕ, abs_neg, abs_mul, abs_sub, abs_sub_le, sub_zero_same, difference}

pub next_multiple : (k d : ℕ) → (k + 1) * d ≡ k * d + d
next_multiple k d = simp ringℕ (omega (arith, one-mul d))

-- ---- up

pub up_not_below : (n : ℕ) {d : ℕ} → 0 < d → n ≤ up n d * d
unfolding up
up_not_below n {d} h = omega (arith, div-add-mod' (n + (d - 1)) d, mod-lt (n + (d - 1)) h)

pub up_is_least : (n : ℕ) {d : ℕ} → 0 < d → (k : ℕ) → n ≤ k * d → up n d ≤ k
unfolding up
up_is_least n {d} h k b = omega (arith, (div-lt_iff_lt-mul h).1 fits)
  where
    fits : n + (d - 1) < (k + 1) * d
    fits = omega (arith, next_multiple k d)

pub up_is_up : (n : ℕ) {d : ℕ} → 0 < d → IsUp n d (up n d)
up_is_up n h = record { not_below = up_not_below n h; least = up_is_least n h }

pub up_alone : {n d u : ℕ} → 0 < d → IsUp n d u → u ≡ up n d
up_alone {n} {d} {u} h i = le_antisymm (i.least (up n d) (up_not_below n h)) (up_is_least n h u i.not_below)

pub up_monotone : {n m : ℕ} {d : ℕ} → 0 < d → n ≤ m → up n d ≤ up m d
up_monotone {n} {m} {d} h b = up_is_least n h (up m d) (le_trans b (up_not_below m h))

-- ---- near, of a natural number: q with 2·q·d ≤ 2·m + d < 2·q·d + 2·d

twice_multiple : (q d : ℕ) → q * (2 * d) ≡ 2 * (q * d)
twice_multiple q d = simp ringℕ

near_ℕ_low : (m : ℕ) {d : ℕ} → 0 < d → 2 * (near_ℕ m d * d) ≤ 2 * m + d
unfolding near_ℕ
near_ℕ_low m {d} h = omega (arith, div-add-mod' (2 * m + d) (2 * d), twice_multiple ((2 * m + d) / (2 * d)) d)

near_ℕ_high : (m : ℕ) {d : ℕ} → 0 < d → 2 * m < 2 * (near_ℕ m d * d) + d
unfolding near_ℕ
near_ℕ_high m {d} h =
    let p : 0 < 2 * d = omega arith in
    omega (arith, div-add-mod' (2 * m + d) (2 * d), mod-lt (2 * m + d) p, twice_multiple ((2 * m + d) / (2 * d)) d)

pub near_ℕ_alone : (m d q : ℕ) → 2 * (q * d) ≤ 2 * m + d → 2 * m < 2 * (q * d) + d → q ≡ near_ℕ m d
unfolding near_ℕ
near_ℕ_alone m d q low high = sym (div-eq_of_lt-le (2 * d) lower upper)
  where
    lower : q * (2 * d) ≤ 2 * m + d
    lower = omega (arith, twice_multiple q d)

    upper : 2 * m + d < (q + 1) * (2 * d)
    upper = omega (arith, twice_multiple q d, next_multiple q (2 * d))

pub near_ℕ_le : (m : ℕ) {d : ℕ} → 0 < d → near_ℕ m d ≤ m
unfolding near_ℕ
near_ℕ_le m {d} h = omega (arith, (div-lt_iff_lt-mul twice).1 below)
  where
    twice : 0 < 2 * d
    twice = omega arith

    below : 2 * m + d < (m + 1) * (2 * d)
    below = omega (arith, next_multiple m (2 * d), twice_multiple m d, le-mul_of_pos_right m h)

-- ---- near, of a whole number

pub near_negative : (n : ℤ) (d : ℕ) → lt_z n (pos 0) ≡ true → near n d ≡ neg_ℤ (pos (near_ℕ (nat_abs n) d))
unfolding near
near_negative (pos n) d t = absurd (omega (arith, ltb-true n 0 t))
near_negative (negsuc k) d t = refl

pub near_natural : (n d : ℕ) → near (pos n) d ≡ pos (near_ℕ n d)
unfolding near
near_natural n d = refl

-- near does the same on both sides of 0
pub near_neg : (n : ℤ) {d : ℕ} → 0 < d → near (neg_ℤ n) d ≡ neg_ℤ (near n d)
unfolding near
near_neg (pos zero) {d} h = let none : near_ℕ 0 d ≡ 0 = omega (arith, near_ℕ_le 0 h) in rw none
near_neg (pos (suc n)) h = refl
near_neg (negsuc n) {d} h = sym (neg_ℤ-neg_ℤ (pos (near_ℕ (suc n) d)))

distance_neg : (n : ℤ) (d : ℕ) (z : ℤ) → distance (neg_ℤ n) d (neg_ℤ z) ≡ distance n d z
unfolding distance
distance_neg n d z = ap nat_abs (turned n (pos d) z) ∙ abs_neg (n -ℤ z *ℤ pos d)
  where
    turned : (n d z : ℤ) → neg_ℤ n -ℤ neg_ℤ z *ℤ d ≡ neg_ℤ (n -ℤ z *ℤ d)
    turned n d z = simp ringℤ

-- two whole numbers differ by 1 at least, so what is within half of d has none nearer
nearest : (n : ℤ) (d : ℕ) (z : ℤ) → 2 * distance n d z ≤ d → (k : ℤ) → distance n d z ≤ distance n d k
unfolding distance
nearest n d z h k = go (ℤ_discrete k z)
  where
    spread : (k z d : ℤ) → (k -ℤ z) *ℤ d ≡ k *ℤ d -ℤ z *ℤ d
    spread k z d = simp ringℤ

    gap : nat_abs (k -ℤ z) * d ≤ nat_abs (n -ℤ z *ℤ pos d) + nat_abs (n -ℤ k *ℤ pos d)
    gap =
        let e = abs_mul (k -ℤ z) (pos d) in
        let f = ap nat_abs (spread k z (pos d) ∙ sym (difference n (z *ℤ pos d) (k *ℤ pos d))) in
        omega (arith, abs_sub_le (n -ℤ z *ℤ pos d) (n -ℤ k *ℤ pos d))

    go : Dec (k ≡ z) → nat_abs (n -ℤ z *ℤ pos d) ≤ nat_abs (n -ℤ k *ℤ pos d)
    go (yes e) = subst (λ (y : ℤ). nat_abs (n -ℤ z *ℤ pos d) ≤ nat_abs (n -ℤ y *ℤ pos d)) (sym e) (le_refl (nat_abs (n -ℤ z *ℤ pos d)))
    go (no f) =
        let apart : nat_abs (k -ℤ z) ≢ 0 = (λ e. f (sub_zero_same k z e)) in
        let one_at_least : 1 ≤ nat_abs (k -ℤ z) = omega arith in
        omega (arith, gap, mul-le-mul_right d one_at_least, one-mul d)

is_near_neg : {n : ℤ} {d : ℕ} {z : ℤ} → IsNear n d z → IsNear (neg_ℤ n) d (neg_ℤ z)
is_near_neg {n} {d} {z} i = record { within_half = half; none_nearer = nearest (neg_ℤ n) d (neg_ℤ z) half; tie_away = tie }
  where
    half : 2 * distance (neg_ℤ n) d (neg_ℤ z) ≤ d
    half = rw (distance_neg n d z) i.within_half

    tie : 2 * distance (neg_ℤ n) d (neg_ℤ z) ≡ d → nat_abs (neg_ℤ n) ≤ nat_abs (neg_ℤ z) * d
    tie e = rw (abs_neg n, abs_neg z) (i.tie_away (rw (distance_neg n d z) at e))

near_ℕ_is_near : (m : ℕ) {d : ℕ} → 0 < d → IsNear (pos m) d (pos (near_ℕ m d))
unfolding distance
near_ℕ_is_near m {d} h = record { within_half = half; none_nearer = nearest (pos m) d (pos (near_ℕ m d)) half; tie_away = tie }
  where
    far : distance (pos m) d (pos (near_ℕ m d)) ≡ (m - near_ℕ m d * d) + (near_ℕ m d * d - m)
    far = abs_sub m (near_ℕ m d * d)

    half : 2 * distance (pos m) d (pos (near_ℕ m d)) ≤ d
    half = omega (arith, far, near_ℕ_low m h, near_ℕ_high m h)

    tie : 2 * distance (pos m) d (pos (near_ℕ m d)) ≡ d → m ≤ near_ℕ m d * d
    tie e = omega (arith, far, near_ℕ_low m h, near_ℕ_high m h)

pub near_is_near : (n : ℤ) {d : ℕ} → 0 < d → IsNear n d (near n d)
unfolding near
near_is_near (pos m) h = near_ℕ_is_near m h
near_is_near (negsuc m) h = is_near_neg (near_ℕ_is_near (suc m) h)

-- nothing but `near` is such a number
alone_pos : (m d : ℕ) → 0 < d → (z : ℤ) → IsNear (pos m) d z → z ≡ pos (near_ℕ m d)
unfolding distance
alone_pos m d h (pos q) i = ap pos (near_ℕ_alone m d q low high)
  where
    far : distance (pos m) d (pos q) ≡ (m - q * d) + (q * d - m)
    far = abs_sub m (q * d)

    low : 2 * (q * d) ≤ 2 * m + d
    low = omega (arith, far, i.within_half)

    high : 2 * m < 2 * (q * d) + d
    high = go (dec_lt (2 * m) (2 * (q * d) + d))
      where
        go : Dec (2 * m < 2 * (q * d) + d) → 2 * m < 2 * (q * d) + d
        go (yes l) = l
        go (no f) =
            let tie : 2 * distance (pos m) d (pos q) ≡ d = omega (arith, far, i.within_half, f) in
            omega (arith, i.tie_away tie)
alone_pos m d h (negsuc a) i = absurd (omega (arith, far, i.within_half, mul-le-mul_right d one_at_least, one-mul d))
  where
    one_at_least : 1 ≤ suc a
    one_at_least = omega arith

    plus : (x y : ℤ) → x -ℤ neg_ℤ y ≡ x +ℤ y
    plus x y = simp ringℤ

    far : distance (pos m) d (negsuc a) ≡ m + suc a * d
    far = ap nat_abs (plus (pos m) (pos (suc a * d)))

pub near_alone : {n : ℤ} {d : ℕ} {z : ℤ} → 0 < d → IsNear n d z → z ≡ near n d
unfolding near
near_alone {n = pos m} {d} {z} h i = alone_pos m d h z i
near_alone {n = negsuc m} {d} {z} h i = sym (neg_ℤ-neg_ℤ z) ∙ ap neg_ℤ (alone_pos (suc m) d h (neg_ℤ z) (is_near_neg i))
