-- The calculus of enclosures: u ÷ m lies within e of c.
use Prim.Native.Nat.{ℕ, ◌+◌, ◌*◌, ◌≤◌, ◌<◌}
use mathlib.Core.Path.{◌≡◌, sym, ap, ap₂, ◌∙◌}
use native.Mathlib.Nat.{le_refl, le_trans, mul_assoc, mul_left_comm, mul-le-mul_left, mul-le-mul_right, mul-le-mul, le_of_mul-le-mul_left, one-mul, add-mul}
use native.Mathlib.Omega.{arith}
use lib.IntN.{ℤ, pos, nat_abs, neg_ℤ, ◌+ℤ◌, ◌-ℤ◌, ◌*ℤ◌, pos-*ℤ-pos, +ℤ_invr, +ℤ-neg_ℤ_cancel}
use lib.Signed.{◌≤ℤ◌}
use Rattle.rounding.specs.Rounding.{up, near}
use Rattle.rounding.specs.RoundingMeans.{distance}
use Rattle.rounding.specs.Enclosure.{Within}
use Rattle.rounding.proofs.Integers.{ringℤ, ringℕ, minus_plus, abs_mul, add_parts, neg_parts, abs_parts, pos_parts, parts_le, abs_add, through}
use Rattle.rounding.proofs.Roundings.{up_not_below, near_is_near}

-- a whole number lies within 0 of itself
pub within_exact : (c : ℤ) (m : ℕ) → Within (c *ℤ pos m) m c 0
within_exact c m = record { off = rw (+ℤ_invr (c *ℤ pos m)) (omega arith) }

pub within_wider : {u : ℤ} {m : ℕ} {c : ℤ} {e f : ℕ} → e ≤ f → Within u m c e → Within u m c f
within_wider {m = m} h w = record { off = le_trans w.off (mul-le-mul_right m h) }

-- the ends of an enclosure
pub within_low : {u : ℤ} {m : ℕ} {c : ℤ} {e : ℕ} → Within u m c e → ((c -ℤ pos e) *ℤ pos m) ≤ℤ u
within_low {u} {m} {c} {e} w = rw (spread c (pos e) (pos m), pos-*ℤ-pos e m) (near_low u (c *ℤ pos m) (e * m) w.off)
  where
    spread : (c e m : ℤ) → (c -ℤ e) *ℤ m ≡ c *ℤ m -ℤ e *ℤ m
    spread c e m = simp ringℤ

    near_low : (u x : ℤ) (k : ℕ) → nat_abs (u -ℤ x) ≤ k → (x -ℤ pos k) ≤ℤ u
    near_low u x k h =
        parts_le (x -ℤ pos k) u (omega (arith, add_parts x (neg_ℤ (pos k)), neg_parts (pos k), pos_parts k, add_parts u (neg_ℤ x), neg_parts x, abs_parts (u -ℤ x)))

pub within_high : {u : ℤ} {m : ℕ} {c : ℤ} {e : ℕ} → Within u m c e → u ≤ℤ ((c +ℤ pos e) *ℤ pos m)
within_high {u} {m} {c} {e} w = rw (spread c (pos e) (pos m), pos-*ℤ-pos e m) (near_high u (c *ℤ pos m) (e * m) w.off)
  where
    spread : (c e m : ℤ) → (c +ℤ e) *ℤ m ≡ c *ℤ m +ℤ e *ℤ m
    spread c e m = simp ringℤ

    near_high : (u x : ℤ) (k : ℕ) → nat_abs (u -ℤ x) ≤ k → u ≤ℤ (x +ℤ pos k)
    near_high u x k h =
        parts_le u (x +ℤ pos k) (omega (arith, add_parts x (pos k), pos_parts k, add_parts u (neg_ℤ x), neg_parts x, abs_parts (u -ℤ x)))

pub within_sum : {u u' : ℤ} {m : ℕ} {c c' : ℤ} {e e' : ℕ} → Within u m c e → Within u' m c' e' → Within (u +ℤ u') m (c +ℤ c') (e + e')
within_sum {u} {u'} {m} {c} {c'} {e} {e'} w w' =
    record
    { off = rw (parted u u' c c' (pos m)) (omega (arith, abs_add (u -ℤ c *ℤ pos m) (u' -ℤ c' *ℤ pos m), w.off, w'.off, spread e e' m)) }
  where
    parted : (u u' c c' m : ℤ) → (u +ℤ u') -ℤ (c +ℤ c') *ℤ m ≡ (u -ℤ c *ℤ m) +ℤ (u' -ℤ c' *ℤ m)
    parted u u' c c' m = simp ringℤ

    spread : (e e' m : ℕ) → (e + e') * m ≡ e * m + e' * m
    spread e e' m = simp ringℕ

-- a factor on u and c
pub within_factor : (a : ℤ) {u : ℤ} {m : ℕ} {c : ℤ} {e : ℕ} → Within u m c e → Within (a *ℤ u) m (a *ℤ c) (nat_abs a * e)
within_factor a {u} {m} {c} {e} w =
    record
    { off = rw (out a u c (pos m), abs_mul a (u -ℤ c *ℤ pos m), mul_assoc (nat_abs a) e m) (mul-le-mul_left (nat_abs a) w.off) }
  where
    out : (a u c m : ℤ) → a *ℤ u -ℤ a *ℤ c *ℤ m ≡ a *ℤ (u -ℤ c *ℤ m)
    out a u c m = simp ringℤ

-- a factor on u and m, and back
scaled : (k : ℕ) (u c : ℤ) (m : ℕ) → nat_abs (pos k *ℤ u -ℤ c *ℤ pos (k * m)) ≡ k * nat_abs (u -ℤ c *ℤ pos m)
scaled k u c m =
    ap (λ (z : ℤ). nat_abs (pos k *ℤ u -ℤ c *ℤ z)) (sym (pos-*ℤ-pos k m)) ∙ ap nat_abs (out (pos k) u c (pos m)) ∙ abs_mul (pos k) (u -ℤ c *ℤ pos m)
  where
    out : (k u c m : ℤ) → k *ℤ u -ℤ c *ℤ (k *ℤ m) ≡ k *ℤ (u -ℤ c *ℤ m)
    out k u c m = simp ringℤ

pub within_scaled : (k : ℕ) {u : ℤ} {m : ℕ} {c : ℤ} {e : ℕ} → Within u m c e → Within (pos k *ℤ u) (k * m) c e
within_scaled k {u} {m} {c} {e} w = record { off = rw (scaled k u c m, mul_left_comm e k m) (mul-le-mul_left k w.off) }

pub within_unscaled : (k : ℕ) {u : ℤ} (m : ℕ) {c : ℤ} {e : ℕ} → 0 < k → Within (pos k *ℤ u) (k * m) c e → Within u m c e
within_unscaled k {u} m {c} {e} h w = record { off = le_of_mul-le-mul_left (rw (scaled k u c m, mul_left_comm e k m) at w.off) h }

pub within_product : {u u' : ℤ} {m m' : ℕ} {c c' : ℤ} {e e' : ℕ} → Within u m c e → Within u' m' c' e' → Within (u *ℤ u') (m * m') (c *ℤ c') (nat_abs c * e' + nat_abs c' * e + e * e')
within_product {u} {u'} {m} {m'} {c} {c'} {e} {e'} w w' =
    record
    { off = rw parted (omega (arith, abs_add (δ *ℤ δ' +ℤ x *ℤ δ') (x' *ℤ δ), abs_add (δ *ℤ δ') (x *ℤ δ'), first, second, third, total)) }
  where
    x : ℤ
    x = c *ℤ pos m

    x' : ℤ
    x' = c' *ℤ pos m'

    δ : ℤ
    δ = u -ℤ x

    δ' : ℤ
    δ' = u' -ℤ x'

    regroup : (c c' m m' : ℤ) → c *ℤ c' *ℤ (m *ℤ m') ≡ c *ℤ m *ℤ (c' *ℤ m')
    regroup c c' m m' = simp ringℤ

    expand : (δ x δ' x' : ℤ) → (δ +ℤ x) *ℤ (δ' +ℤ x') ≡ δ *ℤ δ' +ℤ x *ℤ δ' +ℤ x' *ℤ δ +ℤ x *ℤ x'
    expand δ x δ' x' = simp ringℤ

    parted : u *ℤ u' -ℤ c *ℤ c' *ℤ pos (m * m') ≡ δ *ℤ δ' +ℤ x *ℤ δ' +ℤ x' *ℤ δ
    parted =
        ap₂ (λ (y z : ℤ). y -ℤ z) (ap₂ (λ (y z : ℤ). y *ℤ z) (minus_plus u x) (minus_plus u' x') ∙ expand δ x δ' x') (ap (λ (z : ℤ). c *ℤ c' *ℤ z) (sym (pos-*ℤ-pos m m')) ∙ regroup c c' (pos m) (pos m')) ∙ +ℤ-neg_ℤ_cancel (δ *ℤ δ' +ℤ x *ℤ δ' +ℤ x' *ℤ δ) (x *ℤ x')

    -- |a|·|b| ≤ p·q, times what is left of the denominator
    bound : (a b : ℤ) (p q r : ℕ) → nat_abs a ≤ p → nat_abs b ≤ q → p * q ≡ r → nat_abs (a *ℤ b) ≤ r
    bound a b p q r h k e = rw (abs_mul a b, ← e) (mul-le-mul h k)

    centre : (c : ℤ) (m : ℕ) → nat_abs (c *ℤ pos m) ≤ nat_abs c * m
    centre c m = rw (abs_mul c (pos m)) (le_refl (nat_abs c * m))

    across : (p q m m' : ℕ) → p * m * (q * m') ≡ p * q * (m * m')
    across p q m m' = simp ringℕ

    across' : (p q m m' : ℕ) → p * m' * (q * m) ≡ p * q * (m * m')
    across' p q m m' = simp ringℕ

    first : nat_abs (δ *ℤ δ') ≤ e * e' * (m * m')
    first = bound δ δ' (e * m) (e' * m') (e * e' * (m * m')) w.off w'.off (across e e' m m')

    second : nat_abs (x *ℤ δ') ≤ nat_abs c * e' * (m * m')
    second = bound x δ' (nat_abs c * m) (e' * m') (nat_abs c * e' * (m * m')) (centre c m) w'.off (across (nat_abs c) e' m m')

    third : nat_abs (x' *ℤ δ) ≤ nat_abs c' * e * (m * m')
    third = bound x' δ (nat_abs c' * m') (e * m) (nat_abs c' * e * (m * m')) (centre c' m') w.off (across' (nat_abs c') e m m')

    spread : (a b d k : ℕ) → (a + b + d) * k ≡ a * k + b * k + d * k
    spread a b d k = simp ringℕ

    total : (nat_abs c * e' + nat_abs c' * e + e * e') * (m * m') ≡ nat_abs c * e' * (m * m') + nat_abs c' * e * (m * m') + e * e' * (m * m')
    total = spread (nat_abs c * e') (nat_abs c' * e) (e * e') (m * m')

-- Rounding by d: the one place where anything about `near` and `up` is used, and of `near` only that twice its distance is at most d.
pub within_rounded : {u : ℤ} {m : ℕ} {c : ℤ} {e : ℕ} (d : ℕ) → 0 < d → Within u m c e → Within u (m * d) (near c d) (up e d + 1)
unfolding distance
within_rounded {u} {m} {c} {e} d h w =
    record { off = rw parted (omega (arith, abs_add (u -ℤ c *ℤ pos m) (pos m *ℤ (c -ℤ near c d *ℤ pos d)), w.off, rounding, width, share)) }
  where
    moved : (c n m d : ℤ) → m *ℤ (c -ℤ n *ℤ d) ≡ c *ℤ m -ℤ n *ℤ (m *ℤ d)
    moved c n m d = simp ringℤ

    parted : u -ℤ near c d *ℤ pos (m * d) ≡ (u -ℤ c *ℤ pos m) +ℤ pos m *ℤ (c -ℤ near c d *ℤ pos d)
    parted =
        ap (λ (z : ℤ). u -ℤ near c d *ℤ z) (sym (pos-*ℤ-pos m d)) ∙ sym (ap (λ (z : ℤ). (u -ℤ c *ℤ pos m) +ℤ z) (moved c (near c d) (pos m) (pos d)) ∙ through u (c *ℤ pos m) (near c d *ℤ (pos m *ℤ pos d)))

    half : 2 * nat_abs (c -ℤ near c d *ℤ pos d) ≤ d
    half = (near_is_near c h).within_half

    rounding : 2 * nat_abs (pos m *ℤ (c -ℤ near c d *ℤ pos d)) ≤ m * d
    rounding = rw (abs_mul (pos m) (c -ℤ near c d *ℤ pos d), mul_left_comm 2 m (nat_abs (c -ℤ near c d *ℤ pos d))) (mul-le-mul_left m half)

    regroup : (a m d : ℕ) → a * (m * d) ≡ a * d * m
    regroup a m d = simp ringℕ

    share : e * m ≤ up e d * (m * d)
    share = rw (regroup (up e d) m d) (mul-le-mul_right m (up_not_below e h))

    width : (up e d + 1) * (m * d) ≡ up e d * (m * d) + m * d
    width = add-mul (up e d) 1 (m * d) ∙ ap (λ (k : ℕ). up e d * (m * d) + k) (one-mul (m * d))
