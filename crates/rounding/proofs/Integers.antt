-- Laws of ℤ that `lib.IntN` lacks: the ring, magnitudes, and linear facts by positive and negative parts.
use Prim.Native.Nat.{ℕ, zero, suc, ◌+◌, ◌*◌, ◌-◌, ◌≤◌, ◌<◌}
use mathlib.Core.Path.{◌≡◌, refl, sym, ap, ◌∙◌}
use mathlib.Core.Bool.{Bool, true, false, not, cond}
use mathlib.Core.Logic.{◌⊎◌, inl, inr, ⊎_elim}
use native.Mathlib.Nat.{add_assoc, add_comm, add_left_comm, mul_assoc, mul_comm, mul_left_comm, mul-add, add-mul, mul-le-mul_left, mul-le-mul_right, mul-lt-mul_of_pos_right, le_of_mul-le-mul_right, zero-mul}
use native.Mathlib.Omega.{arith}
use lib.Dec.{T, ltb, ltb→lt, nltb→le, leb→le, le→leb}
use lib.IntN.{ℤ, pos, negsuc, suc_ℤ, pred_ℤ, neg_ℤ, nat_abs, sub_ℕ, ◌+ℤ◌, ◌-ℤ◌, ◌*ℤ◌, +ℤ_assoc, +ℤ_comm, +ℤ_idl, +ℤ_idr, +ℤ_invr, +ℤ_invl, neg_ℤ-+ℤ, neg_ℤ-neg_ℤ, -ℤ-+ℤ_cancel, suc_ℤ-+ℤ, pred_ℤ-+ℤ, suc_ℤ-*ℤ, pred_ℤ-*ℤ, *ℤ_comm, zero-*ℤ}
use lib.Signed.{◌≤ℤ◌, le_z}

-- ---- the ring

pub +ℤ_left_comm : (a b c : ℤ) → a +ℤ (b +ℤ c) ≡ b +ℤ (a +ℤ c)
+ℤ_left_comm a b c = sym (+ℤ_assoc a b c) ∙ ap (λ (z : ℤ). z +ℤ c) (+ℤ_comm a b) ∙ +ℤ_assoc b a c

ruleset sumsℤ = (+ℤ_assoc, +ℤ_comm, +ℤ_left_comm)

add_mul_suc : (a b c : ℤ) → (a +ℤ b) *ℤ c ≡ a *ℤ c +ℤ b *ℤ c → (suc_ℤ a +ℤ b) *ℤ c ≡ suc_ℤ a *ℤ c +ℤ b *ℤ c
add_mul_suc a b c h = rw (suc_ℤ-+ℤ a b, suc_ℤ-*ℤ (a +ℤ b) c, h, suc_ℤ-*ℤ a c) (simp sumsℤ)

add_mul_pred : (a b c : ℤ) → (a +ℤ b) *ℤ c ≡ a *ℤ c +ℤ b *ℤ c → (pred_ℤ a +ℤ b) *ℤ c ≡ pred_ℤ a *ℤ c +ℤ b *ℤ c
add_mul_pred a b c h = rw (pred_ℤ-+ℤ a b, pred_ℤ-*ℤ (a +ℤ b) c, h, pred_ℤ-*ℤ a c) (simp sumsℤ)

add_mul_zero : (b c : ℤ) → (pos zero +ℤ b) *ℤ c ≡ pos zero *ℤ c +ℤ b *ℤ c
add_mul_zero b c = rw (+ℤ_idl b, zero-*ℤ c, +ℤ_idl (b *ℤ c))

pub add_mul_ℤ : (a b c : ℤ) → (a +ℤ b) *ℤ c ≡ a *ℤ c +ℤ b *ℤ c
add_mul_ℤ (pos zero) b c = add_mul_zero b c
add_mul_ℤ (pos (suc n)) b c = add_mul_suc (pos n) b c (add_mul_ℤ (pos n) b c)
add_mul_ℤ (negsuc zero) b c = add_mul_pred (pos zero) b c (add_mul_zero b c)
add_mul_ℤ (negsuc (suc n)) b c = add_mul_pred (negsuc n) b c (add_mul_ℤ (negsuc n) b c)

pub mul_add_ℤ : (a b c : ℤ) → a *ℤ (b +ℤ c) ≡ a *ℤ b +ℤ a *ℤ c
mul_add_ℤ a b c = rw (*ℤ_comm a (b +ℤ c), add_mul_ℤ b c a, *ℤ_comm b a, *ℤ_comm c a)

-- a number whose sum with x is 0 is -x
neg_unique : (x y : ℤ) → x +ℤ y ≡ pos zero → y ≡ neg_ℤ x
neg_unique x y h =
    sym (+ℤ_idl y) ∙ ap (λ (z : ℤ). z +ℤ y) (sym (+ℤ_invl x)) ∙ +ℤ_assoc (neg_ℤ x) x y ∙ ap (λ (z : ℤ). neg_ℤ x +ℤ z) h ∙ +ℤ_idr (neg_ℤ x)

pub neg_mul_ℤ : (a b : ℤ) → neg_ℤ a *ℤ b ≡ neg_ℤ (a *ℤ b)
neg_mul_ℤ a b =
    neg_unique (a *ℤ b) (neg_ℤ a *ℤ b) (sym (add_mul_ℤ a (neg_ℤ a) b) ∙ ap (λ (z : ℤ). z *ℤ b) (+ℤ_invr a) ∙ zero-*ℤ b)

pub mul_neg_ℤ : (a b : ℤ) → a *ℤ neg_ℤ b ≡ neg_ℤ (a *ℤ b)
mul_neg_ℤ a b = rw (*ℤ_comm a (neg_ℤ b), neg_mul_ℤ b a, *ℤ_comm b a)

mul_assoc_suc : (a b c : ℤ) → a *ℤ b *ℤ c ≡ a *ℤ (b *ℤ c) → suc_ℤ a *ℤ b *ℤ c ≡ suc_ℤ a *ℤ (b *ℤ c)
mul_assoc_suc a b c h = rw (suc_ℤ-*ℤ a b, add_mul_ℤ (a *ℤ b) b c, h, suc_ℤ-*ℤ a (b *ℤ c))

mul_assoc_pred : (a b c : ℤ) → a *ℤ b *ℤ c ≡ a *ℤ (b *ℤ c) → pred_ℤ a *ℤ b *ℤ c ≡ pred_ℤ a *ℤ (b *ℤ c)
mul_assoc_pred a b c h =
    rw (pred_ℤ-*ℤ a b, add_mul_ℤ (a *ℤ b) (neg_ℤ b) c, h, neg_mul_ℤ b c, pred_ℤ-*ℤ a (b *ℤ c))

mul_assoc_zero : (b c : ℤ) → pos zero *ℤ b *ℤ c ≡ pos zero *ℤ (b *ℤ c)
mul_assoc_zero b c = rw (zero-*ℤ b, zero-*ℤ c, zero-*ℤ (b *ℤ c))

pub mul_assoc_ℤ : (a b c : ℤ) → a *ℤ b *ℤ c ≡ a *ℤ (b *ℤ c)
mul_assoc_ℤ (pos zero) b c = mul_assoc_zero b c
mul_assoc_ℤ (pos (suc n)) b c = mul_assoc_suc (pos n) b c (mul_assoc_ℤ (pos n) b c)
mul_assoc_ℤ (negsuc zero) b c = mul_assoc_pred (pos zero) b c (mul_assoc_zero b c)
mul_assoc_ℤ (negsuc (suc n)) b c = mul_assoc_pred (negsuc n) b c (mul_assoc_ℤ (negsuc n) b c)

pub mul_left_comm_ℤ : (a b c : ℤ) → a *ℤ (b *ℤ c) ≡ b *ℤ (a *ℤ c)
mul_left_comm_ℤ a b c = sym (mul_assoc_ℤ a b c) ∙ ap (λ (z : ℤ). z *ℤ c) (*ℤ_comm a b) ∙ mul_assoc_ℤ b a c

-- An identity of sums, products and negations is `simp ringℤ`, stated over variables: at a constructor, as `pos a *ℤ pos b`, it computes
-- and the laws no longer fit. It does not cancel x − x: `minus_plus` puts it in by hand.
pub ruleset ringℤ = (+ℤ_assoc, +ℤ_comm, +ℤ_left_comm, mul_assoc_ℤ, *ℤ_comm, mul_left_comm_ℤ, add_mul_ℤ, mul_add_ℤ, neg_mul_ℤ, mul_neg_ℤ, neg_ℤ-+ℤ, neg_ℤ-neg_ℤ)

pub ruleset ringℕ = (add_assoc, add_comm, add_left_comm, mul_assoc, mul_comm, mul_left_comm, add-mul, mul-add)

pub mul_lt : {m n a b : ℕ} → m < a → n < b → m * n < a * b
mul_lt {m} {n} {a} {b} h k =
    let some : 0 < b = omega arith in
    let below : n ≤ b = omega arith in
    omega (arith, mul-le-mul_left m below, mul-lt-mul_of_pos_right h some)

pub minus_plus : (a b : ℤ) → a ≡ (a -ℤ b) +ℤ b
minus_plus a b = sym (-ℤ-+ℤ_cancel a b)

-- ---- magnitudes

pub abs_neg : (a : ℤ) → nat_abs (neg_ℤ a) ≡ nat_abs a
abs_neg (pos zero) = refl
abs_neg (pos (suc n)) = refl
abs_neg (negsuc n) = refl

pub abs_mul : (a b : ℤ) → nat_abs (a *ℤ b) ≡ nat_abs a * nat_abs b
abs_mul (pos a) (pos b) = refl
abs_mul (pos a) (negsuc b) = abs_neg (pos (a * suc b))
abs_mul (negsuc a) (pos b) = abs_neg (pos (suc a * b))
abs_mul (negsuc a) (negsuc b) = refl

-- ---- linear facts: z is its positive part less its negative part, and a sum, a difference, a magnitude and an order of whole numbers are
-- linear facts of the parts, which `omega` reads. List the facts of the sums that occur.

pub positive : ℤ → ℕ
positive (pos n) = n
positive (negsuc n) = zero

pub negative : ℤ → ℕ
negative (pos n) = zero
negative (negsuc n) = suc n

pub abs_parts : (z : ℤ) → nat_abs z ≡ positive z + negative z
unfolding positive negative
abs_parts (pos n) = omega arith
abs_parts (negsuc n) = omega arith

pub one_part : (z : ℤ) → (positive z ≡ 0) ⊎ (negative z ≡ 0)
unfolding positive negative
one_part (pos n) = inr refl
one_part (negsuc n) = inl refl

pub record Less (a b : ℕ) (z : ℤ) : Type 0 where
  pub balance : positive z + b ≡ negative z + a
  pub top : positive z ≤ a
  pub bottom : negative z ≤ b

sub_parts' : (a b : ℕ) (t : Bool) → (T t → a < b) → (T (not t) → b ≤ a) → Less a b (cond t (negsuc (b - suc a)) (pos (a - b)))
unfolding positive negative
sub_parts' a b true h k = record { balance = omega (arith, h tt); top = omega (arith, h tt); bottom = omega (arith, h tt) }
sub_parts' a b false h k = record { balance = omega (arith, k tt); top = omega (arith, k tt); bottom = omega (arith, k tt) }

sub_parts : (a b : ℕ) → Less a b (sub_ℕ a b)
sub_parts a b = sub_parts' a b (ltb a b) (ltb→lt a b) (nltb→le a b)

-- a + b
pub record Sum (a b z : ℤ) : Type 0 where
  pub balance : positive z + (negative a + negative b) ≡ negative z + (positive a + positive b)
  pub top : positive z ≤ positive a + positive b
  pub bottom : negative z ≤ negative a + negative b

pub add_parts : (a b : ℤ) → Sum a b (a +ℤ b)
unfolding positive negative
add_parts (pos a) (pos b) = record { balance = omega arith; top = omega arith; bottom = omega arith }
add_parts (pos a) (negsuc b) =
    let l = sub_parts a (suc b) in
    record { balance = omega (arith, l.balance); top = omega (arith, l.top); bottom = omega (arith, l.bottom) }
add_parts (negsuc a) (pos b) =
    let l = sub_parts b (suc a) in
    record { balance = omega (arith, l.balance); top = omega (arith, l.top); bottom = omega (arith, l.bottom) }
add_parts (negsuc a) (negsuc b) = record { balance = omega arith; top = omega arith; bottom = omega arith }

pub record Negation (a z : ℤ) : Type 0 where
  pub top : positive z ≡ negative a
  pub bottom : negative z ≡ positive a

pub neg_parts : (a : ℤ) → Negation a (neg_ℤ a)
unfolding positive negative
neg_parts (pos zero) = record { top = refl; bottom = refl }
neg_parts (pos (suc n)) = record { top = refl; bottom = refl }
neg_parts (negsuc n) = record { top = refl; bottom = refl }

pub record Natural (n : ℕ) (z : ℤ) : Type 0 where
  pub top : positive z ≡ n
  pub bottom : negative z ≡ 0

pub pos_parts : (n : ℕ) → Natural n (pos n)
unfolding positive negative
pos_parts n = record { top = refl; bottom = refl }

-- and back from the parts
pub from_parts : (a b : ℤ) → positive a + negative b ≡ positive b + negative a → a ≡ b
unfolding positive negative
from_parts (pos a) (pos b) h = ap pos (omega arith)
from_parts (pos a) (negsuc b) h = absurd (omega arith)
from_parts (negsuc a) (pos b) h = absurd (omega arith)
from_parts (negsuc a) (negsuc b) h = ap negsuc (omega arith)

pub le_parts : {a b : ℤ} → a ≤ℤ b → positive a + negative b ≤ positive b + negative a
unfolding positive negative
le_parts {a = pos a} {b = pos b} h = omega (arith, leb→le a b h.le)
le_parts {a = pos a} {b = negsuc b} h = absurd h.le
le_parts {a = negsuc a} {b = pos b} h = omega arith
le_parts {a = negsuc a} {b = negsuc b} h = omega (arith, leb→le b a h.le)

pub parts_le : (a b : ℤ) → positive a + negative b ≤ positive b + negative a → a ≤ℤ b
unfolding positive negative
parts_le (pos a) (pos b) h = record { le = le→leb a b (omega arith) }
parts_le (pos a) (negsuc b) h = absurd (omega arith)
parts_le (negsuc a) (pos b) h = record { le = tt }
parts_le (negsuc a) (negsuc b) h = record { le = le→leb b a (omega arith) }

-- a positive factor on both sides
scaled_parts : (a : ℤ) (k : ℕ) → (positive (a *ℤ pos k) ≡ positive a * k) × (negative (a *ℤ pos k) ≡ negative a * k)
unfolding positive negative
scaled_parts (pos n) k = (refl, sym (zero-mul k))
scaled_parts (negsuc n) k = ((neg_parts (pos (suc n * k))).top ∙ sym (zero-mul k), (neg_parts (pos (suc n * k))).bottom)

pub le_scaled : {a b : ℤ} (k : ℕ) → a ≤ℤ b → (a *ℤ pos k) ≤ℤ (b *ℤ pos k)
le_scaled {a} {b} k h =
    parts_le (a *ℤ pos k) (b *ℤ pos k) (omega (arith, scaled_parts a k, scaled_parts b k, mul-le-mul_right k (le_parts h)))

-- and back
pub le_unscaled : (a b : ℤ) {k : ℕ} → 0 < k → (a *ℤ pos k) ≤ℤ (b *ℤ pos k) → a ≤ℤ b
le_unscaled a b {k} some h =
    parts_le a b (le_of_mul-le-mul_right {k = k} (omega (arith, le_parts h, scaled_parts a k, scaled_parts b k)) some)

-- as a test
pub le_test : {a b : ℤ} → a ≤ℤ b → le_z a b ≡ true
le_test {a} {b} h = go (le_z a b) h.le
  where
    go : (t : Bool) → T t → t ≡ true
    go true holds = refl
    go false holds = absurd holds

-- a sum in between
pub le_sums : (a b c d : ℤ) → a ≤ℤ (b +ℤ c) → c ≤ℤ d → a ≤ℤ (b +ℤ d)
le_sums a b c d h k = parts_le a (b +ℤ d) (omega (arith, le_parts h, le_parts k, add_parts b c, add_parts b d))

-- two inequalities added
pub le_add : {a b c d : ℤ} → a ≤ℤ b → c ≤ℤ d → (a +ℤ c) ≤ℤ (b +ℤ d)
le_add {a} {b} {c} {d} h k = parts_le (a +ℤ c) (b +ℤ d) (omega (arith, le_parts h, le_parts k, add_parts a c, add_parts b d))

-- and turned about by a minus
pub le_neg : {a b : ℤ} → a ≤ℤ b → neg_ℤ b ≤ℤ neg_ℤ a
le_neg {a} {b} h = parts_le (neg_ℤ b) (neg_ℤ a) (omega (arith, le_parts h, neg_parts a, neg_parts b))

pub abs_add : (a b : ℤ) → nat_abs (a +ℤ b) ≤ nat_abs a + nat_abs b
abs_add a b = omega (arith, add_parts a b, abs_parts a, abs_parts b, abs_parts (a +ℤ b))

pub abs_sub_comm : (a b : ℤ) → nat_abs (a -ℤ b) ≡ nat_abs (b -ℤ a)
abs_sub_comm a b = sym (abs_neg (a -ℤ b)) ∙ ap nat_abs (neg_sub a b)
  where
    neg_sub : (a b : ℤ) → neg_ℤ (a -ℤ b) ≡ b -ℤ a
    neg_sub a b = simp ringℤ

pub abs_sub : (m n : ℕ) → nat_abs (pos m -ℤ pos n) ≡ (m - n) + (n - m)
unfolding positive negative
abs_sub m n = ⊎_elim (λ h. omega (arith, sum, flip, size)) (λ h. omega (arith, sum, flip, size)) (one_part (pos m -ℤ pos n))
  where
    sum : Sum (pos m) (neg_ℤ (pos n)) (pos m -ℤ pos n)
    sum = add_parts (pos m) (neg_ℤ (pos n))

    flip : Negation (pos n) (neg_ℤ (pos n))
    flip = neg_parts (pos n)

    size : nat_abs (pos m -ℤ pos n) ≡ positive (pos m -ℤ pos n) + negative (pos m -ℤ pos n)
    size = abs_parts (pos m -ℤ pos n)

pub abs_zero : (z : ℤ) → nat_abs z ≡ 0 → z ≡ pos 0
abs_zero z h = from_parts z (pos 0) (omega (arith, abs_parts z, abs_parts (pos 0)))

pub sub_zero_same : (a b : ℤ) → nat_abs (a -ℤ b) ≡ 0 → a ≡ b
sub_zero_same a b h = minus_plus a b ∙ ap (λ (z : ℤ). z +ℤ b) (abs_zero (a -ℤ b) h) ∙ +ℤ_idl b

-- what two differences from n differ by
pub difference : (n a b : ℤ) → (n -ℤ a) -ℤ (n -ℤ b) ≡ b -ℤ a
difference n a b =
    regrouped n (neg_ℤ a) b ∙ ap (λ (z : ℤ). z +ℤ (b -ℤ a)) (+ℤ_invr n) ∙ +ℤ_idl (b -ℤ a)
  where
    regrouped : (n c b : ℤ) → (n +ℤ c) -ℤ (n -ℤ b) ≡ (n -ℤ n) +ℤ (b +ℤ c)
    regrouped n c b = simp ringℤ

pub abs_sub_le : (a b : ℤ) → nat_abs (a -ℤ b) ≤ nat_abs a + nat_abs b
abs_sub_le a b = omega (arith, abs_add a (neg_ℤ b), abs_neg b)

pub through : (a b c : ℤ) → (a -ℤ b) +ℤ (b -ℤ c) ≡ a -ℤ c
through a b c = sym (+ℤ_assoc (a -ℤ b) b (neg_ℤ c)) ∙ ap (λ (z : ℤ). z -ℤ c) (-ℤ-+ℤ_cancel a b)
