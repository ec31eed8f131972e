-- Laws of sums, of the largest and of lists over 0 .. n - 1: one more turn, equal or smaller summands, their order, a factor moved in, magnitudes,
-- enclosures, and the entries of a list by its numbers.
use Prim.Native.Nat.{ℕ, zero, suc, ◌+◌, ◌-◌, ◌*◌, ◌≤◌, ◌<◌}
use mathlib.Core.List.{List, [], ◌∷◌, ◌++◌, map, map-append}
use mathlib.Core.Path.{◌≡◌, refl, sym, ap, ap₂, ◌∙◌, subst}
use mathlib.Core.Logic.{◌⊎◌, inl, inr, ⊎_elim}
use native.Mathlib.Nat.{eq-or-lt_of_le, mul-add, mul-zero, add-mul, zero-mul, one-mul, sub_self, le_refl, le_trans, le-max_left, le-max_right, max-le}
use native.Mathlib.Decide.{dec_lt, le_ind}
use native.Mathlib.Numerals.{add-one}
use native.Mathlib.Omega.{arith}
use lib.IntN.{ℤ, pos, nat_abs, ◌+ℤ◌, ◌*ℤ◌, zero-*ℤ, *ℤ-zero, +ℤ_idl, +ℤ_idr, +ℤ_assoc, +ℤ_comm}
use lib.ListN.{length, get_or, take, length-append, get_or-append, get_or-eq_default}
use lib.Seq.{get_or_at, ext_get_or, length-take-le, get_or-take}
use lib.Signed.{◌≤ℤ◌, ≤ℤ_refl}
use Rattle.rounding.specs.Enclosure.{Within}
use Rattle.rounding.proofs.Integers.{abs_add, le_add, mul_add_ℤ}
use Rattle.rounding.proofs.Enclosure.{within_sum, within_exact}
use Rattle.ranges.specs.Range.{sum, sum_ℤ, largest, tabulate}

-- ---- one more turn

pub sum_suc : (n : ℕ) (f : ℕ → ℕ) → sum (suc n) f ≡ sum n f + f n
unfolding sum
sum_suc n f = refl

pub sum_ℤ_suc : (n : ℕ) (f : ℕ → ℤ) → sum_ℤ (suc n) f ≡ sum_ℤ n f +ℤ f n
unfolding sum_ℤ
sum_ℤ_suc n f = refl

-- ---- summands

pub before_or_past : (i n : ℕ) → (i < n) ⊎ (n ≤ i)
before_or_past i n = either (dec_lt i n)
  where
    either : Dec (i < n) → (i < n) ⊎ (n ≤ i)
    either (yes h) = inl h
    either (no h) = inr (omega arith)

-- what holds below one more holds below n
pub below : {P : ℕ → Type 0} (n : ℕ) → ((k : ℕ) → k < suc n → P k) → (k : ℕ) → k < n → P k
below n h k lt = h k (omega arith)

pub sum_equal : (n : ℕ) (f g : ℕ → ℕ) → ((k : ℕ) → k < n → f k ≡ g k) → sum n f ≡ sum n g
unfolding sum
sum_equal zero f g h = refl
sum_equal (suc n) f g h = ap₂ (λ (a b : ℕ). a + b) (sum_equal n f g (below n h)) (h n (omega arith))

pub sum_ℤ_equal : (n : ℕ) (f g : ℕ → ℤ) → ((k : ℕ) → k < n → f k ≡ g k) → sum_ℤ n f ≡ sum_ℤ n g
unfolding sum_ℤ
sum_ℤ_equal zero f g h = refl
sum_ℤ_equal (suc n) f g h = ap₂ (λ (a b : ℤ). a +ℤ b) (sum_ℤ_equal n f g (below n h)) (h n (omega arith))

pub sum_le : (n : ℕ) (f g : ℕ → ℕ) → ((k : ℕ) → k < n → f k ≤ g k) → sum n f ≤ sum n g
unfolding sum
sum_le zero f g h = omega arith
sum_le (suc n) f g h = omega (arith, sum_le n f g (below n h), h n (omega arith))

pub sum_ℤ_le : (n : ℕ) (f g : ℕ → ℤ) → ((k : ℕ) → k < n → f k ≤ℤ g k) → sum_ℤ n f ≤ℤ sum_ℤ n g
unfolding sum_ℤ
sum_ℤ_le zero f g h = ≤ℤ_refl (pos 0)
sum_ℤ_le (suc n) f g h = le_add (sum_ℤ_le n f g (below n h)) (h n (omega arith))

pub sum_plus : (n : ℕ) (f g : ℕ → ℕ) → sum n (λ k. f k + g k) ≡ sum n f + sum n g
unfolding sum
sum_plus zero f g = refl
sum_plus (suc n) f g = omega (arith, sum_plus n f g)

pub sum_constant : (n a : ℕ) → sum n (λ k. a) ≡ n * a
unfolding sum
sum_constant zero a = sym (zero-mul a)
sum_constant (suc n) a = omega (arith, sum_constant n a, rw add-one at (add-mul n 1 a), one-mul a)

pub sum_ℤ_zero : (n : ℕ) (f : ℕ → ℤ) → ((k : ℕ) → k < n → f k ≡ pos 0) → sum_ℤ n f ≡ pos 0
unfolding sum_ℤ
sum_ℤ_zero zero f h = refl
sum_ℤ_zero (suc n) f h = ap₂ (λ (a b : ℤ). a +ℤ b) (sum_ℤ_zero n f (below n h)) (h n (omega arith))

-- where the summands before the last are 0
pub sum_ℤ_last : (n : ℕ) (f : ℕ → ℤ) → ((k : ℕ) → k < n → f k ≡ pos 0) → sum_ℤ (suc n) f ≡ f n
sum_ℤ_last n f h = sum_ℤ_suc n f ∙ ap (λ (z : ℤ). z +ℤ f n) (sum_ℤ_zero n f h) ∙ +ℤ_idl (f n)

-- where all are 0 but one
pub sum_ℤ_single : (n i : ℕ) (f : ℕ → ℤ) → i < n → ((k : ℕ) → k < n → (k ≡ i → ⊥) → f k ≡ pos 0) → sum_ℤ n f ≡ f i
sum_ℤ_single zero i f h rest = absurd (omega arith)
sum_ℤ_single (suc n) i f h rest =
    ⊎_elim (λ (e : i ≡ n). sum_ℤ_last n f (λ k l. rest k (omega arith) (λ same. omega arith)) ∙ ap f (sym e)) (λ (l : i < n). sum_ℤ_suc n f ∙ ap₂ (λ (a b : ℤ). a +ℤ b) (sum_ℤ_single n i f l (below n rest)) (rest n (omega arith) (λ same. omega arith)) ∙ +ℤ_idr (f i)) (eq-or-lt_of_le {n = i} {m = n} (omega arith))

-- ---- the first summand, and the order of the summands

pub sum_first : (n : ℕ) (f : ℕ → ℕ) → sum (suc n) f ≡ f 0 + sum n (λ k. f (suc k))
unfolding sum
sum_first zero f = omega arith
sum_first (suc n) f = omega (arith, sum_first n f)

pub sum_ℤ_first : (n : ℕ) (f : ℕ → ℤ) → sum_ℤ (suc n) f ≡ f 0 +ℤ sum_ℤ n (λ k. f (suc k))
unfolding sum_ℤ
sum_ℤ_first zero f = +ℤ_comm (pos 0) (f 0)
sum_ℤ_first (suc n) f = ap (λ (z : ℤ). z +ℤ f (suc n)) (sum_ℤ_first n f) ∙ +ℤ_assoc (f 0) (sum_ℤ n (λ k. f (suc k))) (f (suc n))

pub sum_ℤ_reversed : (k : ℕ) (f : ℕ → ℤ) → sum_ℤ (suc k) f ≡ sum_ℤ (suc k) (λ l. f (k - l))
unfolding sum_ℤ
sum_ℤ_reversed zero f = refl
sum_ℤ_reversed (suc k) f =
    sum_ℤ_first (suc k) f ∙ ap (λ (z : ℤ). f 0 +ℤ z) (sum_ℤ_reversed k (λ l. f (suc l)) ∙ sum_ℤ_equal (suc k) _ _ (λ l h. ap f (after k l h)))
    ∙ +ℤ_comm (f 0) (sum_ℤ (suc k) (λ l. f (suc k - l))) ∙ ap (λ (j : ℕ). sum_ℤ (suc k) (λ l. f (suc k - l)) +ℤ f j) (sym (sub_self (suc k)))
  where
    after : (k l : ℕ) → l < suc k → suc (k - l) ≡ suc k - l
    after k l h = omega arith

-- ---- a factor

pub sum_factor : (n a : ℕ) (f : ℕ → ℕ) → a * sum n f ≡ sum n (λ k. a * f k)
unfolding sum
sum_factor zero a f = mul-zero a
sum_factor (suc n) a f = mul-add a (sum n f) (f n) ∙ ap (λ (b : ℕ). b + a * f n) (sum_factor n a f)

pub sum_ℤ_factor : (n : ℕ) (a : ℤ) (f : ℕ → ℤ) → a *ℤ sum_ℤ n f ≡ sum_ℤ n (λ k. a *ℤ f k)
unfolding sum_ℤ
sum_ℤ_factor zero a f = *ℤ-zero a
sum_ℤ_factor (suc n) a f = mul_add_ℤ a (sum_ℤ n f) (f n) ∙ ap (λ (b : ℤ). b +ℤ a *ℤ f n) (sum_ℤ_factor n a f)

-- ---- magnitudes and enclosures

pub abs_sum_ℤ_le : (n : ℕ) (f : ℕ → ℤ) → nat_abs (sum_ℤ n f) ≤ sum n (λ k. nat_abs (f k))
unfolding sum sum_ℤ
abs_sum_ℤ_le zero f = omega arith
abs_sum_ℤ_le (suc n) f = omega (arith, abs_add (sum_ℤ n f) (f n), abs_sum_ℤ_le n f)

pub within_zero : (m : ℕ) → Within (pos 0) m (pos 0) 0
within_zero m = subst (λ (z : ℤ). Within z m (pos 0) 0) (zero-*ℤ (pos m)) (within_exact (pos 0) m)

pub within_same : {u v : ℤ} {m n : ℕ} {c : ℤ} {e : ℕ} → u ≡ v → m ≡ n → Within u m c e → Within v n c e
within_same p q w = rw (p, q) at w

pub within_sums : (n : ℕ) (u : ℕ → ℤ) {m : ℕ} (c : ℕ → ℤ) (e : ℕ → ℕ) → ((k : ℕ) → k < n → Within (u k) m (c k) (e k)) → Within (sum_ℤ n u) m (sum_ℤ n c) (sum n e)
unfolding sum sum_ℤ
within_sums zero u {m} c e h = within_zero m
within_sums (suc n) u c e h = within_sum (within_sums n u c e (below n h)) (h n (omega arith))

-- ---- a list by its numbers

pub length_tabulate : {A : Type 0} (n : ℕ) (f : ℕ → A) → length (tabulate n f) ≡ n
unfolding tabulate
length_tabulate zero f = refl
length_tabulate (suc n) f = length-append (tabulate n f) (f n ∷ []) ∙ ap (λ (m : ℕ). m + 1) (length_tabulate n f) ∙ add-one n

pub get_or_tabulate : {A : Type 0} (n : ℕ) (f : ℕ → A) (x : A) (i : ℕ) → i < n → get_or (tabulate n f) i x ≡ f i
unfolding tabulate
get_or_tabulate zero f x i h = absurd (omega arith)
get_or_tabulate (suc n) f x i h =
    ⊎_elim last (λ (lt : i < n). earlier lt (get_or_tabulate n f x i lt)) (eq-or-lt_of_le {n = i} {m = n} (omega arith))
  where
    earlier : i < n → get_or (tabulate n f) i x ≡ f i → get_or (tabulate n f ++ (f n ∷ [])) i x ≡ f i
    earlier lt e = get_or-append (tabulate n f) (f n ∷ []) x i (rw length_tabulate lt) ∙ e

    last : i ≡ n → get_or (tabulate n f ++ (f n ∷ [])) i x ≡ f i
    last e = rw e (get_or_at (tabulate n f) (f n) [] x n (length_tabulate n f))

pub tabulate_equal : {A : Type 0} (n : ℕ) (f g : ℕ → A) → ((i : ℕ) → i < n → f i ≡ g i) → tabulate n f ≡ tabulate n g
unfolding tabulate
tabulate_equal zero f g h = refl
tabulate_equal (suc n) f g h = rw (tabulate_equal n f g (below n h), h n (omega arith))

pub map_tabulate : {A B : Type 0} (n : ℕ) (f : ℕ → A) (g : A → B) → map g (tabulate n f) ≡ tabulate n (λ i. g (f i))
unfolding tabulate
map_tabulate zero f g = refl
map_tabulate (suc n) f g = rw (map-append, map_tabulate n f g)

pub get_or_tabulate_past : {A : Type 0} (n : ℕ) (f : ℕ → A) (x : A) (i : ℕ) → n ≤ i → get_or (tabulate n f) i x ≡ x
get_or_tabulate_past n f x i h = get_or-eq_default (tabulate n f) x (rw length_tabulate h)

-- a list is what its numbers make of its entries
pub tabulate_is : {A : Type 0} (n : ℕ) (f : ℕ → A) (x : A) (xs : List A) → length xs ≡ n → ((i : ℕ) → i < n → f i ≡ get_or xs i x) → tabulate n f ≡ xs
tabulate_is n f x xs len h =
    ext_get_or x (tabulate n f) xs (length_tabulate n f ∙ sym len) (λ i k. let l : i < n = rw length_tabulate at k in get_or_tabulate n f x i l ∙ h i l)

-- the first n entries are the list's front
pub tabulate_front : {A : Type 0} (n : ℕ) (x : A) (xs : List A) → n ≤ length xs → tabulate n (λ i. get_or xs i x) ≡ take n xs
tabulate_front n x xs h =
    tabulate_is n (λ i. get_or xs i x) x (take n xs) (length-take-le n xs h) (λ i k. sym (get_or-take n xs i x k))

-- ---- fewer summands, and one of them

pub sum_partial : (f : ℕ → ℕ) {m : ℕ} (n : ℕ) → m ≤ n → sum m f ≤ sum n f
unfolding sum
sum_partial f {m} = le_ind (λ n. sum m f ≤ sum n f) (le_refl (sum m f)) (λ n h l. omega arith)

pub summand_le : (f : ℕ → ℕ) (n : ℕ) {k : ℕ} → k < n → f k ≤ sum n f
unfolding sum
summand_le f n {k} h = omega (arith, sum_partial f n h)

-- ---- the largest

pub largest_le : (n : ℕ) (f : ℕ → ℕ) (i : ℕ) → i < n → f i ≤ largest n f
unfolding largest
largest_le zero f i h = absurd (omega arith)
largest_le (suc n) f i h =
    ⊎_elim (λ (e : i ≡ n). rw e (le-max_right (largest n f) (f n))) (λ (l : i < n). le_trans (largest_le n f i l) (le-max_left (largest n f) (f n))) (eq-or-lt_of_le {n = i} {m = n} (omega arith))

pub largest_bounded : (n : ℕ) (f : ℕ → ℕ) (b : ℕ) → ((i : ℕ) → i < n → f i ≤ b) → largest n f ≤ b
unfolding largest
largest_bounded zero f b h = omega arith
largest_bounded (suc n) f b h = max-le (largest_bounded n f b (below n h)) (h n (omega arith))
