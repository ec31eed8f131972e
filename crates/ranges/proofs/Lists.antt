-- What each entry of a list has, and each two of them.
use Prim.Native.Nat.{ℕ, zero, suc, ◌<◌}
use mathlib.Core.List.{List, [], ◌∷◌}
use native.Mathlib.Omega.{arith}
use lib.ListN.{length, get_or}

-- ---- each entry

pub data Each {A : Type 0} (P : A → Type 0) : List A → Type 0 where
  none : Each P []
  entry_first : {x : A} {xs : List A} → P x → Each P xs → Each P (x ∷ xs)

pub each_head : {A : Type 0} {P : A → Type 0} {x : A} {xs : List A} → Each P (x ∷ xs) → P x
each_head (entry_first p later) = p

pub each_tail : {A : Type 0} {P : A → Type 0} {x : A} {xs : List A} → Each P (x ∷ xs) → Each P xs
each_tail (entry_first p later) = later

pub each_at : {A : Type 0} {P : A → Type 0} {xs : List A} (d : A) → Each P xs → (j : ℕ) → j < length xs → P (get_or xs j d)
each_at d none j h = absurd (omega arith)
each_at d (entry_first p later) zero h = p
each_at d (entry_first p later) (suc j) h = each_at d later j (omega arith)

pub each_from : {A : Type 0} {P : A → Type 0} (d : A) (xs : List A) → ((j : ℕ) → j < length xs → P (get_or xs j d)) → Each P xs
each_from d [] at = none
each_from d (x ∷ xs) at = entry_first (at 0 (omega arith)) (each_from d xs (λ j h. at (suc j) (omega arith)))

pub each_map : {A : Type 0} {P Q : A → Type 0} {xs : List A} → ((x : A) → P x → Q x) → Each P xs → Each Q xs
each_map f none = none
each_map f (entry_first p later) = entry_first (f _ p) (each_map f later)

pub each_both : {A : Type 0} {P Q : A → Type 0} {xs : List A} → Each P xs → Each Q xs → Each (λ x. P x × Q x) xs
each_both none none = none
each_both (entry_first p ps) (entry_first q qs) = entry_first (p, q) (each_both ps qs)

-- ---- each entry with each later one

pub data EachLater {A : Type 0} (R : A → A → Type 0) : List A → Type 0 where
  none : EachLater R []
  pair_first : {x : A} {xs : List A} → Each (R x) xs → EachLater R xs → EachLater R (x ∷ xs)

pub later_head : {A : Type 0} {R : A → A → Type 0} {x : A} {xs : List A} → EachLater R (x ∷ xs) → Each (R x) xs
later_head (pair_first p later) = p

pub later_tail : {A : Type 0} {R : A → A → Type 0} {x : A} {xs : List A} → EachLater R (x ∷ xs) → EachLater R xs
later_tail (pair_first p later) = later

pub later_at : {A : Type 0} {R : A → A → Type 0} {xs : List A} (d : A) → EachLater R xs → (i j : ℕ) → i < j → j < length xs → R (get_or xs i d) (get_or xs j d)
later_at d none i j l h = absurd (omega arith)
later_at d (pair_first p later) i zero l h = absurd (omega arith)
later_at d (pair_first p later) zero (suc j) l h = each_at d p j (omega arith)
later_at d (pair_first p later) (suc i) (suc j) l h = later_at d later i j (omega arith) (omega arith)

pub later_from : {A : Type 0} {R : A → A → Type 0} (d : A) (xs : List A) → ((i j : ℕ) → i < j → j < length xs → R (get_or xs i d) (get_or xs j d)) → EachLater R xs
later_from d [] at = none
later_from d (x ∷ xs) at = pair_first (each_from d xs (λ j h. at 0 (suc j) (omega arith) (omega arith))) (later_from d xs (λ i j l h. at (suc i) (suc j) (omega arith) (omega arith)))

-- a relation that follows from another one and from what both entries have
pub later_map : {A : Type 0} {P : A → Type 0} {R S : A → A → Type 0} {xs : List A} → ((x y : A) → P x → P y → R x y → S x y) → Each P xs → EachLater R xs → EachLater S xs
later_map f none none = none
later_map f (entry_first p ps) (pair_first r later) = pair_first (each_map (λ y both. f _ y p both.0 both.1) (each_both ps r)) (later_map f ps later)
