-- What a table keeps, with one coefficient stored: no other order of any quantity is changed. And a table of nothing.
use Prim.Native.Nat.{ℕ, ◌≤◌, ◌<◌}
use mathlib.Core.List.{List, []}
use mathlib.Core.Logic.{⊎_elim}
use mathlib.Core.Path.{◌≡◌, ap, ◌∙◌}
use native.Mathlib.Decide.{ℕ_discrete}
use native.Mathlib.Omega.{arith}
use lib.IntN.{nat_abs}
use lib.ListN.{length, get_or, set, length-set, replicate, length-replicate, get_or-replicate, get_or-eq_default}
use lib.Seq.{get_or-set_same, get_or-set_other}
use Rattle.ranges.proofs.Ranges.{before_or_past}
use Rattle.model.specs.Sheet.{most_quantities}
use Rattle.products.specs.Orders.{orders, no_coefficient, kept, Whole, Covered}
use Rattle.products.specs.declared.table.Coefficient.{Coefficient}

-- ---- nothing at any order

pub get_or_replicated : {A : Type 0} (n i : ℕ) (a : A) → get_or (replicate n a) i a ≡ a
get_or_replicated n i a = ⊎_elim (get_or-replicate n i a a) (λ (h : n ≤ i). get_or-eq_default (replicate n a) a (rw length-replicate h)) (before_or_past i n)

abbrev pub nothing : List (List Coefficient)
nothing = replicate most_quantities (replicate orders no_coefficient)

quantity_of_nothing : (i : ℕ) → i < most_quantities → get_or nothing i [] ≡ replicate orders no_coefficient
quantity_of_nothing i h = get_or-replicate most_quantities i (replicate orders no_coefficient) [] h

pub nothing_kept : (order i : ℕ) → kept nothing order i ≡ no_coefficient
nothing_kept order i =
    ⊎_elim
    (λ (h : i < most_quantities). rw (quantity_of_nothing i h) (get_or_replicated orders order no_coefficient))
    (λ (h : most_quantities ≤ i). ap (λ (list : List Coefficient). get_or list order no_coefficient) (get_or-eq_default nothing [] (rw length-replicate h)))
    (before_or_past i most_quantities)

pub nothing_whole : Whole nothing
nothing_whole i h = rw (quantity_of_nothing i h) (length-replicate orders no_coefficient)

pub nothing_covered : Covered nothing
nothing_covered order i = rw (nothing_kept order i) (omega arith)

-- ---- one coefficient stored

abbrev pub stored : List (List Coefficient) → ℕ → ℕ → Coefficient → List (List Coefficient)
stored quantities i k c = set quantities i (set (get_or quantities i []) k c)

module _ (quantities : List (List Coefficient)) (i k : ℕ) (c : Coefficient) (all : length quantities ≡ most_quantities) (whole : Whole quantities) (h : i < most_quantities) (l : k < orders) where
  quantity_stored : get_or (stored quantities i k c) i [] ≡ set (get_or quantities i []) k c
  quantity_stored = get_or-set_same quantities i (set (get_or quantities i []) k c) [] (omega arith)

  pub stored_here : kept (stored quantities i k c) k i ≡ c
  stored_here = rw quantity_stored (get_or-set_same (get_or quantities i []) k c no_coefficient (omega (arith, whole i h)))

  pub stored_other : (order j : ℕ) → ((order ≡ k) × (j ≡ i) → ⊥) → kept (stored quantities i k c) order j ≡ kept quantities order j
  stored_other order j apart = go (ℕ_discrete j i)
    where
      go : Dec (j ≡ i) → kept (stored quantities i k c) order j ≡ kept quantities order j
      go (yes p) = rw (p, quantity_stored) (get_or-set_other (get_or quantities i []) k order c no_coefficient (λ q. apart (q, p)))
      go (no f) = rw (get_or-set_other quantities i j (set (get_or quantities i []) k c) [] f)

  pub stored_whole : Whole (stored quantities i k c)
  stored_whole j m = go (ℕ_discrete j i)
    where
      go : Dec (j ≡ i) → length (get_or (stored quantities i k c) j []) ≡ orders
      go (yes p) = rw (p, quantity_stored) (length-set (get_or quantities i []) k c ∙ whole i h)
      go (no f) = rw (get_or-set_other quantities i j (set (get_or quantities i []) k c) [] f) (whole j m)

  pub stored_covered : nat_abs c.value ≤ c.reach → Covered quantities → Covered (stored quantities i k c)
  stored_covered reached covered order j = go (ℕ_discrete order k) (ℕ_discrete j i)
    where
      go : Dec (order ≡ k) → Dec (j ≡ i) → nat_abs (kept (stored quantities i k c) order j).value ≤ (kept (stored quantities i k c) order j).reach
      go (yes p) (yes q) = rw (p, q, stored_here) reached
      go (no f) d = rw (stored_other order j (λ p. f p.0)) (covered order j)
      go (yes p) (no f) = rw (stored_other order j (λ p. f p.1)) (covered order j)
