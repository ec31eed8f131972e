-- A list stored from the front of an array of one number is padded with that number.
use Prim.Native.Nat.{ℕ, zero, suc, ◌-◌, ◌≤◌}
use mathlib.Core.List.{List}
use mathlib.Core.Path.{◌≡◌, refl, ◌∙◌}
use native.Mathlib.Nat.{zero-add}
use native.Mathlib.Numerals.{unary_clauses}
use native.Mathlib.Omega.{arith}
use lib.ListN.{length, drop, replicate, length-replicate}
use lib.Seq.{sets, sets-eq}
use Rattle.model.specs.Sheet.{padded}

module _ {A : Type 0} (last : A) where
  -- what is left of an array of one number behind its first k places
  drop_replicate : (k size : ℕ) → drop k (replicate size last) ≡ replicate (size - k) last
  drop_replicate zero size = simp unary_clauses refl
  drop_replicate (suc k) zero = let none : 0 - suc k ≡ 0 = omega arith in rw none
  drop_replicate (suc k) (suc size) = simp unary_clauses (drop_replicate k size)

  pub stored_padded : (size : ℕ) (xs : List A) → length xs ≤ size → sets (replicate size last) 0 xs ≡ padded size last xs
  unfolding padded
  stored_padded size xs h =
      sets-eq xs (replicate size last) 0 (rw length-replicate (omega arith)) ∙ rw (zero-add (length xs), drop_replicate (length xs) size)
