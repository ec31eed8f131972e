-- The largest of numbers, as a loop forms it.
use Prim.Native.Nat.{ℕ, zero, suc, ◌+◌, max, ◌<◌}
use mathlib.Core.Path.{◌≡◌, refl, ap₂}
use native.Mathlib.Numerals.{add-one}
use native.Mathlib.Omega.{arith}
use Rattle.ranges.specs.Range.{largest}
use Rattle.ranges.proofs.Ranges.{below}

-- the largest of one number more
pub largest_suc : (n : ℕ) (f : ℕ → ℕ) → largest (suc n) f ≡ max (largest n f) (f n)
unfolding largest
largest_suc n f = refl

pub largest_more : (n : ℕ) (f : ℕ → ℕ) → largest (n + 1) f ≡ max (largest n f) (f n)
largest_more n f = rw add-one (largest_suc n f)

-- equal numbers have the same largest
pub largest_equal : (n : ℕ) (f g : ℕ → ℕ) → ((i : ℕ) → i < n → f i ≡ g i) → largest n f ≡ largest n g
unfolding largest
largest_equal zero f g h = refl
largest_equal (suc n) f g h = ap₂ max (largest_equal n f g (below n h)) (h n (omega arith))
