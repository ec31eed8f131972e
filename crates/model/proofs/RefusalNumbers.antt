-- The numbers of the refusals: from 1 on, and of two digits at most.
use Prim.Native.Nat.{ℕ, zero, suc, ◌^◌, ◌≤◌, ◌<◌}
use mathlib.Core.Bool.{false≢true}
use mathlib.Core.Path.{◌≡◌, sym, ap}
use native.Mathlib.Omega.{arith}
use lib.IntN.{pos, neg_ℤ}
use lib.Signed.{non_neg}
use Rattle.model.specs.Sheet.{number}
use Rattle.model.specs.declared.Refusal.{Refusal}
use Rattle.model.specs.declared.Refusal.TheVariants.{Oversized, Misspelt, OutOfRange, NoReading, TooFewPlaces, TooLarge, StepTooLong, Intolerable, QueryOutOfRange, RowOutOfRange}

number_bounds : (r : Refusal) → (1 ≤ number r) × (number r < 10 ^ 2)
unfolding number
number_bounds Oversized = (omega arith, omega arith)
number_bounds Misspelt = (omega arith, omega arith)
number_bounds OutOfRange = (omega arith, omega arith)
number_bounds NoReading = (omega arith, omega arith)
number_bounds TooFewPlaces = (omega arith, omega arith)
number_bounds TooLarge = (omega arith, omega arith)
number_bounds StepTooLong = (omega arith, omega arith)
number_bounds Intolerable = (omega arith, omega arith)
number_bounds QueryOutOfRange = (omega arith, omega arith)
number_bounds RowOutOfRange = (omega arith, omega arith)

pub number_from_one : (r : Refusal) → 1 ≤ number r
number_from_one r = (number_bounds r).0

pub number_short : (r : Refusal) → number r < 10 ^ 2
number_short r = (number_bounds r).1

-- with a minus it is no number from 0 on
pub minus_not_natural : (r : Refusal) (m : ℕ) → pos m ≡ neg_ℤ (pos (number r)) → ⊥
minus_not_natural r m e = go (number r) (number_from_one r) e
  where
    go : (k : ℕ) → 1 ≤ k → pos m ≡ neg_ℤ (pos k) → ⊥
    go zero l e = omega arith
    go (suc k) l e = false≢true (sym (ap non_neg e))
