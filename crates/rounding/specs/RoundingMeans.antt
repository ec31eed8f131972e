-- What is proved of the two roundings: what document 01's words say of a number, which `up` and `near` have, and no other number has
-- (proofs/Roundings.antt). No contract cites it.
use Rattle.std.specs.Prelude.{ℕ, ◌*◌, ◌≤◌, ◌≡◌, ℤ, pos, nat_abs, ◌-ℤ◌, ◌*ℤ◌}

-- u is the least whole number not below n ÷ d
pub record IsUp (n d u : ℕ) : Type 0 where
  pub not_below : n ≤ u * d
  pub least : (k : ℕ) → n ≤ k * d → u ≤ k

-- how far z is from n ÷ d, times d
unfoldable pub distance : ℤ → ℕ → ℤ → ℕ
distance n d z = nat_abs (n -ℤ z *ℤ pos d)

-- z is a nearest whole number to n ÷ d, and at a tie the one away from zero
pub record IsNear (n : ℤ) (d : ℕ) (z : ℤ) : Type 0 where
  pub within_half : 2 * distance n d z ≤ d
  pub none_nearer : (k : ℤ) → distance n d z ≤ distance n d k
  pub tie_away : 2 * distance n d z ≡ d → nat_abs n ≤ nat_abs z * d
