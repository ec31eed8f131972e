-- What it means that a quotient lies within a radius of a value, over whole numbers.
use Rattle.std.specs.Prelude.{ℕ, ◌*◌, ◌≤◌, ℤ, pos, nat_abs, ◌-ℤ◌, ◌*ℤ◌}

-- u ÷ m differs from c by at most e
pub record Within (u : ℤ) (m : ℕ) (c : ℤ) (e : ℕ) : Type 0 where
  pub off : nat_abs (u -ℤ c *ℤ pos m) ≤ e * m
