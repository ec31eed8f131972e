-- Document 01, 'One rounded step': the two roundings, for any divisor d from 1 up.
use Rattle.std.specs.Prelude.{ℕ, suc, ◌+◌, ◌-◌, ◌*◌, ◌/◌, ℤ, pos, negsuc, neg_ℤ}

-- up(n, d): the least whole number not below n ÷ d
unfoldable pub up : ℕ → ℕ → ℕ
up n d = (n + (d - 1)) / d

-- the whole number nearest to m ÷ d, a half going up
unfoldable pub near_ℕ : ℕ → ℕ → ℕ
near_ℕ m d = (2 * m + d) / (2 * d)

-- near(n, d): the whole number nearest to n ÷ d, a half going away from zero
unfoldable pub near : ℤ → ℕ → ℤ
near (pos m) d = pos (near_ℕ m d)
near (negsuc m) d = neg_ℤ (pos (near_ℕ (suc m) d))
