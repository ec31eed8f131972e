-- What a table of coefficients keeps: c and |c| + e of each order of each quantity.
use Rattle.std.specs.Prelude.{ℕ, ◌+◌, ◌≤◌, ◌<◌, List, [], ◌≡◌, pos, nat_abs, length, get_or}
use Rattle.model.specs.Sheet.{most_quantities}
use Rattle.model.specs.Step.{most_degree}
use Rattle.products.specs.declared.table.Coefficient.{Coefficient}

-- the number of orders of one quantity: 0 .. 28
abbrev pub orders : ℕ
orders = most_degree + 1

-- what is read past the end
abbrev pub no_coefficient : Coefficient
no_coefficient = record { value = pos 0; reach = 0 }

-- c and |c| + e of an order of a quantity
abbrev pub kept : List (List Coefficient) → ℕ → ℕ → Coefficient
kept quantities order i = get_or (get_or quantities i []) order no_coefficient

-- Each quantity has all its orders.
abbrev pub Whole : List (List Coefficient) → Type 0
Whole quantities = (i : ℕ) → i < most_quantities → length (get_or quantities i []) ≡ orders

-- No |c| is above its |c| + e.
abbrev pub Covered : List (List Coefficient) → Type 0
Covered quantities = (order i : ℕ) → nat_abs (kept quantities order i).value ≤ (kept quantities order i).reach
