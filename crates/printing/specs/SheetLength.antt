-- A bound on the bytes of a sheet's text, and of its parts: each line has no more digits than its number can have. A term whose numbers have no more.
use Rattle.std.specs.Prelude.{ℕ, ◌+◌, ◌*◌, ◌≤◌, nat_abs}
use Rattle.model.specs.Sheet.{most_quantities, most_terms, most_coef}
use Rattle.model.specs.declared.Term.{Term}
use Rattle.printing.specs.Pieces.{most_line}

-- n, of one digit, the steps, of three, the step, of eight and a sign, the tail, of eight, and the tolerance, of nine
abbrev pub most_head : ℕ
most_head = most_line 1 1 + most_line 5 3 + most_line 4 9 + most_line 4 8 + most_line 3 9

-- a start, of nine digits and a sign
abbrev pub most_start : ℕ
most_start = most_line 5 10

-- a start and its radius, of nine digits
abbrev pub most_quantity : ℕ
most_quantity = most_start + most_line 6 9

-- how many terms there are, of two digits
abbrev pub most_count : ℕ
most_count = most_line 5 2

-- a term: its coefficient has nine digits and a sign, and each quantity's number one
abbrev pub most_term : ℕ
most_term = most_line 2 1 + most_line 4 10 + most_line 5 1 + most_line 6 1

-- the most quantities and the most terms
abbrev pub most_sheet : ℕ
most_sheet = most_head + most_quantities * most_quantity + most_count + most_terms * most_term

-- no number of a term is larger than a sheet's may be
pub record TermShort (term : Term) : Type 0 where
  pub target : term.to ≤ most_quantities
  pub coefficient : nat_abs term.coef ≤ most_coef
  pub first : term.first ≤ most_quantities
  pub second : term.second ≤ most_quantities
