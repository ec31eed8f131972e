-- A bound on the bytes of an answer, and of its parts: each line has no more digits than its number can have.
use Rattle.std.specs.Prelude.{ℕ, ◌+◌, ◌-◌, ◌*◌}
use Rattle.model.specs.Sheet.{most_quantities, most_steps}
use Rattle.printing.specs.Pieces.{most_line}

-- the digits of a value that question 4 has let pass ..
abbrev pub passed_digits : ℕ
passed_digits = 9

-- .. and of one that it has not been asked of, as in the last row
abbrev pub value_digits : ℕ
value_digits = 10

-- a value of so many digits, with a sign, and a radius, of nine
abbrev pub most_ball : ℕ → ℕ
most_ball digits = most_line 5 (digits + 1) + most_line 6 9

-- the digits of a low and of a high
abbrev pub span_digits : ℕ
span_digits = 10

-- a low and a high, each with a sign
abbrev pub most_span_lines : ℕ
most_span_lines = most_line 3 (span_digits + 1) + most_line 4 (span_digits + 1)

-- a quantity's four lines
abbrev pub most_quantity : ℕ → ℕ
most_quantity digits = most_ball digits + most_span_lines

-- a row's number, of three digits, its degree, of two, and its n quantities
abbrev pub most_row : ℕ → ℕ → ℕ
most_row digits n = most_line 3 3 + most_line 6 2 + n * most_quantity digits

-- a result, of two digits, and the refused step, of three
abbrev pub most_outcome : ℕ
most_outcome = most_line 6 2 + most_line 2 3

-- the most rows, of the most quantities, and the outcome; question 4 has let every row pass but the last
abbrev pub most_answer : ℕ
most_answer = (most_steps - 1) * most_row passed_digits most_quantities + most_row value_digits most_quantities + most_outcome
