-- The sheets that the worked cases are of: as texts, and as numbers.
use Rattle.std.specs.Prelude.{ℕ, List, [], ◌∷◌, ℤ, pos, length, Some, None}
use Prim.Native.String.{String, ◌++◌ as ◌&◌}
use Rattle.model.specs.Sheet.{quantities_held, terms_held}
use Rattle.model.specs.declared.Quantity.{Quantity}
use Rattle.model.specs.declared.Sheet.{Sheet}
use Rattle.model.specs.declared.Term.{Term}

-- ---- sheets as texts

-- one quantity: n, steps, step, tail, tol, start, radius, and then the terms
abbrev pub sheet_lines : String → String → String → String → String → String → String → String
sheet_lines steps step tail tol start radius terms =
    "n=1\nsteps=" & steps & "\nstep=" & step & "\ntail=" & tail & "\ntol=" & tol & "\nstart=" & start & "\nradius=" & radius & "\nterms=" & terms

-- no terms
abbrev pub none : String
none = "0\n"

-- a term: its target, its coefficient and its factors
abbrev pub term_lines : String → String → String → String → String
term_lines to coef first second = "to=" & to & "\ncoef=" & coef & "\nfirst=" & first & "\nsecond=" & second & "\n"

-- one term with these factors, its coefficient one whole
abbrev pub one : String → String → String
one first second = "1\n" & term_lines "1" "16777216" first second

-- x' = x × x
abbrev pub square : String
square = one "1" "1"

-- terms on x × x with these coefficients
unfoldable pub squares : List String → String
squares [] = ""
squares (coef ∷ coefs) = term_lines "1" coef "1" "1" & squares coefs

-- sounding A with these terms
abbrev pub A : String → String
A terms = sheet_lines "1" "4194304" "349526" "349534" "16777216" "0" terms

-- with its own, x' = x × x, and another step
abbrev pub A_by : String → String
A_by step = sheet_lines "1" step "349526" "349534" "16777216" "0" square

-- with its own, and another start and radius
abbrev pub A_from : String → String → String
A_from start radius = sheet_lines "1" "4194304" "349526" "349534" start radius square

-- its answer
abbrev pub A_answer : String
A_answer = "row=1\ndegree=2\nvalue=22020096\nradius=349534\nlow=11184802\nhigh=22369630\nresult=0\nat=0\n"

-- one step of so many quantities: n, step, tail, and then the quantities and the terms
abbrev pub several : String → String → String → String → String → String
several n step tail quantities terms = "n=" & n & "\nsteps=1\nstep=" & step & "\ntail=" & tail & "\ntol=536870912\n" & quantities & "terms=" & terms

-- a quantity: its start and its radius
abbrev pub start_lines : String → String → String
start_lines start radius = "start=" & start & "\nradius=" & radius & "\n"

-- two quantities, each in the other's rate, with this step and tolerance: x' = y, y' = -x × y
abbrev pub two : String → String → String
two step tol =
    "n=2\nsteps=2\nstep=" & step & "\ntail=349526\ntol=" & tol & "\nstart=16777216\nradius=3\nstart=8388608\nradius=5\nterms=2\n"
    & "to=1\ncoef=16777216\nfirst=2\nsecond=0\nto=2\ncoef=-16777216\nfirst=1\nsecond=2\n"

-- two quantities of one whole, and then the terms
abbrev pub wholes : String → String
wholes terms = "n=2\nsteps=1\nstep=4194304\ntail=349526\ntol=349534\nstart=16777216\nradius=0\nstart=16777216\nradius=0\nterms=" & terms

-- ---- sheets as numbers

-- a reading with a radius
abbrev pub reading : ℕ → ℕ → Quantity
reading start radius = record { start = Some (pos start); radius = radius }

-- no reading
abbrev pub missing : ℕ → Quantity
missing radius = record { start = None; radius = radius }

-- a term
abbrev pub term : ℕ → ℤ → ℕ → ℕ → Term
term to coef first second = record { to = to; coef = coef; first = first; second = second }

-- its steps, its step, its tolerance, its quantities, how many terms
abbrev pub given : ℕ → ℤ → ℕ → List Quantity → ℕ → Sheet
given steps step tol quantities count =
    record {
      head = record { n = length quantities; steps = steps; step = step; tail = 2; tol = tol };
      quantities = quantities_held quantities;
      terms = terms_held count [];
    }

-- one quantity with a tail, a start and terms, over one step; what stands past it is no reading
abbrev pub lone : ℕ → ℤ → List Term → Sheet
lone tail start list =
    record {
      head = record { n = 1; steps = 1; step = pos 1; tail = tail; tol = 1 };
      quantities = quantities_held (record { start = Some start; radius = 0 } ∷ missing 536870913 ∷ []);
      terms = terms_held (length list) list;
    }

-- x' = x × x
abbrev pub A_terms : List Term
A_terms = term 1 (pos 16777216) 1 1 ∷ []

-- sounding A with this step, this tolerance and these terms
abbrev pub A_given : ℤ → ℕ → List Term → Sheet
A_given step tol list =
    record {
      head = record { n = 1; steps = 1; step = step; tail = 349526; tol = tol };
      quantities = quantities_held (reading 16777216 0 ∷ []);
      terms = terms_held (length list) list;
    }
