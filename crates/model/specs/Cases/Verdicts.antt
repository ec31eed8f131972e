-- The range of each field, and question 3: a sheet given as numbers.
use Rattle.std.specs.Prelude.{List, [], ◌∷◌, pos, neg_ℤ, replicate}
use Rattle.model.specs.Cases.Forms.{Case, judged, verdict_to, numbered, spans}
use Rattle.model.specs.Cases.Sheets.{reading, missing, term, given, lone}
use Rattle.model.specs.Sheet.{most_steps, stored_steps, within, n_limits, steps_limits, step_within, tail_limits, tol_limits, start_limits, radius_limits, terms_limits, to_limits, coef_limits, first_limits, second_limits}
use Rattle.model.specs.declared.Refusal.TheVariants.{QueryOutOfRange, RowOutOfRange}

-- ranges with their ends, and sheets as numbers with their refusal
unfoldable pub verdicts : List Case
verdicts =
    -- the range of each field
    spans (within n_limits) (pos 1) (pos 8)
    ∷ spans (within (steps_limits most_steps)) (pos 1) (pos 240)
    ∷ spans (within (steps_limits stored_steps)) (pos 1) (pos 400)
    ∷ spans step_within (neg_ℤ (pos 16777216)) (neg_ℤ (pos 1))
    ∷ spans step_within (pos 1) (pos 16777216)
    ∷ spans (within tail_limits) (pos 2) (pos 16777216)
    ∷ spans (within tol_limits) (pos 1) (pos 536870912)
    ∷ spans (within start_limits) (neg_ℤ (pos 536870912)) (pos 536870912)
    ∷ spans (within radius_limits) (pos 0) (pos 536870912)
    ∷ spans (within terms_limits) (pos 0) (pos 32)
    ∷ spans (within (to_limits 5)) (pos 1) (pos 5)
    ∷ spans (within coef_limits) (neg_ℤ (pos 268435456)) (pos 268435456)
    ∷ spans (within (first_limits 5)) (pos 0) (pos 5)
    ∷ spans (within (second_limits 5 3)) (pos 0) (pos 5)
    ∷ spans (within (second_limits 5 0)) (pos 0) (pos 0)
    ∷ judged (given 240 (pos 1) 1 (reading 0 0 ∷ []) 0) 5
    ∷ judged (given 241 (pos 1) 1 (reading 0 0 ∷ []) 0) 3
    ∷ judged (given 1 (neg_ℤ (pos 16777216)) 1 (reading 0 0 ∷ []) 0) 5
    ∷ judged (given 1 (neg_ℤ (pos 16777217)) 1 (reading 0 0 ∷ []) 0) 3
    ∷ judged (given 1 (pos 0) 1 (reading 0 0 ∷ []) 0) 3
    -- question 3: 3 and 4 in the order of the fields, and 5 after them
    ∷ judged (given 1 (pos 1) 0 (missing 0 ∷ []) 0) 3
    ∷ judged (given 1 (pos 1) 1 (missing 536870913 ∷ []) 0) 4
    ∷ judged (given 1 (pos 1) 1 (reading 0 536870913 ∷ missing 0 ∷ []) 0) 3
    ∷ judged (given 1 (pos 1) 1 (missing 0 ∷ reading 536870913 0 ∷ []) 0) 4
    ∷ judged (given 1 (pos 1) 1 (reading 0 0 ∷ missing 0 ∷ []) 0) 4
    ∷ judged (given 1 (pos 1) 1 (missing 0 ∷ []) 33) 4
    ∷ judged (given 1 (pos 1) 1 (missing 0 ∷ []) 1) 4
    ∷ judged (given 1 (pos 1) 1 (reading 0 0 ∷ []) 1) 3
    ∷ judged (given 1 (pos 1) 1 (reading 0 0 ∷ []) 0) 5
    -- each field is asked by its own range
    ∷ judged (given 1 (pos 1) 1 [] 0) 3
    ∷ judged (given 1 (pos 1) 1 (replicate 9 (reading 0 0)) 0) 3
    ∷ judged (lone 1 (pos 0) (term 1 (pos 0) 0 0 ∷ [])) 3
    ∷ judged (lone 2 (neg_ℤ (pos 536870912)) (term 1 (neg_ℤ (pos 268435456)) 0 0 ∷ [])) 5
    ∷ judged (lone 16777216 (pos 536870912) (term 1 (pos 268435456) 1 1 ∷ [])) 5
    ∷ judged (lone 16777217 (pos 0) (term 1 (pos 0) 0 0 ∷ [])) 3
    ∷ judged (lone 2 (pos 536870913) (term 1 (pos 0) 0 0 ∷ [])) 3
    ∷ judged (lone 2 (pos 0) (term 2 (pos 0) 0 0 ∷ [])) 3
    ∷ judged (lone 2 (pos 0) (term 1 (pos 268435457) 0 0 ∷ [])) 3
    ∷ judged (lone 2 (pos 0) (term 1 (pos 0) 2 1 ∷ [])) 3
    ∷ judged (lone 2 (pos 0) (term 1 (pos 0) 1 2 ∷ [])) 3
    ∷ judged (lone 2 (pos 0) (term 1 (pos 0) 0 1 ∷ [])) 3
    ∷ judged (lone 2 (pos 0) (term 1 (pos 0) 0 0 ∷ term 2 (pos 0) 0 0 ∷ [])) 3
    -- a stored sheet's steps; a verdict as an outcome and as a number
    ∷ verdict_to 400 (given 400 (pos 1) 1 (reading 0 0 ∷ []) 0) 0
    ∷ verdict_to 400 (given 401 (pos 1) 1 (reading 0 0 ∷ []) 0) 3
    -- the numbers of the refusals of a question about rows
    ∷ numbered QueryOutOfRange 9
    ∷ numbered RowOutOfRange 10
    ∷ []
