-- Lows and highs that do not hold the water between the rows: those of a step the other way; those that hold the exact sums of the printed degree alone, or
-- leave out an order or the radii of the orders; a path's start, half and end alone; and those of a later row that hold only what the start leads to.
use mathlib.Core.List.{List, [], ◌∷◌}
use mathlib.Core.Path.{◌≡◌, refl}
use native.Mathlib.Omega.{arith}
use lib.IntN.{ℤ, pos, neg_ℤ}
use Rattle.model.specs.Step.{Row}
use Rattle.model.specs.Passage.{passage}
use Rattle.model.specs.Cases.Sheets.{term}
use Rattle.model.specs.declared.Ball.{Ball}
use Rattle.model.specs.declared.Term.{Term}
use Rattle.model.proofs.Definitions.{EveryDefinition}
use Rattle.enclosure.specs.Exact.{State}
use Rattle.enclosure.specs.Trust.{start_of, Spanned, SpannedOf}
use Rattle.enclosure.proofs.Distrust.{EveryExact, inside, lies, case_A, whole}

-- case A's row with this low and this high
unfoldable pub row_between : ℤ → ℤ → List Row
row_between low high =
    record { degree = 2; balls = record { value = pos 22020096; radius = 349534 } ∷ []; spans = record { low = low; high = high } ∷ [] } ∷ []

-- with these it is the one that A's passage writes
pub rows_of_A : (passage (case_A (pos 4194304)) 5).rows ≡ row_between (pos 11184802) (pos 22369630)
unfolding EveryDefinition row_between
rows_of_A = refl

-- from the start up, where A goes down
pub forward_span : SpannedOf (case_A (neg_ℤ (pos 4194304))) (row_between (pos 16777216) (pos 22369630)) → ⊥
unfolding EveryExact inside SpannedOf Spanned start_of row_between whole
forward_span h = ((h 0 (omega arith) whole (lies _ _ (omega arith) refl refl) 1 1 (omega arith) (omega arith) 2 (omega arith)).above 0 (omega arith)).le

-- from the start up to the exact sum of the printed degree: the reach without the tail
pub degree_alone : SpannedOf (case_A (pos 4194304)) (row_between (pos 16777216) (pos 22020096)) → ⊥
unfolding EveryExact inside SpannedOf Spanned start_of row_between whole
degree_alone h = ((h 0 (omega arith) whole (lies _ _ (omega arith) refl refl) 1 1 (omega arith) (omega arith) 3 (omega arith)).below 0 (omega arith)).le

-- the reach without order 1
pub without_order_1 : SpannedOf (case_A (pos 4194304)) (row_between (pos 15379110) (pos 18175322)) → ⊥
unfolding EveryExact inside SpannedOf Spanned start_of row_between whole
without_order_1 h = ((h 0 (omega arith) whole (lies _ _ (omega arith) refl refl) 1 1 (omega arith) (omega arith) 2 (omega arith)).below 0 (omega arith)).le

-- 0 within one whole
abbrev about_zero : Ball
about_zero = record { value = pos 0; radius = 16777216 }

-- x' = x from there, over a quarter: the reach with |c_1| and without e_1
pub radii_left_out : Spanned (term 1 (pos 16777216) 1 0 ∷ []) (pos 4194304) (about_zero ∷ []) (record { degree = 1; balls = about_zero ∷ []; spans = record { low = neg_ℤ (pos 18175318); high = pos 18175318 } ∷ [] } ∷ []) → ⊥
unfolding EveryExact inside Spanned start_of whole
radii_left_out h = ((h 0 (omega arith) whole (lies _ _ (omega arith) refl refl) 1 1 (omega arith) (omega arith) 1 (omega arith)).below 0 (omega arith)).le

-- ---- a path that turns within a step

-- x' = y, y' = -1
abbrev turning : List Term
turning = term 1 (pos 16777216) 2 0 ∷ term 2 (neg_ℤ (pos 16777216)) 0 0 ∷ []

-- x from 0 and y from 3/4 of a whole: over a step of one whole x is 3/4 t - t²/2, highest at t = 3/4
abbrev turning_start : List Ball
turning_start = record { value = pos 0; radius = 0 } ∷ record { value = pos 12582912; radius = 0 } ∷ []

turning_state : State
turning_state = record { denominator = 4; numerators = pos 0 ∷ pos 3 ∷ [] }

-- x between its start and its end, which it has at the step's half too
abbrev turning_row : List Row
turning_row =
    record {
      degree = 2;
      balls = record { value = pos 4194304; radius = 0 } ∷ record { value = neg_ℤ (pos 4194304); radius = 0 } ∷ [];
      spans = record { low = pos 0; high = pos 4194304 } ∷ record { low = neg_ℤ (pos 4194304); high = pos 12582912 } ∷ [];
    } ∷ []

pub ends_alone : Spanned turning (pos 16777216) turning_start turning_row → ⊥
unfolding EveryExact inside Spanned start_of turning_state
ends_alone h =
    ((h 0 (omega arith) turning_state (lies _ _ (omega arith) refl refl) 3 4 (omega arith) (omega arith) 2 (omega arith)).below 0 (omega arith)).le

-- ---- two quantities that stay: from a start of 0 without a radius each row holds all, but the second row's step starts from the radii of the first

abbrev still_start : List Ball
still_start = record { value = pos 0; radius = 0 } ∷ record { value = pos 0; radius = 0 } ∷ []

abbrev still_row : Row
still_row =
    record {
      degree = 0;
      balls = record { value = pos 0; radius = 0 } ∷ record { value = pos 0; radius = 1 } ∷ [];
      spans = record { low = pos 0; high = pos 0 } ∷ record { low = pos 0; high = pos 0 } ∷ [];
    }

-- one unit of the second quantity
unit : State
unit = record { denominator = 16777216; numerators = pos 0 ∷ pos 1 ∷ [] }

pub start_alone : Spanned [] (pos 16777216) still_start (still_row ∷ still_row ∷ []) → ⊥
unfolding EveryExact inside Spanned start_of unit
start_alone h =
    ((h 1 (omega arith) unit (lies _ _ (omega arith) refl refl) 0 1 (omega arith) (omega arith) 0 (omega arith)).below 1 (omega arith)).le
