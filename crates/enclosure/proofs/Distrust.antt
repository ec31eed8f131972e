-- Rows that are not trusted: for each kind of wrong rule that demand 3 refuses, a row that such a rule would write, a start within the start's radii, and
-- degrees by which the exact sum lies outside the row's radius. Each by computation.
use Prim.Native.Nat.{ℕ, suc, ◌*◌, ◌<◌}
use mathlib.Core.Bool.{Bool, true, false, not, false≢true}
use mathlib.Core.List.{List, [], ◌∷◌}
use mathlib.Core.Path.{◌≡◌, refl, sym, ap, ◌∙◌}
use native.Mathlib.Omega.{arith}
use borrow.Author.Tests.{leb-true, le-leb, eqb-true}
use lib.Dec.{leb, eqb}
use lib.IntN.{ℤ, pos, neg_ℤ, nat_abs, ◌-ℤ◌, ◌*ℤ◌, pow, one}
use lib.ListN.{length, get_or, replicate}
use Rattle.ranges.specs.Range.{every}
use Rattle.model.specs.Sheet.{scale, terms_of, starts_of, quantities_held, terms_held}
use Rattle.model.specs.Step.{no_ball, Row, no_row}
use Rattle.model.specs.Cases.Sheets.{reading, term, given, A_terms, A_given}
use Rattle.model.specs.declared.Ball.{Ball}
use Rattle.model.specs.declared.Quantity.{Quantity}
use Rattle.model.specs.declared.Sheet.{Sheet}
use Rattle.model.specs.declared.Term.{Term}
use Rattle.model.proofs.Definitions.{EveryDefinition}
use Rattle.ranges.proofs.EveryLaws.{every_holds}
use Rattle.enclosure.specs.Exact.{State, binomial, order, factor_ℤ, product, next_order, orders_to, sum_denominator, sum_numerator, exact_sum}
use Rattle.enclosure.specs.Trust.{LiesWithin, state_after, NoLower, Trusted, TrustedOf}

-- ---- the facts, as tests that can be computed

-- to unfold this is to unfold every definition of the rounded rule and of the exact sum
unfoldable pub EveryExact : Type 0
unfolding EveryDefinition binomial order factor_ℤ product next_order orders_to sum_denominator sum_numerator exact_sum state_after pow one
EveryExact = EveryDefinition

-- whether quantity i of a state lies within its radius of its value
unfoldable pub inside : List Ball → State → ℕ → Bool
inside balls state i =
    leb (nat_abs (pos scale *ℤ get_or state.numerators i (pos 0) -ℤ (get_or balls i no_ball).value *ℤ pos state.denominator)) ((get_or balls i no_ball).radius * state.denominator)

pub lies : (balls : List Ball) (state : State) → 0 < state.denominator → length state.numerators ≡ length balls → every (length balls) (inside balls state) ≡ true → LiesWithin balls state
unfolding inside
lies balls state d len all =
    record { rational = d; quantities = len; near = λ i h. record { off = leb-true _ _ (every_holds (length balls) (inside balls state) all i h) } }

-- whether a degree is no lower than row j's
unfoldable pub high_enough : List ℕ → List Row → ℕ → Bool
high_enough degrees rows j = leb (get_or rows j no_row).degree (get_or degrees j 0)

no_lower : (degrees : List ℕ) (rows : List Row) → length degrees ≡ length rows → every (length rows) (high_enough degrees rows) ≡ true → NoLower degrees rows
unfolding high_enough
no_lower degrees rows len all =
    record { each = len; lower = λ j h. omega (arith, leb-true (get_or rows j no_row).degree (get_or degrees j 0) (every_holds (length rows) (high_enough degrees rows) all j h)) }

-- what is to be seen of a start and of degrees by which quantity i of row j lies outside its radius
unfoldable pub escape : Sheet → List Row → State → List ℕ → ℕ → ℕ → List Bool
escape sheet rows state degrees j i =
    -- the state lies within the start's radii
    leb 1 state.denominator
    ∷ eqb (length state.numerators) (length (starts_of sheet))
    ∷ every (length (starts_of sheet)) (inside (starts_of sheet) state)
    -- the degrees are no lower than the rows'
    ∷ eqb (length degrees) (length rows)
    ∷ every (length rows) (high_enough degrees rows)
    -- the row has the quantity, and the exact state is outside
    ∷ leb (suc j) (length rows)
    ∷ leb (suc i) (length (get_or rows j no_row).balls)
    ∷ not (inside (get_or rows j no_row).balls (state_after (terms_of sheet) sheet.head.step degrees state (suc j)) i)
    ∷ []

distrusted : (sheet : Sheet) (rows : List Row) (state : State) (degrees : List ℕ) (j i : ℕ) → escape sheet rows state degrees j i ≡ replicate 8 true → TrustedOf sheet rows → ⊥
unfolding TrustedOf Trusted inside escape
distrusted sheet rows state degrees j i all trusted =
    let seen : (k : ℕ) → get_or (escape sheet rows state degrees j i) k false ≡ get_or (replicate 8 true) k false = λ k. ap (λ (tests : List Bool). get_or tests k false) all in
    let starts = lies (starts_of sheet) state (leb-true _ _ (seen 0)) (eqb-true _ _ (seen 1)) (seen 2) in
    let lower = no_lower degrees rows (eqb-true _ _ (seen 3)) (seen 4) in
    let within = ((trusted state starts degrees lower j (leb-true _ _ (seen 5))).0.near i (leb-true _ _ (seen 6))).off in
    false≢true (ap not (sym (le-leb _ _ within)) ∙ seen 7)

-- ---- rows of one quantity, most of them of case A: x' = x × x from one whole

-- case A as numbers, with this step
abbrev pub case_A : ℤ → Sheet
case_A step = A_given step 349534 A_terms

-- a row of one quantity
abbrev row_of : ℕ → ℤ → ℕ → Row
row_of degree value radius = record { degree = degree; balls = record { value = value; radius = radius } ∷ []; spans = [] }

-- the start as an exact state: one whole
unfoldable pub whole : State
whole = record { denominator = 1; numerators = pos 1 ∷ [] }

-- the row of the step forward, where A goes back
pub forward_row : TrustedOf (case_A (neg_ℤ (pos 4194304))) (row_of 2 (pos 22020096) 349534 ∷ []) → ⊥
unfolding EveryExact inside high_enough escape whole
forward_row = distrusted _ _ whole (2 ∷ []) 0 0 refl

-- A's value alone, which is the exact sum of its degree: those of higher degrees differ
pub value_alone : TrustedOf (case_A (pos 4194304)) (row_of 2 (pos 22020096) 0 ∷ []) → ⊥
unfolding EveryExact inside high_enough escape whole
value_alone = distrusted _ _ whole (3 ∷ []) 0 0 refl

-- its radius without the tail
pub without_tail : TrustedOf (case_A (pos 4194304)) (row_of 2 (pos 22020096) 8 ∷ []) → ⊥
unfolding EveryExact inside high_enough escape whole
without_tail = distrusted _ _ whole (3 ∷ []) 0 0 refl

-- with p_3 alone for the tail, 262,144 units, the orders after it forgotten
pub tail_of_one_order : TrustedOf (case_A (pos 4194304)) (row_of 2 (pos 22020096) 262152 ∷ []) → ⊥
unfolding EveryExact inside high_enough escape whole
tail_of_one_order = distrusted _ _ whole (4 ∷ []) 0 0 refl

-- a tail rounded down: over a step of one unit it is 1 and a hair, and the rule's is 2
pub tail_rounded_down : TrustedOf (case_A (pos 1)) (row_of 0 (pos 16777216) 1 ∷ []) → ⊥
unfolding EveryExact inside high_enough escape whole
tail_rounded_down = distrusted _ _ whole (2 ∷ []) 0 0 refl

-- a ratio to the nearest: 4,095 for 4,095.25, whose tail is 4,096; the rule's is 4,096, and its tail 4,098
pub ratio_to_nearest : TrustedOf (A_given (pos 4095) 349534 (term 1 (pos 16778240) 1 1 ∷ [])) (row_of 0 (pos 16777216) 4096 ∷ []) → ⊥
unfolding EveryExact inside high_enough escape whole
ratio_to_nearest = distrusted _ _ whole (2 ∷ []) 0 0 refl

-- a ratio by H and not |H|, which is 0 where the step goes back: no tail
pub ratio_of_a_forecast_alone : TrustedOf (case_A (neg_ℤ (pos 4194304))) (row_of 0 (pos 16777216) 0 ∷ []) → ⊥
unfolding EveryExact inside high_enough escape whole
ratio_of_a_forecast_alone = distrusted _ _ whole (1 ∷ []) 0 0 refl

-- ---- rows from a start with a radius

-- one quantity from 0 within a radius, with a step, a tail and a term
abbrev about_zero : ℤ → ℕ → ℕ → Term → Sheet
about_zero step tail radius t =
    record {
      head = record { n = 1; steps = 1; step = step; tail = tail; tol = 536870912 };
      quantities = quantities_held (reading 0 radius ∷ []);
      terms = terms_held 1 (t ∷ []);
    }

-- G from the values alone: x' = x × x from 0 within two wholes, over an eighth. With G = s the tail is s ÷ 7, and two wholes move by a half of one
two_wholes : State
two_wholes = record { denominator = 1; numerators = pos 2 ∷ [] }

pub greatest_from_values_alone : TrustedOf (about_zero (pos 2097152) 16777216 33554432 (term 1 (pos 16777216) 1 1)) (row_of 0 (pos 0) 35951178 ∷ []) → ⊥
unfolding EveryExact inside high_enough escape two_wholes
greatest_from_values_alone = distrusted _ _ two_wholes (1 ∷ []) 0 0 refl

-- radii of coefficients that do not follow a step back: x' = -x from 0 within one whole, over a quarter back, grows by a quarter, and e_1 is 3
pub radii_of_a_forecast_alone : TrustedOf (about_zero (neg_ℤ (pos 4194304)) 1398102 16777216 (term 1 (neg_ℤ (pos 16777216)) 1 0)) (row_of 1 (pos 0) 18175321 ∷ []) → ⊥
unfolding EveryExact inside high_enough escape whole
radii_of_a_forecast_alone = distrusted _ _ whole (1 ∷ []) 0 0 refl

-- the next step started with radius 0: a quantity that stays, 5 units from 0
five_units : State
five_units = record { denominator = 16777216; numerators = pos 5 ∷ [] }

pub next_step_from_radius_0 : TrustedOf (given 2 (pos 1) 7 (reading 0 5 ∷ []) 0) (row_of 0 (pos 0) 5 ∷ row_of 0 (pos 0) 0 ∷ []) → ⊥
unfolding EveryExact inside high_enough escape five_units
next_step_from_radius_0 = distrusted _ _ five_units (0 ∷ 0 ∷ []) 1 0 refl

-- ---- a radius without its 1

-- one whole, and 0.49 wholes in the rate of the first quantity
abbrev start_whole : Quantity
start_whole = reading 16777216 0

abbrev part : ℕ → Term
part first = term 1 (pos 8220835) first 0

-- six quantities of one whole, over a step of one unit, and seven unlike terms
abbrev seven_terms : Sheet
seven_terms =
    record {
      head = record { n = 6; steps = 1; step = pos 1; tail = 2; tol = 7 };
      quantities = quantities_held (replicate 6 start_whole);
      terms = terms_held 7 (part 0 ∷ part 1 ∷ part 2 ∷ part 3 ∷ part 4 ∷ part 5 ∷ part 6 ∷ []);
    }

six_wholes : State
six_wholes = record { denominator = 1; numerators = replicate 6 (pos 1) }

-- one whole within 3 units
abbrev about_one : Ball
about_one = record { value = pos 16777216; radius = 3 }

-- f and g without their 1: each of the seven brings 0.49 units that are rounded to 0, and the radius is 1 and the tail
pub without_its_one : TrustedOf seven_terms (record { degree = 1; balls = replicate 6 about_one; spans = [] } ∷ []) → ⊥
unfolding EveryExact inside high_enough escape six_wholes
without_its_one = distrusted _ _ six_wholes (1 ∷ []) 0 0 refl
