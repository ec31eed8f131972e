-- Document 01, 'The sheet' and 'Questions in order': the limits of each field, and a sheet given as numbers.
use Rattle.std.specs.Prelude.{ℕ, zero, suc, ◌-◌, Bool, true, false, ◌&&◌, List, [], ◌++◌, ◌≡◌, ℤ, pos, neg_ℤ, nat_abs, length, get_or, replicate, Option, Some, None, Result, Ok, Err}
use Rattle.std.specs.Int.Signed.{le_z}
use Rattle.ranges.specs.Range.{tabulate}
pub use Rattle.model.specs.declared.Limits.{Limits}
use Rattle.model.specs.declared.Head.{Head}
use Rattle.model.specs.declared.Ball.{Ball}
use Rattle.model.specs.declared.Quantity.{Quantity}
use Rattle.model.specs.declared.Term.{Term}
use Rattle.model.specs.declared.Terms.{Terms}
use Rattle.model.specs.declared.Sheet.{Sheet}
use Rattle.model.specs.declared.Refusal.{Refusal}
use Rattle.model.specs.declared.Refusal.TheVariants.{Oversized, Misspelt, OutOfRange, NoReading, TooFewPlaces, TooLarge, StepTooLong, Intolerable, QueryOutOfRange, RowOutOfRange}
use Rattle.model.specs.declared.Refused.{Refused}

-- ---- bounds

-- s: so many units make one whole
unfoldable pub scale : ℕ
scale = 16777216

-- 536,870,912 units: 32 wholes
unfoldable pub most : ℕ
most = 536870912

-- the most bytes of a sheet
abbrev pub most_bytes : ℕ
most_bytes = 4096

-- the most digits of one of its numbers
abbrev pub most_digits : ℕ
most_digits = 9

-- its most quantities
abbrev pub most_quantities : ℕ
most_quantities = 8

-- its most steps
abbrev pub most_steps : ℕ
most_steps = 240

-- the most steps of a stored sheet, as the conversion reads it
abbrev pub stored_steps : ℕ
stored_steps = 400

-- its most terms
abbrev pub most_terms : ℕ
most_terms = 32

-- the largest coefficient, without its sign: 16 wholes
abbrev pub most_coef : ℕ
most_coef = 268435456

-- ---- refusals

-- a refusal's number in documents 01 and 02
unfoldable pub number : Refusal → ℕ
number Oversized = 1
number Misspelt = 2
number OutOfRange = 3
number NoReading = 4
number TooFewPlaces = 5
number TooLarge = 6
number StepTooLong = 7
number Intolerable = 8
number QueryOutOfRange = 9
number RowOutOfRange = 10

-- what comes of a sheet or a passage: nothing is refused, or this is, at this step, or at 0 before step 1
abbrev pub Outcome : Type 0
Outcome = Result (Unit {0}) Refused

-- nothing is refused
abbrev pub not_refused : Outcome
not_refused = Ok tt

-- a refusal at a step
abbrev pub refused_at : Refusal → ℕ → Outcome
refused_at r step = Err (record { refusal = r; step = step })

-- what is printed as `result`
unfoldable pub result : Outcome → ℕ
result (Ok done) = 0
result (Err refused) = number refused.refusal

-- what is printed as `at`
unfoldable pub refused_step : Outcome → ℕ
refused_step (Ok done) = 0
refused_step (Err refused) = refused.step

-- an outcome gives this number and this step
pub record Gives (outcome : Outcome) (number step : ℕ) : Type 0 where
  pub result_is : result outcome ≡ number
  pub step_is : refused_step outcome ≡ step

-- What questions in order come to: none is answered no, or the first that is refuses.
pub data Verdict : Type 0 where
  passes : Verdict
  refuses : Refusal → Verdict

-- its number in document 01: 0 where all pass
unfoldable pub verdict_number : Verdict → ℕ
verdict_number passes = 0
verdict_number (refuses r) = number r

-- as an outcome, before step 1
unfoldable pub verdict_outcome : Verdict → Outcome
verdict_outcome passes = not_refused
verdict_outcome (refuses r) = refused_at r 0

-- a question, and what it refuses with where the answer is no
unfoldable pub ask : Bool → Refusal → Verdict
ask true r = passes
ask false r = refuses r

-- one question after the other: the later is asked where the earlier passes
infixr 40 ◌then◌
unfoldable pub ◌then◌ : Verdict → Verdict → Verdict
passes then later = later
refuses r then later = refuses r

-- f 0, .., f (n - 1), one after the other
unfoldable pub in_order : ℕ → (ℕ → Verdict) → Verdict
in_order zero f = passes
in_order (suc n) f = in_order n f then f n

-- ---- the range of each field

-- low .. high
infix 50 from◌to◌
unfoldable pub from◌to◌ : ℕ → ℕ → Limits
from low to high = record { low = pos low; high = pos high }

-- -high .. high
infix 50 ±◌
unfoldable pub ±◌ : ℕ → Limits
± high = record { low = neg_ℤ (pos high); high = pos high }

-- whether a number lies in its limits
unfoldable pub within : Limits → ℤ → Bool
within limits z = le_z limits.low z && le_z z limits.high

-- n: 1..8
unfoldable pub n_limits : Limits
n_limits = from 1 to most_quantities

-- steps: 1 up to the most that are taken, 240 in a passage
unfoldable pub steps_limits : ℕ → Limits
steps_limits high = from 1 to high

-- the step's length, |H|: 1..16777216
unfoldable pub step_limits : Limits
step_limits = from 1 to scale

-- step: -16777216..-1 and 1..16777216
unfoldable pub step_within : ℤ → Bool
step_within H = within step_limits (pos (nat_abs H))

-- tail: 2..16777216
unfoldable pub tail_limits : Limits
tail_limits = from 2 to scale

-- tol: 1..536870912
unfoldable pub tol_limits : Limits
tol_limits = from 1 to most

-- start: -536870912..536870912
unfoldable pub start_limits : Limits
start_limits = ± most

-- radius: 0..536870912
unfoldable pub radius_limits : Limits
radius_limits = from 0 to most

-- terms: 0..32
unfoldable pub terms_limits : Limits
terms_limits = from 0 to most_terms

-- to: 1..n
unfoldable pub to_limits : ℕ → Limits
to_limits n = from 1 to n

-- coef: -268435456..268435456
unfoldable pub coef_limits : Limits
coef_limits = ± most_coef

-- first: 0..n
unfoldable pub first_limits : ℕ → Limits
first_limits n = from 0 to n

-- second: 0..n, but where `first` is 0, any `second` but 0 is out of range
unfoldable pub second_limits : ℕ → ℕ → Limits
second_limits n zero = from 0 to 0
second_limits n (suc first) = from 0 to n

-- ---- a sheet given as numbers: refusals 3 and 4 in the fields' order

-- refusal 3 where a number lies outside its limits
unfoldable pub in_range : Limits → ℤ → Verdict
in_range limits z = ask (within limits z) OutOfRange

-- the step: refusal 3 where it is 0 or longer than one whole, either way
unfoldable pub step_verdict : ℤ → Verdict
step_verdict H = ask (step_within H) OutOfRange

-- the numbers above the quantities, with at most so many steps
unfoldable pub head_verdict : ℕ → Head → Verdict
head_verdict high head =
    in_range n_limits (pos head.n) then
    in_range (steps_limits high) (pos head.steps) then
    step_verdict head.step then
    in_range tail_limits (pos head.tail) then
    in_range tol_limits (pos head.tol)

-- a start: refusal 4 where there is no reading
unfoldable pub start_verdict : Option ℤ → Verdict
start_verdict (Some z) = in_range start_limits z
start_verdict None = refuses NoReading

-- a start, and then its radius
unfoldable pub quantity_verdict : Quantity → Verdict
quantity_verdict quantity = start_verdict quantity.start then in_range radius_limits (pos quantity.radius)

-- a term of n quantities, field by field
unfoldable pub term_verdict : ℕ → Term → Verdict
term_verdict n term =
    in_range (to_limits n) (pos term.to) then
    in_range coef_limits term.coef then
    in_range (first_limits n) (pos term.first) then
    in_range (second_limits n term.first) (pos term.second)

-- what a list of quantities reads as past its end; the counts of a sheet that is in range do not lead there
unfoldable pub no_quantity : Quantity
no_quantity = record { start = Some (pos 0); radius = 0 }

-- the same of terms
unfoldable pub no_term : Term
no_term = record { to = 0; coef = pos 0; first = 0; second = 0 }

-- n quantities
unfoldable pub quantities_verdict : ℕ → List Quantity → Verdict
quantities_verdict n quantities = in_order n (λ i. quantity_verdict (get_or quantities i no_quantity))

-- the terms of n quantities: first how many there are
unfoldable pub terms_verdict : ℕ → Terms → Verdict
terms_verdict n terms =
    in_range terms_limits (pos terms.count) then
    in_order terms.count (λ j. term_verdict n (get_or terms.list j no_term))

-- a sheet, with at most so many steps: the numbers above the quantities, these, and the terms
unfoldable pub sheet_verdict_to : ℕ → Sheet → Verdict
sheet_verdict_to high sheet =
    head_verdict high sheet.head then
    quantities_verdict sheet.head.n sheet.quantities then
    terms_verdict sheet.head.n sheet.terms

-- a sheet of a passage
abbrev pub sheet_verdict : Sheet → Verdict
sheet_verdict sheet = sheet_verdict_to most_steps sheet

-- ---- what its numbers mean: terms, and the values and radii of the start

-- the terms that are counted
unfoldable pub listed : Terms → List Term
listed terms = tabulate terms.count (λ j. get_or terms.list j no_term)

-- a sheet's terms
unfoldable pub terms_of : Sheet → List Term
terms_of sheet = listed sheet.terms

-- a start is a number here: refusal 4 comes before any step, so that the second case does not occur (`start_is_read` of
-- crates/laws/proofs/Text/Readings.antt)
unfoldable pub start_value : Option ℤ → ℤ
start_value (Some z) = z
start_value None = pos 0

-- the value and the radius that a quantity starts from
unfoldable pub start_ball : Quantity → Ball
start_ball quantity = record { value = start_value quantity.start; radius = quantity.radius }

-- those of every quantity
unfoldable pub starts_of : Sheet → List Ball
starts_of sheet = tabulate sheet.head.n (λ i. start_ball (get_or sheet.quantities i no_quantity))

-- ---- the sheet of zeros, and 0 past the counts

-- a list made up to a length with a last element
unfoldable pub padded : {A : Type 0} → ℕ → A → List A → List A
padded size last xs = xs ++ replicate (size - length xs) last

-- quantities in their array
unfoldable pub quantities_held : List Quantity → List Quantity
quantities_held = padded most_quantities no_quantity

-- so many terms in their record
unfoldable pub terms_held : ℕ → List Term → Terms
terms_held count terms = record { count = count; list = padded most_terms no_term terms }

-- zeros above the quantities
unfoldable pub no_head : Head
no_head = record { n = 0; steps = 0; step = pos 0; tail = 0; tol = 0 }

-- the sheet of zeros, which a refused text is read as
unfoldable pub no_sheet : Sheet
no_sheet = record { head = no_head; quantities = quantities_held []; terms = terms_held 0 [] }
