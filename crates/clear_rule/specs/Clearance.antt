-- Document 02, CR 2 and CR 6 ('first water for a ship', 'clear all the way'): the first row that opens a run of so many certain rows in a row. Rows are
-- counted from 0 here and numbered from 1 in the answer.
use Rattle.std.specs.Prelude.{ℕ, suc, ◌+◌, ◌*◌, Bool, cond, ◌&&◌, List, ◌≡◌, leb, ltb, ℤ, pos, neg_ℤ, ◌+ℤ◌, ◌*ℤ◌, length, get_or, Err, None, Ok, Some, Option, Result}
use Rattle.std.specs.Int.Signed.{le_z, lt_z}
use Rattle.ranges.specs.Range.{sum_ℤ, every, least}
use Rattle.model.specs.Sheet.{scale, most, most_steps, number, Verdict, passes, refuses, ask, ◌then◌, from◌to◌, ±◌, within, n_limits, in_range}
use Rattle.model.specs.Step.{no_span, Row, no_row}
use Rattle.model.specs.Rows.{values_part, radii_part, lows_part, highs_part, width, part_place, rows_in}
use Rattle.model.specs.declared.Limits.{Limits}
use Rattle.model.specs.declared.Span.{Span}
use Rattle.model.specs.declared.Refusal.{Refusal}
use Rattle.model.specs.declared.Refusal.TheVariants.{TooFewPlaces, QueryOutOfRange, RowOutOfRange}
use Rattle.clear_rule.specs.declared.Query.{Query}

-- ---- an answer

-- the number, from 1, of the first row that opens such a run; or there is none; or why nothing was looked for
abbrev pub Found : Type 0
Found = Result (Option ℕ) Refusal

-- ---- certain rows

-- the weight of quantity i
unfoldable pub weight : Query → ℕ → ℤ
weight query i = get_or query.weights i (pos 0)

-- the end of a span that a weight takes: a positive one the low, a negative one the high; whichever 0 takes, it counts nothing
unfoldable pub end_for : ℤ → Span → ℤ
end_for w span = cond (lt_z w (pos 0)) span.high span.low

-- base × s + the sum of weight × that end
unfoldable pub assured : Query → Row → ℤ
assured query row =
    query.base *ℤ pos scale
    +ℤ sum_ℤ (length row.spans) (λ i. weight query i *ℤ end_for (weight query i) (get_or row.spans i no_span))

-- a row is certain when that is at least need × s
unfoldable pub certain : Query → Row → Bool
certain query row = le_z (query.need *ℤ pos scale) (assured query row)

-- ---- the first run of them

-- row j opens a run: so many rows in a row from it on, none of them past the last, are certain
unfoldable pub opens : Query → List Row → ℕ → Bool
opens query rows j = leb (j + query.run) (length rows) && every query.run (λ i. certain query (get_or rows (j + i) no_row))

-- the first row that does, by its number, or none
unfoldable pub first_run : Query → List Row → Found
first_run query rows =
    let j = least (length rows) (opens query rows) in
    cond (ltb j (length rows)) (Ok (Some (suc j))) (Ok None)

-- ---- what is asked first

-- a count of rows: 0..240
unfoldable pub count_limits : Limits
count_limits = from 0 to most_steps

-- the largest weight, without its sign: 4 wholes
abbrev pub most_weight : ℕ
most_weight = 67108864

-- a weight: -67108864..67108864
unfoldable pub weight_limits : Limits
weight_limits = ± most_weight

-- a base and a need: -536870912..536870912
unfoldable pub depth_limits : Limits
depth_limits = ± most

-- a run length: 1..240
unfoldable pub run_limits : Limits
run_limits = from 1 to most_steps

-- the largest number in the rows, without its sign: 2^31
abbrev pub most_place : ℕ
most_place = 2147483648

-- a value in the rows, a low and a high: -2^31..2^31
unfoldable pub row_value_limits : Limits
row_value_limits = ± most_place

-- a radius in the rows: 0..2^31
unfoldable pub row_radius_limits : Limits
row_radius_limits = from 0 to most_place

-- the weights of the n quantities, base, need and run are in their ranges
unfoldable pub query_within : ℕ → Query → Bool
query_within n query =
    every n (λ i. within weight_limits (weight query i))
    && within depth_limits query.base
    && within depth_limits query.need
    && within run_limits (pos query.run)

-- the n numbers of part p of row j are in the limits, as they stand in the buffer: there a radius may have a minus, of which `rows_in` takes the magnitude
unfoldable pub part_within : Limits → ℕ → List ℤ → ℕ → ℕ → Bool
part_within limits n rows j p = every n (λ i. within limits (get_or rows (part_place n j p i) (pos 0)))

-- the values, the radii, the lows and the highs of row j are in their ranges, whether they count or not; its degree is not looked at, nor whether a low is
-- above its high
unfoldable pub row_within : ℕ → List ℤ → ℕ → Bool
row_within n rows j =
    part_within row_value_limits n rows j values_part
    && part_within row_radius_limits n rows j radii_part
    && part_within row_value_limits n rows j lows_part
    && part_within row_value_limits n rows j highs_part

-- n and the count of rows, 3; the places that they need, 5; the query, 9; the rows, all of them, 10
unfoldable pub clear_verdict : ℕ → ℕ → List ℤ → Query → Verdict
clear_verdict n count rows query =
    in_range n_limits (pos n) then
    in_range count_limits (pos count) then
    ask (leb (count * width n) (length rows)) TooFewPlaces then
    ask (query_within n query) QueryOutOfRange then
    ask (every count (row_within n rows)) RowOutOfRange

-- ---- the answer

-- of the first `count` rows of n quantities in a buffer
unfoldable pub first_clear : ℕ → ℕ → List ℤ → Query → Found
first_clear n count rows query =
    elim (clear_verdict n count rows query) [ refuses r ↦ Err r | passes ↦ first_run query (rows_in n count rows) ]

-- its number: 0, or the refusal's
unfoldable pub found_result : Found → ℕ
found_result (Ok (Some row)) = 0
found_result (Ok None) = 0
found_result (Err r) = number r

-- the row that it names, from 1, and 0 where it names none
unfoldable pub found_row : Found → ℕ
found_row (Ok (Some row)) = row
found_row (Ok None) = 0
found_row (Err r) = 0

-- an answer has the number, and names the row, of the one that is meant
pub record Names (found meant : Found) : Type 0 where
  pub result_is : found_result found ≡ found_result meant
  pub row_is : found_row found ≡ found_row meant

-- as one number, for C: the row's, 0 for none, or a refusal's with a minus
unfoldable pub found_number : Found → ℤ
found_number (Ok (Some row)) = pos row
found_number (Ok None) = pos 0
found_number (Err r) = neg_ℤ (pos (number r))
