-- What the questions before the search say: the ranges of the query and of a row; and so no sum that weighs a row reaches 2^62.
use Prim.Native.Nat.{ℕ, ◌*◌, ◌^◌, ◌≤◌, ◌<◌}
use mathlib.Core.Bool.{true, false, ◌&&◌}
use mathlib.Core.List.{List}
use mathlib.Core.Path.{◌≡◌, refl, ap}
use native.Mathlib.Nat.{le_trans, mul-le-mul}
use native.Mathlib.Omega.{arith}
use borrow.Author.Tests.{le-ltb}
use lib.IntN.{ℤ, pos, negsuc, nat_abs, ◌+ℤ◌, ◌*ℤ◌}
use lib.ListN.{length, get_or}
use lib.Signed.{lt_z}
use Rattle.rounding.proofs.Integers.{abs_mul, abs_add}
use Rattle.ranges.specs.Range.{sum_ℤ, every}
use Rattle.model.specs.Sheet.{scale, most, most_quantities, most_steps, within}
use Rattle.model.specs.Step.{no_span, Row}
use Rattle.model.specs.Rows.{values_part, radii_part, lows_part, highs_part, part_place, row_in, rows_in}
use Rattle.model.specs.declared.Limits.{Limits}
use Rattle.model.specs.declared.Span.{Span}
use Rattle.ranges.proofs.Ranges.{abs_sum_ℤ_le, sum_le, sum_constant, length_tabulate}
use Rattle.ranges.proofs.EveryLaws.{every_all, both_true, every_holds}
use Rattle.laws.proofs.Text.Verdicts.{natural_within, signed_within}
use Rattle.rows.proofs.Places.{low_read, high_read}
use Rattle.clear_rule.specs.Clearance.{weight, end_for, assured, most_weight, most_place, weight_limits, depth_limits, run_limits, row_value_limits, row_radius_limits, query_within, part_within, row_within}
use Rattle.clear_rule.specs.declared.Query.{Query}

-- ---- the query and a row

pub record QueryRanges (n : ℕ) (query : Query) : Type 0 where
  pub weights : (i : ℕ) → i < n → nat_abs (weight query i) ≤ most_weight
  pub base : nat_abs query.base ≤ most
  pub need : nat_abs query.need ≤ most
  pub run_low : 1 ≤ query.run
  pub run_high : query.run ≤ most_steps

pub query_ranges : (n : ℕ) (query : Query) → query_within n query ≡ true → QueryRanges n query
unfolding query_within weight_limits depth_limits run_limits
query_ranges n query e =
    let d = both_true _ (within run_limits (pos query.run)) e in
    let c = both_true _ (within depth_limits query.need) d.0 in
    let b = both_true (every n (λ i. within weight_limits (weight query i))) (within depth_limits query.base) c.0 in
    let run = natural_within {low = 1} {high = most_steps} (pos query.run) d.1 in
    record {
      weights = λ i h. signed_within most_weight (weight query i) (every_holds n (λ i. within weight_limits (weight query i)) b.0 i h);
      base = signed_within most query.base b.1;
      need = signed_within most query.need c.1;
      run_low = run.0;
      run_high = run.1;
    }

pub part_within_lem : (limits : Limits) (n : ℕ) (buffer : List ℤ) (j p : ℕ) → part_within limits n buffer j p ≡ true → (i : ℕ) → i < n → within limits (get_or buffer (part_place n j p i) (pos 0)) ≡ true
unfolding part_within
part_within_lem limits n buffer j p e = every_holds n (λ i. within limits (get_or buffer (part_place n j p i) (pos 0))) e

pub part_passes : (limits : Limits) (n : ℕ) (buffer : List ℤ) (j p : ℕ) → ((i : ℕ) → i < n → within limits (get_or buffer (part_place n j p i) (pos 0)) ≡ true) → part_within limits n buffer j p ≡ true
unfolding part_within
part_passes limits n buffer j p each = every_all _ n each

pub record RowRanges (n : ℕ) (row : Row) : Type 0 where
  pub lows : (i : ℕ) → i < n → nat_abs (get_or row.spans i no_span).low ≤ most_place
  pub highs : (i : ℕ) → i < n → nat_abs (get_or row.spans i no_span).high ≤ most_place

pub row_ranges : (n : ℕ) (buffer : List ℤ) (j : ℕ) → row_within n buffer j ≡ true → RowRanges n (row_in n buffer j)
unfolding row_within row_value_limits
row_ranges n buffer j e =
    let b = both_true (part_within row_value_limits n buffer j values_part && part_within row_radius_limits n buffer j radii_part && part_within row_value_limits n buffer j lows_part) (part_within row_value_limits n buffer j highs_part) e in
    let a = both_true (part_within row_value_limits n buffer j values_part && part_within row_radius_limits n buffer j radii_part) (part_within row_value_limits n buffer j lows_part) b.0 in
    record {
      lows = λ i h. rw (low_read n j buffer i h) (signed_within most_place _ (part_within_lem row_value_limits n buffer j lows_part a.1 i h));
      highs = λ i h. rw (high_read n j buffer i h) (signed_within most_place _ (part_within_lem row_value_limits n buffer j highs_part b.1 i h));
    }

-- ---- the sums

-- the end that the weight of quantity i takes
abbrev pub end_of : Query → Row → ℕ → ℤ
end_of query row i = end_for (weight query i) (get_or row.spans i no_span)

-- base × s + the sum of weight × end over the first k quantities
abbrev pub assured_to : Query → Row → ℕ → ℤ
assured_to query row k = query.base *ℤ pos scale +ℤ sum_ℤ k (λ i. weight query i *ℤ end_of query row i)

-- by the test of its sign a negative weight takes the high ..
pub high_taken : (w : ℤ) (span : Span) → lt_z w (pos 0) ≡ true → end_for w span ≡ span.high
unfolding end_for
high_taken w span negative = rw negative

-- .. and any other the low
pub low_taken : (w : ℤ) (span : Span) → lt_z w (pos 0) ≡ false → end_for w span ≡ span.low
unfolding end_for
low_taken w span natural = rw natural

-- the same by its sign
pub takes_low : (w : ℕ) (span : Span) → end_for (pos w) span ≡ span.low
takes_low w span = low_taken (pos w) span (le-ltb w 0 (omega arith))

pub takes_high : (w : ℕ) (span : Span) → end_for (negsuc w) span ≡ span.high
takes_high w span = high_taken (negsuc w) span refl

end_either : (w : ℤ) (span : Span) {most : ℕ} → nat_abs span.low ≤ most → nat_abs span.high ≤ most → nat_abs (end_for w span) ≤ most
end_either (pos w) span low high = rw (takes_low w span) low
end_either (negsuc w) span low high = rw (takes_high w span) high

module _ {n : ℕ} (few : n ≤ most_quantities) {query : Query} (asked : QueryRanges n query) {row : Row} (ranges : RowRanges n row) where
  -- a product is at most 2^57 ..
  pub product_fits : (i : ℕ) → i < n → nat_abs (weight query i *ℤ end_of query row i) ≤ most_weight * most_place
  product_fits i h =
      rw (abs_mul (weight query i) (end_of query row i)) (mul-le-mul (asked.weights i h) (end_either (weight query i) (get_or row.spans i no_span) (ranges.lows i h) (ranges.highs i h)))

  -- .. a sum of them at most 2^60 ..
  sum_fits : (k : ℕ) → k ≤ n → nat_abs (sum_ℤ k (λ i. weight query i *ℤ end_of query row i)) ≤ 2 ^ 60
  sum_fits k h =
      le_trans (abs_sum_ℤ_le k _) (le_trans (sum_le k _ (λ i. most_weight * most_place) (λ i l. product_fits i (omega arith))) (rw (sum_constant k (most_weight * most_place)) (omega arith)))

  -- .. and base × s at most 2^53, so that no sum on the way to what is assured reaches 2^62
  pub base_fits : nat_abs (query.base *ℤ pos scale) < 2 ^ 62
  unfolding scale most
  base_fits = rw (abs_mul query.base (pos scale)) (omega (arith, asked.base))

  pub assured_fits : (k : ℕ) → k ≤ n → nat_abs (assured_to query row k) < 2 ^ 62
  unfolding scale most
  assured_fits k h =
      omega (arith, abs_add (query.base *ℤ pos scale) (sum_ℤ k (λ i. weight query i *ℤ end_of query row i)), abs_mul query.base (pos scale), asked.base, sum_fits k h)

  pub need_fits : nat_abs (query.need *ℤ pos scale) < 2 ^ 62
  unfolding scale most
  need_fits = rw (abs_mul query.need (pos scale)) (omega (arith, asked.need))

pub length_spans_in : (n : ℕ) (buffer : List ℤ) (j : ℕ) → length (row_in n buffer j).spans ≡ n
unfolding row_in
length_spans_in n buffer j = length_tabulate n _

pub length_rows : (n count : ℕ) (buffer : List ℤ) → length (rows_in n count buffer) ≡ count
unfolding rows_in
length_rows n count buffer = length_tabulate count (row_in n buffer)

-- what a row of n quantities assures, by the sum over them
pub assured_is : (query : Query) (row : Row) {n : ℕ} → length row.spans ≡ n → assured query row ≡ assured_to query row n
unfolding assured
assured_is query row e = ap (assured_to query row) e
