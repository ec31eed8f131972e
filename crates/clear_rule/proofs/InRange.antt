-- What passes the questions before the search is just what is in range: n, the count, the places, the query, and every value, radius, low and high of every
-- counted row.
use Prim.Native.Nat.{ℕ, ◌*◌, ◌≤◌, ◌<◌}
use mathlib.Core.Bool.{Bool, true, false≢true}
use mathlib.Core.List.{List}
use mathlib.Core.Path.{◌≡◌, refl}
use native.Mathlib.Omega.{arith}
use borrow.Author.Tests.{leb-true, le-leb}
use lib.Dec.{leb}
use lib.IntN.{ℤ, pos, negsuc, nat_abs}
use lib.ListN.{length, get_or}
use Rattle.ranges.specs.Range.{every}
use Rattle.model.specs.Sheet.{most, most_quantities, most_steps, passes, ask, ◌then◌, from◌to◌, within, n_limits, in_range}
use Rattle.model.specs.Rows.{values_part, radii_part, lows_part, highs_part, width, part_place}
use Rattle.model.specs.declared.Limits.{Limits}
use Rattle.model.specs.declared.Refusal.TheVariants.{TooFewPlaces, QueryOutOfRange, RowOutOfRange}
use Rattle.ranges.proofs.EveryLaws.{every_all, both_true, every_holds}
use Rattle.laws.proofs.Text.Verdicts.{both_pass, answered_yes, natural_within, natural_passes, signed_within, signed_passes, in_range_lem}
use Rattle.clear_rule.specs.Clearance.{weight, count_limits, most_weight, most_place, weight_limits, depth_limits, run_limits, row_value_limits, row_radius_limits, query_within, part_within, row_within, clear_verdict}
use Rattle.clear_rule.specs.declared.Query.{Query}
use Rattle.clear_rule.proofs.SumsFit.{QueryRanges, query_ranges, part_within_lem, part_passes}

-- the number of quantity i in part p of row j
abbrev pub number_at : ℕ → List ℤ → ℕ → ℕ → ℕ → ℤ
number_at n buffer p j i = get_or buffer (part_place n j p i) (pos 0)

pub record InRange (n count : ℕ) (buffer : List ℤ) (query : Query) : Type 0 where
  pub some : 1 ≤ n
  pub few : n ≤ most_quantities
  pub counted : count ≤ most_steps
  pub places : count * width n ≤ length buffer
  pub asked : QueryRanges n query
  pub values : (j i : ℕ) → j < count → i < n → nat_abs (number_at n buffer values_part j i) ≤ most_place
  pub radii : (j i : ℕ) → j < count → i < n → (number_at n buffer radii_part j i ≡ pos (nat_abs (number_at n buffer radii_part j i))) × (nat_abs (number_at n buffer radii_part j i) ≤ most_place)
  pub lows : (j i : ℕ) → j < count → i < n → nat_abs (number_at n buffer lows_part j i) ≤ most_place
  pub highs : (j i : ℕ) → j < count → i < n → nat_abs (number_at n buffer highs_part j i) ≤ most_place

-- a number in a range of natural numbers has no minus
no_minus : (low high : ℕ) (z : ℤ) → within (from low to high) z ≡ true → z ≡ pos (nat_abs z)
unfolding within from◌to◌
no_minus low high (pos n) e = refl
no_minus low high (negsuc n) e = absurd (false≢true e)

module _ (n count : ℕ) (buffer : List ℤ) (query : Query) where
  -- ---- what passes is in range

  pub passed_in_range : clear_verdict n count buffer query ≡ passes → InRange n count buffer query
  unfolding clear_verdict row_within n_limits count_limits row_value_limits row_radius_limits
  passed_in_range e =
      let a = both_pass (in_range n_limits (pos n)) _ e in
      let b = both_pass (in_range count_limits (pos count)) _ a.1 in
      let c = both_pass (ask (leb (count * width n) (length buffer)) TooFewPlaces) _ b.1 in
      let d = both_pass (ask (query_within n query) QueryOutOfRange) _ c.1 in
      let quantities = in_range_lem {low = 1} {high = most_quantities} n a.0 in
      record {
        some = quantities.0;
        few = quantities.1;
        counted = (in_range_lem {low = 0} {high = most_steps} count b.0).1;
        places = leb-true (count * width n) (length buffer) (answered_yes (leb (count * width n) (length buffer)) TooFewPlaces c.0);
        asked = query_ranges n query (answered_yes (query_within n query) QueryOutOfRange d.0);
        values = λ j i h l. signed_within most_place _ (part_within_lem row_value_limits n buffer j values_part (parts d.1 j h).0.0.0 i l);
        radii = λ j i h l. let within-radii = part_within_lem row_radius_limits n buffer j radii_part (parts d.1 j h).0.0.1 i l in (no_minus 0 most_place _ within-radii, (natural_within {low = 0} {high = most_place} _ within-radii).1);
        lows = λ j i h l. signed_within most_place _ (part_within_lem row_value_limits n buffer j lows_part (parts d.1 j h).0.1 i l);
        highs = λ j i h l. signed_within most_place _ (part_within_lem row_value_limits n buffer j highs_part (parts d.1 j h).1 i l);
      }
    where
      part : Limits → ℕ → ℕ → Bool
      part limits p j = part_within limits n buffer j p

      -- the four parts of each counted row
      parts : ask (every count (row_within n buffer)) RowOutOfRange ≡ passes → (j : ℕ) → j < count → (((part row_value_limits values_part j ≡ true) × (part row_radius_limits radii_part j ≡ true)) × (part row_value_limits lows_part j ≡ true)) × (part row_value_limits highs_part j ≡ true)
      parts f j h =
          let row = every_holds count (row_within n buffer) (answered_yes (every count (row_within n buffer)) RowOutOfRange f) j h in
          let highs = both_true _ (part row_value_limits highs_part j) row in
          let lows = both_true _ (part row_value_limits lows_part j) highs.0 in
          ((both_true (part row_value_limits values_part j) (part row_radius_limits radii_part j) lows.0, lows.1), highs.1)

  -- ---- and what is in range passes

  module _ (given : InRange n count buffer query) where
    query_passes : query_within n query ≡ true
    unfolding query_within weight_limits depth_limits run_limits
    query_passes =
        let ranges = given.asked in
        rw (every_all _ n (λ i h. signed_passes most_weight (weight query i) (ranges.weights i h)), signed_passes most query.base ranges.base, signed_passes most query.need ranges.need, natural_passes {low = 1} {high = most_steps} query.run ranges.run_low ranges.run_high)

    row_passes : (j : ℕ) → j < count → row_within n buffer j ≡ true
    unfolding row_within row_value_limits row_radius_limits
    row_passes j h =
        rw (part_passes row_value_limits n buffer j values_part (λ i l. signed_passes most_place _ (given.values j i h l)), part_passes row_radius_limits n buffer j radii_part radii, part_passes row_value_limits n buffer j lows_part (λ i l. signed_passes most_place _ (given.lows j i h l)), part_passes row_value_limits n buffer j highs_part (λ i l. signed_passes most_place _ (given.highs j i h l)))
      where
        radii : (i : ℕ) → i < n → within row_radius_limits (number_at n buffer radii_part j i) ≡ true
        radii i l =
            let radius = given.radii j i h l in
            rw radius.0 (natural_passes {low = 0} {high = most_place} (nat_abs (number_at n buffer radii_part j i)) (omega arith) radius.1)

    pub in_range_passes : clear_verdict n count buffer query ≡ passes
    unfolding clear_verdict in_range ask ◌then◌ n_limits count_limits
    in_range_passes =
        rw (natural_passes {low = 1} {high = most_quantities} n given.some given.few, natural_passes {low = 0} {high = most_steps} count (omega arith) given.counted, le-leb (count * width n) (length buffer) given.places, query_passes, every_all _ count row_passes)
