-- `clear_search::questions::row_within` meets its contract: each answer is that of its part, and the first no decides.
use Prim.Native.Nat.{ℕ}
use mathlib.Core.Bool.{Bool, ◌&&◌}
use mathlib.Core.List.{List}
use mathlib.Core.Path.{◌≡◌, refl}
use lib.IntN.{ℤ}
use Rattle.model.specs.Sheet.{from◌to◌, ±◌}
use Rattle.model.specs.Rows.{values_part, radii_part, lows_part, highs_part}
use Rattle.rows.specs.View.{places_of}
use Rattle.clear_rule.specs.Clearance.{row_value_limits, row_radius_limits, part_within, row_within}
use Rattle.clear_search.proofs.Asked.{part_asked, next_decides, no_decides}
use Rattle.clear_search.proofs.questions.row_within.Goals.{then-all_within, else-all_within, then-all_within-2, else-all_within-2}
use Rattle.clear_search.proofs.questions.row_within.Goals as goal

-- the questions
abbrev values_within : ℕ → List ℤ → Bool
values_within n places = part_within row_value_limits n places 0 values_part

abbrev radii_within : ℕ → List ℤ → Bool
radii_within n places = part_within row_radius_limits n places 0 radii_part

abbrev lows_within : ℕ → List ℤ → Bool
lows_within n places = part_within row_value_limits n places 0 lows_part

pub returns-then-all_within-3 : goal.returns-then-all_within-3
unfolding row_value_limits row_radius_limits ±◌ from◌to◌ row_within
returns-then-all_within-3 c =
    let n : ℕ = c.args.row.n in
    let places : List ℤ = places_of c.args.row in
    let values : c.all_within.result ≡ values_within n places = part_asked row_value_limits n 0 values_part places c.part.ensures.numbers c.all_within.ensures in
    let radii : c.if-all_within.value ≡ (values_within n places && radii_within n places) = elim c.if-all_within.branch [ then-all_within w ↦ next_decides values w.if-all_within.true (part_asked row_radius_limits n 0 radii_part places w.part-then-all_within.ensures.numbers w.all_within-then-all_within.ensures) w.value-is | else-all_within w ↦ no_decides _ values w.if-all_within.false w.value-is ] in
    let lows : c.if-all_within-2.value ≡ (values_within n places && radii_within n places && lows_within n places) = elim c.if-all_within-2.branch [ then-all_within-2 w ↦ next_decides radii w.if-all_within-2.true (part_asked row_value_limits n 0 lows_part places w.part-then-all_within-2.ensures.numbers w.all_within-then-all_within-2.ensures) w.value-is | else-all_within-2 w ↦ no_decides _ radii w.if-all_within-2.false w.value-is ] in
    next_decides lows c.if-all_within-3.true (part_asked row_value_limits n 0 highs_part places c.part-then-all_within-3.ensures.numbers c.all_within-then-all_within-3.ensures) refl

pub returns-else-all_within-3 : goal.returns-else-all_within-3
unfolding row_value_limits row_radius_limits ±◌ from◌to◌ row_within
returns-else-all_within-3 c =
    let n : ℕ = c.args.row.n in
    let places : List ℤ = places_of c.args.row in
    let values : c.all_within.result ≡ values_within n places = part_asked row_value_limits n 0 values_part places c.part.ensures.numbers c.all_within.ensures in
    let radii : c.if-all_within.value ≡ (values_within n places && radii_within n places) = elim c.if-all_within.branch [ then-all_within w ↦ next_decides values w.if-all_within.true (part_asked row_radius_limits n 0 radii_part places w.part-then-all_within.ensures.numbers w.all_within-then-all_within.ensures) w.value-is | else-all_within w ↦ no_decides _ values w.if-all_within.false w.value-is ] in
    let lows : c.if-all_within-2.value ≡ (values_within n places && radii_within n places && lows_within n places) = elim c.if-all_within-2.branch [ then-all_within-2 w ↦ next_decides radii w.if-all_within-2.true (part_asked row_value_limits n 0 lows_part places w.part-then-all_within-2.ensures.numbers w.all_within-then-all_within-2.ensures) w.value-is | else-all_within-2 w ↦ no_decides _ radii w.if-all_within-2.false w.value-is ] in
    no_decides _ lows c.if-all_within-3.false refl
