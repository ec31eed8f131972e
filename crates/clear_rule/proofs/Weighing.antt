-- The sum that weighs a row, by the bits that the code holds it in: it is the definition's, and it never leaves 64 bits.
use Prim.Native.Nat.{ℕ, suc, ◌^◌, ◌<◌}
use mathlib.Core.List.{List}
use mathlib.Core.Path.{◌≡◌, sym, ap, ap₂, ◌∙◌}
use native.Mathlib.Omega.{arith}
use lib.IntN.{ℤ, pos, nat_abs, ◌+ℤ◌, ◌*ℤ◌, +ℤ_idr, +ℤ_assoc}
use lib.ListN.{get_or}
use mir.Syntax.{w64}
use mir.Val.{SFits, to_z, of_z}
use mir.Facts.{to_z-of_z}
use Rattle.rounding.proofs.Machine.{below_fits, bits_are}
use Rattle.ranges.specs.Range.{sum_ℤ}
use Rattle.model.specs.Sheet.{scale}
use Rattle.model.specs.Step.{no_span}
use Rattle.model.specs.Rows.{row_in}
use Rattle.ranges.proofs.Ranges.{sum_ℤ_suc}
use Rattle.clear_rule.specs.Asked.{Weighable}
use Rattle.clear_rule.specs.Clearance.{weight, end_for, assured}
use Rattle.clear_rule.specs.declared.Query.{Query}
use Rattle.clear_rule.proofs.SumsFit.{QueryRanges, query_ranges, RowRanges, row_ranges, end_of, assured_to, product_fits, base_fits, assured_fits, length_spans_in, assured_is}

module _ (n j : ℕ) (buffer : List ℤ) (query : Query) (w : Weighable n j buffer query) where
  asked : QueryRanges n query
  asked = query_ranges n query w.query_is_within

  ranges : RowRanges n (row_in n buffer j)
  ranges = row_ranges n buffer j w.row_is_within

  -- ---- the base, of which the sum begins

  module _ (f : SFits w64 query.base) where
    base_is : to_z w64 (of_z w64 query.base) *ℤ pos scale ≡ query.base *ℤ pos scale
    base_is = ap (λ (z : ℤ). z *ℤ pos scale) (to_z-of_z f)

    pub base_held : SFits w64 (to_z w64 (of_z w64 query.base) *ℤ pos scale)
    base_held = below_fits base_is (base_fits w.place.few asked ranges)

    pub base_summed : to_z w64 (of_z w64 (to_z w64 (of_z w64 query.base) *ℤ pos scale)) ≡ assured_to query (row_in n buffer j) 0
    unfolding sum_ℤ
    base_summed = bits_are base_is (base_fits w.place.few asked ranges) ∙ sym (+ℤ_idr (query.base *ℤ pos scale))

  -- ---- one quantity more

  module _ (i : ℕ) (h : i < n) (f : SFits w64 (weight query i)) {v : ℤ} (g : SFits w64 v) (end : v ≡ end_for (to_z w64 (of_z w64 (weight query i))) (get_or (row_in n buffer j).spans i no_span)) where
    product_is : to_z w64 (of_z w64 (weight query i)) *ℤ to_z w64 (of_z w64 v) ≡ weight query i *ℤ end_of query (row_in n buffer j) i
    product_is = ap₂ (λ (a b : ℤ). a *ℤ b) (to_z-of_z f) (to_z-of_z g ∙ end ∙ ap (λ (z : ℤ). end_for z (get_or (row_in n buffer j).spans i no_span)) (to_z-of_z f))

    product_small : nat_abs (weight query i *ℤ end_of query (row_in n buffer j) i) < 2 ^ 62
    product_small = omega (arith, product_fits w.place.few asked ranges i h)

    pub product_held : SFits w64 (to_z w64 (of_z w64 (weight query i)) *ℤ to_z w64 (of_z w64 v))
    product_held = below_fits product_is product_small

    module _ {z : ℤ} (so_far : z ≡ assured_to query (row_in n buffer j) i) where
      end_added : z +ℤ to_z w64 (of_z w64 (to_z w64 (of_z w64 (weight query i)) *ℤ to_z w64 (of_z w64 v))) ≡ assured_to query (row_in n buffer j) (suc i)
      end_added =
          ap₂ (λ (a b : ℤ). a +ℤ b) so_far (bits_are product_is product_small)
          ∙ sym (ap (λ (z : ℤ). query.base *ℤ pos scale +ℤ z) (sum_ℤ_suc i _) ∙ sym (+ℤ_assoc (query.base *ℤ pos scale) _ _))

      sum_small : nat_abs (assured_to query (row_in n buffer j) (suc i)) < 2 ^ 62
      sum_small = assured_fits w.place.few asked ranges (suc i) h

      pub sum_held : SFits w64 (z +ℤ to_z w64 (of_z w64 (to_z w64 (of_z w64 (weight query i)) *ℤ to_z w64 (of_z w64 v))))
      sum_held = below_fits end_added sum_small

      pub end_summed : to_z w64 (of_z w64 (z +ℤ to_z w64 (of_z w64 (to_z w64 (of_z w64 (weight query i)) *ℤ to_z w64 (of_z w64 v))))) ≡ assured_to query (row_in n buffer j) (suc i)
      end_summed = bits_are end_added sum_small

  -- ---- what is assured

  pub all_assured : {z : ℤ} → z ≡ assured_to query (row_in n buffer j) n → z ≡ assured query (row_in n buffer j)
  all_assured e = e ∙ sym (assured_is query (row_in n buffer j) (length_spans_in n buffer j))
