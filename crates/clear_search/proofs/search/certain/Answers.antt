-- `clear_search::search::certain` meets its contract: the test on the bits is that of the definition.
use Prim.Native.Nat.{ℕ}
use mathlib.Core.List.{List}
use mathlib.Core.Path.{◌≡◌, ap, ap₂, ◌∙◌}
use borrow.Author.Rules.{rules}
use lib.IntN.{ℤ, pos, ◌*ℤ◌}
use lib.Signed.{le_z}
use mir.Syntax.{w64}
use mir.Val.{SFits, to_z, of_z}
use mir.Facts.{to_z-of_z}
use Rattle.rounding.proofs.Machine.{below_fits, bits_are}
use Rattle.model.specs.Sheet.{scale}
use Rattle.model.specs.Rows.{row_in}
use Rattle.rows.specs.View.{places_of}
use Rattle.clear_rule.specs.Asked.{Weighable}
use Rattle.clear_rule.specs.Clearance.{assured, certain}
use Rattle.clear_rule.specs.declared.Query.{Query}
use Rattle.clear_rule.proofs.SumsFit.{query_ranges, row_ranges, need_fits}
use Rattle.clear_search.proofs.search.certain.Goals as goal

module _ (n j : ℕ) (buffer : List ℤ) (query : Query) (w : Weighable n j buffer query) (f : SFits w64 query.need) where
  need_is : to_z w64 (of_z w64 query.need) *ℤ pos scale ≡ query.need *ℤ pos scale
  need_is = ap (λ (z : ℤ). z *ℤ pos scale) (to_z-of_z f)

  need_held : SFits w64 (to_z w64 (of_z w64 query.need) *ℤ pos scale)
  need_held = below_fits need_is (need_fits w.place.few (query_ranges n query w.query_is_within) (row_ranges n buffer j w.row_is_within))

  enough : {z : ℤ} → SFits w64 z → z ≡ assured query (row_in n buffer j) → le_z (to_z w64 (of_z w64 (to_z w64 (of_z w64 query.need) *ℤ pos scale))) (to_z w64 (of_z w64 z)) ≡ certain query (row_in n buffer j)
  unfolding certain
  enough g e = ap₂ le_z (bits_are need_is (need_fits w.place.few (query_ranges n query w.query_is_within) (row_ranges n buffer j w.row_is_within))) (to_z-of_z g ∙ e)

pub overflow_mul-need : goal.overflow_mul-need
unfolding scale
overflow_mul-need c =
    need_held c.args.row.n 0 (places_of c.args.row) c.args.query.now c.requires (search rules)

pub returns : goal.returns
unfolding scale
returns c =
    enough c.args.row.n 0 (places_of c.args.row) c.args.query.now c.requires (search rules) (record { sfits = c.assured.type_inv }) c.assured.ensures
