-- A row that a passage wrote and that is certain is certain at the end of its step too, by its values and radii alone, as document 02, CR 2 had it; and not
-- conversely, nor would that be enough. Its lows are no higher than its highs.
use Prim.Native.Nat.{ℕ, zero, suc, ◌*◌, ◌<◌}
use mathlib.Core.Bool.{Bool, true, false}
use mathlib.Core.List.{List, [], ◌∷◌}
use mathlib.Core.Path.{◌≡◌, refl, sym, ap, ◌∙◌}
use native.Mathlib.Omega.{arith}
use lib.IntN.{ℤ, pos, negsuc, neg_ℤ, nat_abs, ◌+ℤ◌, ◌-ℤ◌, ◌*ℤ◌, *ℤ_comm, pos-*ℤ-pos}
use lib.ListN.{length, get_or, length-take}
use lib.Seq.{get_or-take}
use lib.Signed.{le_z, ◌≤ℤ◌, le_z_yes}
use Rattle.rounding.proofs.Integers.{ringℤ, add_parts, neg_parts, pos_parts, le_parts, parts_le, le_scaled, le_test, le_sums, le_neg}
use Rattle.ranges.specs.Range.{sum, sum_ℤ}
use Rattle.model.specs.Sheet.{scale, terms_of}
use Rattle.model.specs.Step.{no_ball, no_span, Row, no_row}
use Rattle.model.specs.Rows.{rows_in}
use Rattle.model.specs.Passage.{passage}
use Rattle.model.specs.declared.Ball.{Ball}
use Rattle.model.specs.declared.Sheet.{Sheet}
use Rattle.model.specs.declared.Span.{Span}
use Rattle.enclosure.proofs.Distrust.{EveryExact, case_A, whole}
use Rattle.enclosure.proofs.DistrustBetween.{row_between, rows_of_A}
use Rattle.enclosure.proofs.EndsBetween.{EndsBetween, AllEndsBetween, passage_ends_between}
use Rattle.ranges.proofs.Lists.{each_at}
use Rattle.laws.proofs.Passages.RowsOfPassage.{rows_of_passage}
use Rattle.ranges.proofs.Ranges.{sum_ℤ_le}
use Rattle.clear_rule.specs.Clearance.{weight, end_for, assured, certain}
use Rattle.clear_rule.specs.Claim.{ClearsAllTheWay, Wrote}
use Rattle.clear_rule.specs.declared.Query.{Query}
use Rattle.clear_rule.proofs.SumsFit.{takes_low, takes_high, end_of, assured_is, length_rows}
use Rattle.clear_rule.proofs.Uncertain.{Ordered}

-- base × s + the sum of weight × value - the sum of |weight| × radius
pub assured_at_end : Query → Row → ℤ
assured_at_end query row =
    query.base *ℤ pos scale
    +ℤ sum_ℤ (length row.balls) (λ i. weight query i *ℤ (get_or row.balls i no_ball).value)
    -ℤ pos (sum (length row.balls) (λ i. nat_abs (weight query i) * (get_or row.balls i no_ball).radius))

-- that is at least need × s
pub certain_at_end : Query → Row → Bool
certain_at_end query row = le_z (query.need *ℤ pos scale) (assured_at_end query row)

-- ---- a quantity: its end between the rows counts no more than its value less its radius

counts_less : (w : ℤ) (ball : Ball) (span : Span) → EndsBetween ball span → (w *ℤ end_for w span) ≤ℤ (w *ℤ ball.value -ℤ pos (nat_abs w * ball.radius))
counts_less (pos w) ball span ends =
    rw (takes_low w span, *ℤ_comm (pos w) span.low, ← pos-*ℤ-pos w ball.radius, ← spread (pos w) ball.value (pos ball.radius)) (le_scaled w ends.above)
  where
    spread : (w v r : ℤ) → (v -ℤ r) *ℤ w ≡ w *ℤ v -ℤ w *ℤ r
    spread w v r = simp ringℤ
counts_less (negsuc w) ball span ends =
    rw (takes_high w span, ← pos-*ℤ-pos (suc w) ball.radius) (rw (turned (pos (suc w)) span.high, turned_sum (pos (suc w)) ball.value (pos ball.radius)) (le_neg (le_scaled (suc w) ends.below)))
  where
    turned : (w h : ℤ) → neg_ℤ w *ℤ h ≡ neg_ℤ (h *ℤ w)
    turned w h = simp ringℤ

    turned_sum : (w v r : ℤ) → neg_ℤ w *ℤ v -ℤ w *ℤ r ≡ neg_ℤ ((v +ℤ r) *ℤ w)
    turned_sum w v r = simp ringℤ

-- ---- a row

sum_of_differences : (n : ℕ) (f : ℕ → ℤ) (g : ℕ → ℕ) → sum_ℤ n (λ i. f i -ℤ pos (g i)) ≡ sum_ℤ n f -ℤ pos (sum n g)
unfolding sum sum_ℤ
sum_of_differences zero f g = refl
sum_of_differences (suc n) f g = ap (λ (z : ℤ). z +ℤ (f n -ℤ pos (g n))) (sum_of_differences n f g) ∙ regroup (sum_ℤ n f) (pos (sum n g)) (f n) (pos (g n))
  where
    regroup : (a b c d : ℤ) → (a -ℤ b) +ℤ (c -ℤ d) ≡ (a +ℤ c) -ℤ (b +ℤ d)
    regroup a b c d = simp ringℤ

module _ (query : Query) (row : Row) (same : length row.spans ≡ length row.balls) (between : AllEndsBetween row) where
  abbrev n : ℕ
  n = length row.balls

  counted_less : sum_ℤ n (λ i. weight query i *ℤ end_of query row i) ≤ℤ (sum_ℤ n (λ i. weight query i *ℤ (get_or row.balls i no_ball).value) -ℤ pos (sum n (λ i. nat_abs (weight query i) * (get_or row.balls i no_ball).radius)))
  counted_less =
      rw (← sum_of_differences n (λ i. weight query i *ℤ (get_or row.balls i no_ball).value) (λ i. nat_abs (weight query i) * (get_or row.balls i no_ball).radius)) (sum_ℤ_le n _ _ (λ i h. counts_less (weight query i) (get_or row.balls i no_ball) (get_or row.spans i no_span) (between i h)))

  pub end_certain : certain query row ≡ true → certain_at_end query row ≡ true
  unfolding certain certain_at_end assured_at_end
  end_certain e = le_test at_least
    where
      ends : ℤ
      ends = sum_ℤ n (λ i. weight query i *ℤ end_of query row i)

      values : ℤ
      values = sum_ℤ n (λ i. weight query i *ℤ (get_or row.balls i no_ball).value)

      radii : ℕ
      radii = sum n (λ i. nat_abs (weight query i) * (get_or row.balls i no_ball).radius)

      enough : (query.need *ℤ pos scale) ≤ℤ (query.base *ℤ pos scale +ℤ ends)
      enough = rw (← assured_is query row same) (le_z_yes (rw e tt))

      grouped : (b v r : ℤ) → b +ℤ v -ℤ r ≡ b +ℤ (v -ℤ r)
      grouped b v r = simp ringℤ

      at_least : (query.need *ℤ pos scale) ≤ℤ assured_at_end query row
      at_least = rw (grouped (query.base *ℤ pos scale) values (pos radii)) (le_sums (query.need *ℤ pos scale) (query.base *ℤ pos scale) ends (values -ℤ pos radii) enough counted_less)

-- the two ends of an enclosure are in their order, and so are the low and the high about them
in_order : (ball : Ball) (span : Span) → EndsBetween ball span → span.low ≤ℤ span.high
in_order ball span ends =
    let v = ball.value in
    let r = ball.radius in
    parts_le span.low span.high (omega (arith, le_parts ends.above, le_parts ends.below, add_parts v (neg_ℤ (pos r)), neg_parts (pos r), pos_parts r, add_parts v (pos r)))

-- ---- the rows that a passage wrote

module _ (sheet : Sheet) (n count : ℕ) (buffer : List ℤ) (wrote : Wrote sheet n count buffer) (j : ℕ) (h : j < count) where
  abbrev rows : List Row
  rows = (passage sheet wrote.places).rows

  counted : j < length rows
  counted = omega (arith, length_rows n count buffer, ap length wrote.same, length-take count rows)

  row_is : get_or (rows_in n count buffer) j no_row ≡ get_or rows j no_row
  row_is = ap (λ (rows : List Row). get_or rows j no_row) wrote.same ∙ get_or-take count rows j no_row h

  wide : length (get_or rows j no_row).spans ≡ length (get_or rows j no_row).balls
  wide =
      let quantities = each_at no_row (rows_of_passage sheet wrote.places).wide j counted in
      quantities.spans ∙ sym quantities.balls

  between : AllEndsBetween (get_or rows j no_row)
  between = each_at no_row (passage_ends_between sheet wrote.places) j counted

  pub wrote_end_certain : (query : Query) → certain query (get_or (rows_in n count buffer) j no_row) ≡ true → certain_at_end query (get_or (rows_in n count buffer) j no_row) ≡ true
  wrote_end_certain query e = rw row_is (end_certain query (get_or rows j no_row) wide between (rw row_is at e))

  pub wrote_ordered : Ordered (get_or (rows_in n count buffer) j no_row)
  wrote_ordered = rw row_is (λ i l. in_order _ _ (between i (rw (← wide) l)))

-- ---- and not conversely: of 21670562 units the row of document 01's case A is certain at the end of its step and not all the way, and the step does start
-- with fewer

pub needing : Query
needing = record { weights = pos scale ∷ []; base = pos 0; need = pos 21670562; run = 1 }

-- the row that A's passage writes
abbrev pub row_A_writes : Row
row_A_writes = get_or (passage (case_A (pos 4194304)) 5).rows 0 no_row

pub not_conversely : (certain_at_end needing row_A_writes ≡ true) × (certain needing row_A_writes ≡ false)
unfolding certain certain_at_end assured assured_at_end weight end_for scale sum sum_ℤ no_ball no_span no_row needing row_between
not_conversely = rw rows_of_A (refl, refl)

pub end_is_not_enough : ClearsAllTheWay needing (terms_of (case_A (pos 4194304))) (pos 4194304) 2 whole → ⊥
unfolding EveryExact ClearsAllTheWay needing weight whole
end_is_not_enough clears = (clears 0 1 (omega arith) (omega arith) 2 (omega arith)).enough.le
