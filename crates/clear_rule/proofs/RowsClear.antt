-- What a pilot may say: every exact state between a certain row's lows and highs clears the need, by the weights; and so, of every certain row that a passage
-- wrote, does each exact sum within its step, by demand 3 up to the step and by the water between the rows within it.
use Rattle.std.specs.Prelude.{Ok, Some}
use Prim.Native.Nat.{ℕ, zero, suc, ◌+◌, ◌≤◌, ◌<◌}
use mathlib.Core.Bool.{true}
use mathlib.Core.List.{List}
use mathlib.Core.Path.{◌≡◌, refl, ap}
use native.Mathlib.Omega.{arith}
use lib.IntN.{ℤ, pos, negsuc, neg_ℤ, ◌+ℤ◌, ◌*ℤ◌, *ℤ_comm}
use lib.ListN.{length, get_or, length-take}
use lib.Signed.{◌≤ℤ◌, le_z_yes}
use Rattle.rounding.proofs.Integers.{ringℤ, add_mul_ℤ, neg_mul_ℤ, le_scaled, le_neg, le_sums}
use Rattle.ranges.specs.Range.{sum_ℤ}
use Rattle.model.specs.Sheet.{scale, terms_of, starts_of}
use Rattle.enclosure.specs.Exact.{State}
use Rattle.model.specs.Step.{no_span, Row, no_row}
use Rattle.model.specs.Rows.{rows_in}
use Rattle.model.specs.Passage.{passage}
use Rattle.enclosure.specs.Trust.{LiesWithin, LiesBetween, state_after, NoLower, Trusted, TrustedOf, start_of, Spanned, SpannedOf}
use Rattle.model.specs.declared.Sheet.{Sheet}
use Rattle.model.specs.declared.Span.{Span}
use Rattle.ranges.proofs.Ranges.{sum_ℤ_le, sum_ℤ_factor}
use Rattle.enclosure.proofs.Spanned.{passage_spanned, spanned_prefix}
use Rattle.enclosure.proofs.Trusted.{passage_trusted, trusted_prefix}
use Rattle.clear_rule.specs.Clearance.{weight, end_for, certain, Found}
use Rattle.clear_rule.specs.Claim.{Answers, Clears, ClearsAllTheWay, EachClear, ClearOf, ClearFrom, Wrote}
use Rattle.clear_rule.specs.declared.Query.{Query}
use Rattle.clear_rule.proofs.SumsFit.{length_rows, takes_low, takes_high, end_of, assured_to, assured_is}

-- ---- a certain row

-- a weight times the end that it takes is no more than the weight times any number x ÷ D between low and high
least_end : (w : ℤ) (span : Span) (x : ℤ) (D : ℕ) → (span.low *ℤ pos D) ≤ℤ x → x ≤ℤ (span.high *ℤ pos D) → (pos D *ℤ (w *ℤ end_for w span)) ≤ℤ (w *ℤ x)
least_end (pos w) span x D above below = rw (takes_low w span, moved (pos D) (pos w) span.low, *ℤ_comm (pos w) x) (le_scaled w above)
  where
    moved : (d w z : ℤ) → d *ℤ (w *ℤ z) ≡ z *ℤ d *ℤ w
    moved d w z = simp ringℤ
least_end (negsuc w) span x D above below =
    rw (takes_high w span, minus_whole w) (rw (turned (pos D) (pos (suc w)) span.high, neg_mul_ℤ (pos (suc w)) x, *ℤ_comm (pos (suc w)) x) (le_neg (le_scaled (suc w) below)))
  where
    -- a negative number is the negation of a positive one
    minus_whole : (w : ℕ) → negsuc w ≡ neg_ℤ (pos (suc w))
    minus_whole w = refl

    turned : (d w z : ℤ) → d *ℤ (neg_ℤ w *ℤ z) ≡ neg_ℤ (z *ℤ d *ℤ w)
    turned d w z = simp ringℤ

module _ (query : Query) where
  pub certain_clears : (row : Row) {state : State} → LiesBetween row.spans state → certain query row ≡ true → Clears query state
  unfolding certain
  certain_clears row {state} between e = record { rational = between.rational; enough = rw between.quantities (le_sums (query.need *ℤ pos scale *ℤ pos D) (query.base *ℤ pos scale *ℤ pos D) (pos D *ℤ ends) _ assures least) }
    where
      n : ℕ
      n = length row.spans

      D : ℕ
      D = state.denominator

      ends : ℤ
      ends = sum_ℤ n (λ i. weight query i *ℤ end_of query row i)

      enough : (query.need *ℤ pos scale) ≤ℤ assured_to query row n
      enough = rw (← assured_is query row refl) (le_z_yes (rw e tt))

      assures : (query.need *ℤ pos scale *ℤ pos D) ≤ℤ (query.base *ℤ pos scale *ℤ pos D +ℤ pos D *ℤ ends)
      assures = rw (*ℤ_comm (pos D) ends, ← add_mul_ℤ (query.base *ℤ pos scale) ends (pos D)) (le_scaled D enough)

      least : (pos D *ℤ ends) ≤ℤ sum_ℤ n (λ i. weight query i *ℤ (pos scale *ℤ get_or state.numerators i (pos 0)))
      least =
          rw (sum_ℤ_factor n (pos D) _) (sum_ℤ_le n _ _ (λ i h. least_end (weight query i) (get_or row.spans i no_span) _ D (between.above i h) (between.below i h)))

-- ---- a passage's rows

module _ (sheet : Sheet) (query : Query) (rows : List Row) where
  -- exact state j lies within the radii that the step of row j starts from
  pub state_before : TrustedOf sheet rows → (state : State) → LiesWithin (starts_of sheet) state → (degrees : List ℕ) → NoLower degrees rows → (j : ℕ) → j < length rows → LiesWithin (start_of (starts_of sheet) rows j) (state_after (terms_of sheet) sheet.head.step degrees state j)
  unfolding TrustedOf Trusted start_of state_after
  state_before trusted state within degrees lower zero h = within
  state_before trusted state within degrees lower (suc j) h = (trusted state within degrees lower j (omega arith)).0

  -- what may be said of the step of every certain row may be said of each row of the run that is answered
  each_clear : (Clear : ℕ → Type 0) (found : Found) → Answers query rows found → ((j : ℕ) → j < length rows → certain query (get_or rows j no_row) ≡ true → Clear j) → EachClear query rows found Clear
  each_clear Clear found answers each = record { certain_row = each; run = λ j i e h. in_run j (rw e at answers) i h }
    where
      in_run : (j : ℕ) → Answers query rows (Ok (Some (suc j))) → (i : ℕ) → i < query.run → Clear (j + i)
      in_run j answers i h = unfold Answers in each (j + i) (omega (arith, answers.0.counted)) (answers.0.certain_each i h)

  pub spanned_clears_from : SpannedOf sheet rows → (found : Found) → Answers query rows found → ClearFrom sheet query rows found
  unfolding SpannedOf Spanned ClearFrom ClearsAllTheWay
  spanned_clears_from spanned found answers =
      each_clear _ found answers (λ j h e state within u w positive part K high. certain_clears query (get_or rows j no_row) (spanned j h state within u w positive part K high) e)

  -- the states that the passage leads to are among these
  pub spanned_clears : TrustedOf sheet rows → SpannedOf sheet rows → (found : Found) → Answers query rows found → ClearOf sheet query rows found
  unfolding ClearFrom ClearOf
  spanned_clears trusted spanned found answers state within degrees lower =
      each_clear _ found answers (λ j h e. (spanned_clears_from spanned found answers).certain_row j h e (state_after (terms_of sheet) sheet.head.step degrees state j) (state_before trusted state within degrees lower j h))

module _ (sheet : Sheet) (n count : ℕ) (buffer : List ℤ) (wrote : Wrote sheet n count buffer) where
  few : count ≤ length (passage sheet wrote.places).rows
  few = omega (arith, length_rows n count buffer, ap length wrote.same, length-take count (passage sheet wrote.places).rows)

  pub wrote_trusted : TrustedOf sheet (rows_in n count buffer)
  unfolding TrustedOf
  wrote_trusted =
      rw wrote.same (trusted_prefix (terms_of sheet) sheet.head.step sheet.head.tol (starts_of sheet) (passage sheet wrote.places).rows count few (passage_trusted sheet wrote.places))

  pub wrote_spanned : SpannedOf sheet (rows_in n count buffer)
  unfolding SpannedOf
  wrote_spanned =
      rw wrote.same (spanned_prefix (terms_of sheet) sheet.head.step (starts_of sheet) (passage sheet wrote.places).rows count few (passage_spanned sheet wrote.places))
