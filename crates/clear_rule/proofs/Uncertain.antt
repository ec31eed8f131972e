-- A row whose lows are no higher than its highs is certain just where every exact state between them clears the need: of a row that is not, the state with
-- each number at the end that its weight takes does not.
use Prim.Native.Nat.{ℕ, ◌<◌}
use mathlib.Core.Bool.{Bool, true, false, false≢true}
use mathlib.Core.Path.{◌≡◌, refl, sym, ap, ◌∙◌}
use lib.IntN.{ℤ, pos, negsuc, ◌+ℤ◌, ◌*ℤ◌, *ℤ_comm}
use lib.ListN.{length, get_or}
use lib.Signed.{◌≤ℤ◌, ≤ℤ_refl}
use Rattle.rounding.proofs.Integers.{add_mul_ℤ, mul_left_comm_ℤ, le_scaled, le_unscaled, le_test}
use Rattle.ranges.specs.Range.{sum_ℤ, tabulate}
use Rattle.model.specs.Sheet.{scale}
use Rattle.enclosure.specs.Exact.{State}
use Rattle.model.specs.Step.{no_span, Row}
use Rattle.enclosure.specs.Trust.{LiesBetween}
use Rattle.model.specs.declared.Span.{Span}
use Rattle.ranges.proofs.Ranges.{sum_ℤ_equal, sum_ℤ_factor, length_tabulate, get_or_tabulate}
use Rattle.laws.proofs.Bounds.Reach.{scale_positive}
use Rattle.clear_rule.specs.Clearance.{weight, end_for, assured, certain}
use Rattle.clear_rule.specs.Claim.{Clears}
use Rattle.clear_rule.specs.declared.Query.{Query}
use Rattle.clear_rule.proofs.SumsFit.{takes_low, takes_high, end_of, assured_is}

-- no low is above its high
abbrev pub Ordered : Row → Type 0
Ordered row = (i : ℕ) → i < length row.spans → (get_or row.spans i no_span).low ≤ℤ (get_or row.spans i no_span).high

-- the state with every number at the end that its weight takes
pub worst : Query → Row → State
worst query row = record { denominator = scale; numerators = tabulate (length row.spans) (end_of query row) }

-- ---- it lies between the lows and the highs

module _ (w : ℤ) (span : Span) (ordered : span.low ≤ℤ span.high) where
  end_above : span.low ≤ℤ end_for w span
  end_above = go w
    where
      go : (w : ℤ) → span.low ≤ℤ end_for w span
      go (pos w) = rw (takes_low w span) (≤ℤ_refl span.low)
      go (negsuc w) = rw (takes_high w span) ordered

  end_below : end_for w span ≤ℤ span.high
  end_below = go w
    where
      go : (w : ℤ) → end_for w span ≤ℤ span.high
      go (pos w) = rw (takes_low w span) ordered
      go (negsuc w) = rw (takes_high w span) (≤ℤ_refl span.high)

pub worst_lies : (query : Query) (row : Row) → Ordered row → LiesBetween row.spans (worst query row)
unfolding worst
worst_lies query row ordered =
    record {
      rational = scale_positive;
      quantities = length_tabulate (length row.spans) _;
      above = λ i h. rw (number_at i h) (le_scaled scale (end_above (weight query i) (get_or row.spans i no_span) (ordered i h)));
      below = λ i h. rw (number_at i h) (le_scaled scale (end_below (weight query i) (get_or row.spans i no_span) (ordered i h)));
    }
  where
    number_at : (i : ℕ) → i < length row.spans → pos scale *ℤ get_or (worst query row).numerators i (pos 0) ≡ end_of query row i *ℤ pos scale
    number_at i h = ap (λ (z : ℤ). pos scale *ℤ z) (get_or_tabulate (length row.spans) (end_of query row) (pos 0) i h) ∙ *ℤ_comm (pos scale) (end_of query row i)

-- ---- its clearance is what the row assures

comes_to : (query : Query) (row : Row) → query.base *ℤ pos scale *ℤ pos scale +ℤ sum_ℤ (length (worst query row).numerators) (λ i. weight query i *ℤ (pos scale *ℤ get_or (worst query row).numerators i (pos 0))) ≡ assured query row *ℤ pos scale
unfolding worst
comes_to query row =
    ap (λ (n : ℕ). query.base *ℤ pos scale *ℤ pos scale +ℤ sum_ℤ n (λ i. weight query i *ℤ (pos scale *ℤ get_or (worst query row).numerators i (pos 0)))) (length_tabulate n _)
    ∙ ap (λ (z : ℤ). query.base *ℤ pos scale *ℤ pos scale +ℤ z) (sum_ℤ_equal n _ _ each ∙ sym (sum_ℤ_factor n (pos scale) counted) ∙ *ℤ_comm (pos scale) (sum_ℤ n counted))
    ∙ sym (add_mul_ℤ (query.base *ℤ pos scale) (sum_ℤ n counted) (pos scale))
    ∙ ap (λ (z : ℤ). z *ℤ pos scale) (sym (assured_is query row refl))
  where
    n : ℕ
    n = length row.spans

    counted : ℕ → ℤ
    counted i = weight query i *ℤ end_of query row i

    each : (i : ℕ) → i < n → weight query i *ℤ (pos scale *ℤ get_or (worst query row).numerators i (pos 0)) ≡ pos scale *ℤ (weight query i *ℤ end_of query row i)
    each i h =
        mul_left_comm_ℤ (weight query i) (pos scale) _
        ∙ ap (λ (z : ℤ). pos scale *ℤ (weight query i *ℤ z)) (get_or_tabulate n _ (pos 0) i h)

-- ---- and so it does not clear where the row is not certain

pub uncertain_fails : (query : Query) (row : Row) → certain query row ≡ false → Clears query (worst query row) → ⊥
unfolding certain worst
uncertain_fails query row e cleared =
    false≢true (sym e ∙ le_test (le_unscaled (query.need *ℤ pos scale) (assured query row) scale_positive (rw (← comes_to query row) cleared.enough)))

-- the converse of `certain_clears`
pub clear_is_certain : (query : Query) (row : Row) → Ordered row → ((state : State) → LiesBetween row.spans state → Clears query state) → certain query row ≡ true
clear_is_certain query row ordered clears = go (certain query row) refl
  where
    go : (b : Bool) → certain query row ≡ b → b ≡ true
    go true e = refl
    go false e = absurd (uncertain_fails query row e (clears (worst query row) (worst_lies query row ordered)))
