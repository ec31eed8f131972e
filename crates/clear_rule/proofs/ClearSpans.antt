-- The claim is as strong as that about the water between the rows: where for one base and one run, whatever they are, it holds for all weights and needs,
-- every exact sum at every fraction of every row's step lies between the row's lows and highs, from the exact states that any start within its radii and
-- any degrees lead to. So it is a claim about every row, every fraction and every degree.
use Prim.Native.Nat.{ℕ, zero, suc, ◌*◌, ◌≤◌, ◌<◌}
use mathlib.Core.Bool.{true}
use mathlib.Core.List.{List, [], ◌∷◌}
use mathlib.Core.Path.{◌≡◌, refl, sym, ap, ◌∙◌}
use native.Mathlib.Omega.{arith}
use lib.IntN.{ℤ, pos, neg_ℤ, ◌+ℤ◌, ◌*ℤ◌, zero-*ℤ, +ℤ_idr}
use lib.ListN.{length, get_or}
use lib.Signed.{le_z, ◌≤ℤ◌, ≤ℤ_refl}
use Rattle.rounding.proofs.Integers.{ringℤ, le_unscaled, le_test, le_neg, add_parts, le_parts, parts_le}
use Rattle.ranges.specs.Range.{sum_ℤ}
use Rattle.model.specs.Sheet.{scale, terms_of, starts_of}
use Rattle.enclosure.specs.Exact.{State, exact_sum}
use Rattle.model.specs.Step.{no_span, Row, no_row}
use Rattle.enclosure.specs.Trust.{LiesWithin, LiesBetween, state_after, start_of, Spanned, SpannedOf}
use Rattle.model.specs.declared.Sheet.{Sheet}
use Rattle.model.specs.declared.Term.{Term}
use Rattle.ranges.proofs.Ranges.{sum_ℤ_zero, sum_ℤ_single, length_tabulate}
use Rattle.laws.proofs.Bounds.Reach.{scale_positive}
use Rattle.laws.proofs.Passages.RowPlaces.{Quantities}
use Rattle.clear_rule.specs.Clearance.{weight, end_for, certain, Found}
use Rattle.clear_rule.specs.Claim.{Clears, ClearsAllTheWay, ClearOf, ClearFrom}
use Rattle.clear_rule.specs.declared.Query.{Query}
use Rattle.clear_rule.proofs.SumsFit.{takes_low, takes_high, end_of, assured_to, assured_is}

-- ---- a single weight

-- the weight w of quantity i alone
pub alone : ℕ → ℤ → List ℤ
alone zero w = w ∷ []
alone (suc i) w = pos 0 ∷ alone i w

alone_here : (i : ℕ) (w : ℤ) → get_or (alone i w) i (pos 0) ≡ w
unfolding alone
alone_here zero w = refl
alone_here (suc i) w = alone_here i w

alone_else : (i k : ℕ) (w : ℤ) → (k ≡ i → ⊥) → get_or (alone i w) k (pos 0) ≡ pos 0
unfolding alone
alone_else zero zero w other = absurd (other refl)
alone_else zero (suc k) w other = refl
alone_else (suc i) zero w other = refl
alone_else (suc i) (suc k) w other = alone_else i k w (λ e. other (ap suc e))

-- ---- order

same_le : {a b : ℤ} → a ≡ b → le_z a b ≡ true
same_le {a} e = rw (← e) (le_test (≤ℤ_refl a))

-- an end, from the claim about the weight k: k (b + y) is no more than k b + k (k x), over D
end_least : (b y x : ℤ) (D k : ℕ) → 0 < k → ((b +ℤ y) *ℤ pos k *ℤ pos D) ≤ℤ (b *ℤ pos k *ℤ pos D +ℤ pos k *ℤ (pos k *ℤ x)) → (y *ℤ pos D) ≤ℤ (pos k *ℤ x)
end_least b y x D k some h = le_unscaled _ _ some (cancelled (b *ℤ pos k *ℤ pos D) _ _ (rw (left b y (pos k) (pos D), right (pos k) x) at h))
  where
    left : (b y k d : ℤ) → (b +ℤ y) *ℤ k *ℤ d ≡ b *ℤ k *ℤ d +ℤ y *ℤ d *ℤ k
    left b y k d = simp ringℤ

    right : (k x : ℤ) → k *ℤ (k *ℤ x) ≡ k *ℤ x *ℤ k
    right k x = simp ringℤ

    cancelled : (a c d : ℤ) → (a +ℤ c) ≤ℤ (a +ℤ d) → c ≤ℤ d
    cancelled a c d h = parts_le c d (omega (arith, le_parts h, add_parts a c, add_parts a d))

-- ---- a state that clears every need of which the row is certain

module _ (row : Row) (state : State) (base : ℤ) (run : ℕ) where
  abbrev asked : List ℤ → ℤ → Query
  asked weights need = record { weights = weights; base = base; need = need; run = run }

  module _ (same : length state.numerators ≡ length row.spans) (clears : (weights : List ℤ) (need : ℤ) → certain (asked weights need) row ≡ true → Clears (asked weights need) state) where
    -- no weight: the base is enough for itself
    bare : Clears (asked [] base) state
    bare = clears [] base (unfold certain in same_le (sym (assured_is (asked [] base) row refl ∙ nothing)))
      where
        none : (k : ℕ) → weight (asked [] base) k ≡ pos 0
        none k = unfold weight in refl

        nothing : assured_to (asked [] base) row (length row.spans) ≡ base *ℤ pos scale
        nothing =
            ap (λ (z : ℤ). base *ℤ pos scale +ℤ z) (sum_ℤ_zero (length row.spans) _ (λ k h. ap (λ (w : ℤ). w *ℤ end_of (asked [] base) row k) (none k) ∙ zero-*ℤ (end_of (asked [] base) row k)))
            ∙ +ℤ_idr (base *ℤ pos scale)

    module _ (i : ℕ) (h : i < length row.spans) where
      x : ℤ
      x = get_or state.numerators i (pos 0)

      module _ (w need : ℤ) where
        here : weight (asked (alone i w) need) i ≡ w
        here = unfold weight in alone_here i w

        elsewhere : (k : ℕ) → (k ≡ i → ⊥) → weight (asked (alone i w) need) k ≡ pos 0
        elsewhere k other = unfold weight in alone_else i k w other

        end_alone : sum_ℤ (length row.spans) (λ k. weight (asked (alone i w) need) k *ℤ end_of (asked (alone i w) need) row k) ≡ w *ℤ end_for w (get_or row.spans i no_span)
        end_alone =
            sum_ℤ_single (length row.spans) i _ h (λ k l other. ap (λ (z : ℤ). z *ℤ end_of (asked (alone i w) need) row k) (elsewhere k other) ∙ zero-*ℤ (end_of (asked (alone i w) need) row k)) ∙ ap (λ (z : ℤ). z *ℤ end_for z (get_or row.spans i no_span)) here

        exact_alone : sum_ℤ (length state.numerators) (λ k. weight (asked (alone i w) need) k *ℤ (pos scale *ℤ get_or state.numerators k (pos 0))) ≡ w *ℤ (pos scale *ℤ x)
        unfolding x
        exact_alone =
            sum_ℤ_single (length state.numerators) i _ (omega (arith, same)) (λ k l other. ap (λ (z : ℤ). z *ℤ (pos scale *ℤ get_or state.numerators k (pos 0))) (elsewhere k other) ∙ zero-*ℤ (pos scale *ℤ get_or state.numerators k (pos 0))) ∙ ap (λ (z : ℤ). z *ℤ (pos scale *ℤ x)) here

        enough_alone : need *ℤ pos scale ≡ base *ℤ pos scale +ℤ w *ℤ end_for w (get_or row.spans i no_span) → (need *ℤ pos scale *ℤ pos state.denominator) ≤ℤ (base *ℤ pos scale *ℤ pos state.denominator +ℤ w *ℤ (pos scale *ℤ x))
        enough_alone e =
            rw exact_alone at (clears (alone i w) need (unfold certain in same_le (e ∙ sym (assured_is (asked (alone i w) need) row refl ∙ ap (λ (z : ℤ). base *ℤ pos scale +ℤ z) end_alone)))).enough

      abbrev low : ℤ
      low = (get_or row.spans i no_span).low

      abbrev high : ℤ
      high = (get_or row.spans i no_span).high

      above : (low *ℤ pos state.denominator) ≤ℤ (pos scale *ℤ x)
      above =
          end_least base low x state.denominator scale scale_positive (enough_alone (pos scale) (base +ℤ low) (out base low (pos scale) ∙ ap (λ (z : ℤ). base *ℤ pos scale +ℤ pos scale *ℤ z) (sym (takes_low scale (get_or row.spans i no_span)))))
        where
          out : (b y s : ℤ) → (b +ℤ y) *ℤ s ≡ b *ℤ s +ℤ s *ℤ y
          out b y s = simp ringℤ

      below : (pos scale *ℤ x) ≤ℤ (high *ℤ pos state.denominator)
      below =
          rw (minus_left high (pos state.denominator), minus_right (pos scale) x) at (le_neg (end_least base (neg_ℤ high) (neg_ℤ x) state.denominator scale scale_positive (rw (turned (pos scale) x) at (enough_alone (neg_ℤ (pos scale)) (base +ℤ neg_ℤ high) (out base high (pos scale) ∙ ap (λ (z : ℤ). base *ℤ pos scale +ℤ neg_ℤ (pos scale) *ℤ z) (sym (unfold scale in takes_high _ (get_or row.spans i no_span))))))))
        where
          out : (b y s : ℤ) → (b +ℤ neg_ℤ y) *ℤ s ≡ b *ℤ s +ℤ neg_ℤ s *ℤ y
          out b y s = simp ringℤ

          turned : (s x : ℤ) → neg_ℤ s *ℤ (s *ℤ x) ≡ s *ℤ (s *ℤ neg_ℤ x)
          turned s x = simp ringℤ

          minus_left : (y d : ℤ) → neg_ℤ (neg_ℤ y *ℤ d) ≡ y *ℤ d
          minus_left y d = simp ringℤ

          minus_right : (s x : ℤ) → neg_ℤ (s *ℤ neg_ℤ x) ≡ s *ℤ x
          minus_right s x = simp ringℤ

    pub clear_lies : LiesBetween row.spans state
    unfolding x
    clear_lies = record { rational = bare.rational; quantities = same; above = above; below = below }

-- ---- the claim about a passage's rows

pub states_wide : (terms : List Term) (H : ℤ) (degrees : List ℕ) (state : State) (j : ℕ) → length (state_after terms H degrees state j).numerators ≡ length state.numerators
unfolding state_after exact_sum
states_wide terms H degrees state zero = refl
states_wide terms H degrees state (suc j) = length_tabulate _ _ ∙ states_wide terms H degrees state j

-- from every start within its radii, by any degrees no lower than the printed ones, at every fraction of each row's step and for every degree of its own no
-- lower than the row's, the exact sum lies between the row's lows and highs
abbrev pub Between : Sheet → List Row → Type 0
Between sheet rows =
    (state : State) → LiesWithin (starts_of sheet) state → (degrees : List ℕ) → length degrees ≡ length rows → ((j : ℕ) → j < length rows → (get_or rows j no_row).degree ≤ get_or degrees j 0) → (j : ℕ) → j < length rows →
    (u w : ℕ) → 0 < w → u ≤ w → (K : ℕ) → (get_or rows j no_row).degree ≤ K →
    LiesBetween (get_or rows j no_row).spans (exact_sum (terms_of sheet) (sheet.head.step *ℤ pos u) (scale * w) K (state_after (terms_of sheet) sheet.head.step degrees state j))

module _ (sheet : Sheet) (rows : List Row) (base : ℤ) (run : ℕ) (found : List ℤ → ℤ → Found) where
  pub clear_spans : ((j : ℕ) → j < length rows → Quantities sheet.head.n (get_or rows j no_row)) → ((weights : List ℤ) (need : ℤ) → ClearOf sheet (record { weights = weights; base = base; need = need; run = run }) rows (found weights need)) → Between sheet rows
  unfolding ClearOf ClearsAllTheWay starts_of exact_sum
  clear_spans wide claim state within degrees each lower j h u w positive part K least =
      clear_lies (get_or rows j no_row) (exact_sum (terms_of sheet) (sheet.head.step *ℤ pos u) (scale * w) K (state_after (terms_of sheet) sheet.head.step degrees state j)) base run (length_tabulate _ _ ∙ states_wide (terms_of sheet) sheet.head.step degrees state j ∙ within.quantities ∙ length_tabulate sheet.head.n _ ∙ sym (wide j h).spans) (λ weights need e. (claim weights need state within degrees (record { each = each; lower = lower })).certain_row j h e u w positive part K least)

  -- and from every exact state within the radii that each row's step starts from: the claim about the water between the rows, whole
  pub clear_from_spans : ((j : ℕ) → j < length rows → Quantities sheet.head.n (get_or rows j no_row)) → ((weights : List ℤ) (need : ℤ) → ClearFrom sheet (record { weights = weights; base = base; need = need; run = run }) rows (found weights need)) → SpannedOf sheet rows
  unfolding ClearFrom ClearsAllTheWay SpannedOf Spanned exact_sum
  clear_from_spans wide claim j h state within u w positive part K least =
      clear_lies (get_or rows j no_row) (exact_sum (terms_of sheet) (sheet.head.step *ℤ pos u) (scale * w) K state) base run (length_tabulate _ _ ∙ within.quantities ∙ start_wide j h ∙ sym (wide j h).spans) (λ weights need e. (claim weights need).certain_row j h e state within u w positive part K least)
    where
      start_wide : (j : ℕ) → j < length rows → length (start_of (starts_of sheet) rows j) ≡ sheet.head.n
      start_wide zero h = unfold start_of starts_of in length_tabulate sheet.head.n _
      start_wide (suc j) h = unfold start_of in (wide j (omega arith)).balls
