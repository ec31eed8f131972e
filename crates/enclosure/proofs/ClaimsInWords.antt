-- What is promised of the rows that a run leaves in a lent buffer, down to plain numbers as they stand there. Each clause of the claims of specs/Trust.antt
-- is used here and each premise is met, so that neither a claim can say less nor a premise ask more than is said.
use Prim.Native.Nat.{ℕ, zero, suc, ◌*◌, ◌≤◌, ◌<◌}
use mathlib.Core.List.{List}
use mathlib.Core.Path.{◌≡◌, refl, ap, sym, subst, ◌∙◌}
use native.Mathlib.Omega.{arith}
use lib.IntN.{ℤ, pos, nat_abs, ◌-ℤ◌, ◌*ℤ◌}
use lib.ListN.{length, get_or}
use lib.Signed.{◌≤ℤ◌}
use Rattle.model.specs.Sheet.{scale, no_quantity, start_value, start_ball, terms_of, starts_of}
use Rattle.model.specs.Step.{no_ball, no_span, Row, no_row}
use Rattle.model.specs.Rows.{values_part, radii_part, lows_part, highs_part, degree_place, part_place, written, row_in, rows_in}
use Rattle.model.specs.Passage.{Run}
use Rattle.model.specs.declared.Ball.{Ball}
use Rattle.model.specs.declared.Span.{Span}
use Rattle.model.specs.declared.Sheet.{Sheet}
use Rattle.model.specs.declared.Term.{Term}
use Rattle.ranges.proofs.Ranges.{length_tabulate, get_or_tabulate}
use Rattle.enclosure.specs.Exact.{State, exact_sum}
use Rattle.enclosure.specs.Trust.{LiesWithin, LiesBetween, state_after, Trusted, TrustedOf, start_of, Spanned, SpannedOf, Leaves}

-- ---- the numbers of row j, the rows counted from 0, in a buffer of rows of n quantities

module _ (n : ℕ) (buffer : List ℤ) (j : ℕ) where
  abbrev pub degree_at : ℕ
  degree_at = nat_abs (get_or buffer (degree_place n j) (pos 0))

  abbrev pub value_at : ℕ → ℤ
  value_at i = get_or buffer (part_place n j values_part i) (pos 0)

  abbrev pub radius_at : ℕ → ℕ
  radius_at i = nat_abs (get_or buffer (part_place n j radii_part i) (pos 0))

  abbrev pub low_at : ℕ → ℤ
  low_at i = get_or buffer (part_place n j lows_part i) (pos 0)

  abbrev pub high_at : ℕ → ℤ
  high_at i = get_or buffer (part_place n j highs_part i) (pos 0)

-- what the step of row j starts from: the sheet's start, or the row before
unfoldable pub value_before : Sheet → List ℤ → ℕ → ℕ → ℤ
value_before sheet buffer zero i = start_value (get_or sheet.quantities i no_quantity).start
value_before sheet buffer (suc j) i = value_at sheet.head.n buffer j i

unfoldable pub radius_before : Sheet → List ℤ → ℕ → ℕ → ℕ
radius_before sheet buffer zero i = (get_or sheet.quantities i no_quantity).radius
radius_before sheet buffer (suc j) i = radius_at sheet.head.n buffer j i

-- ---- states, in plain numbers

-- every number x ÷ D of a state of n quantities, s times, differs from its value by at most its radius
abbrev pub Near : ℕ → State → (ℕ → ℤ) → (ℕ → ℕ) → Type 0
Near n state value radius =
    (0 < state.denominator) × ((length state.numerators ≡ n) ×
    ((i : ℕ) → i < n → nat_abs (pos scale *ℤ get_or state.numerators i (pos 0) -ℤ value i *ℤ pos state.denominator) ≤ radius i * state.denominator))

-- it is no lower than a low and no higher than a high
abbrev pub Between : ℕ → State → (ℕ → ℤ) → (ℕ → ℤ) → Type 0
Between n state low high =
    (0 < state.denominator) × ((length state.numerators ≡ n) ×
    ((i : ℕ) → i < n →
    ((low i *ℤ pos state.denominator) ≤ℤ (pos scale *ℤ get_or state.numerators i (pos 0))) ×
    ((pos scale *ℤ get_or state.numerators i (pos 0)) ≤ℤ (high i *ℤ pos state.denominator))))

module _ (balls : List Ball) (n : ℕ) (value : ℕ → ℤ) (radius : ℕ → ℕ) (wide : length balls ≡ n)
    (values : (i : ℕ) → i < n → (get_or balls i no_ball).value ≡ value i) (radii : (i : ℕ) → i < n → (get_or balls i no_ball).radius ≡ radius i) where
  within_says : {state : State} → LiesWithin balls state → Near n state value radius
  within_says w =
      (w.rational, (w.quantities ∙ wide, λ i h. rw (values i h, radii i h) at (w.near i (omega (arith, wide))).off))

  within_asks : {state : State} → Near n state value radius → LiesWithin balls state
  within_asks near =
      record {
        rational = near.0;
        quantities = near.1.0 ∙ sym wide;
        near = λ i h. let l : i < n = omega (arith, wide) in record { off = rw (values i l, radii i l) (near.1.1 i l) };
      }

module _ (spans : List Span) (n : ℕ) (low high : ℕ → ℤ) (wide : length spans ≡ n)
    (lows : (i : ℕ) → i < n → (get_or spans i no_span).low ≡ low i) (highs : (i : ℕ) → i < n → (get_or spans i no_span).high ≡ high i) where
  between_says : {state : State} → LiesBetween spans state → Between n state low high
  between_says {state} b = (b.rational, (b.quantities ∙ wide, λ i h. (above i h (omega (arith, wide)), below i h (omega (arith, wide)))))
    where
      above : (i : ℕ) → i < n → i < length spans → (low i *ℤ pos state.denominator) ≤ℤ (pos scale *ℤ get_or state.numerators i (pos 0))
      above i h l =
          subst (λ (low : ℤ). (low *ℤ pos state.denominator) ≤ℤ (pos scale *ℤ get_or state.numerators i (pos 0))) (lows i h) (b.above i l)

      below : (i : ℕ) → i < n → i < length spans → (pos scale *ℤ get_or state.numerators i (pos 0)) ≤ℤ (high i *ℤ pos state.denominator)
      below i h l =
          subst (λ (high : ℤ). (pos scale *ℤ get_or state.numerators i (pos 0)) ≤ℤ (high *ℤ pos state.denominator)) (highs i h) (b.below i l)

-- the exact states: the first is the one that is started from, and each next one is the exact sum, at the whole step, of its own degree in the list
pub state_first : (terms : List Term) (H : ℤ) (degrees : List ℕ) (state : State) → state_after terms H degrees state 0 ≡ state
unfolding state_after
state_first terms H degrees state = refl

pub state_next : (terms : List Term) (H : ℤ) (degrees : List ℕ) (state : State) (j : ℕ) → state_after terms H degrees state (suc j) ≡ exact_sum terms H scale (get_or degrees j 0) (state_after terms H degrees state j)
unfolding state_after
state_next terms H degrees state j = refl

-- ---- the rows in the buffer, and the start

module _ (n count : ℕ) (buffer : List ℤ) (j : ℕ) (h : j < count) where
  abbrev row : Row
  row = get_or (rows_in n count buffer) j no_row

  row_is : row ≡ row_in n buffer j
  unfolding rows_in
  row_is = get_or_tabulate count (row_in n buffer) no_row j h

  degree_is : row.degree ≡ degree_at n buffer j
  unfolding row_in
  degree_is = ap (λ (row : Row). row.degree) row_is

  balls_wide : length row.balls ≡ n
  unfolding row_in
  balls_wide = ap (λ (row : Row). length row.balls) row_is ∙ length_tabulate n _

  spans_wide : length row.spans ≡ n
  unfolding row_in
  spans_wide = ap (λ (row : Row). length row.spans) row_is ∙ length_tabulate n _

  value_is : (i : ℕ) → i < n → (get_or row.balls i no_ball).value ≡ value_at n buffer j i
  unfolding row_in
  value_is i l = ap (λ (row : Row). (get_or row.balls i no_ball).value) row_is ∙ ap (λ (ball : Ball). ball.value) (get_or_tabulate n _ no_ball i l)

  radius_is : (i : ℕ) → i < n → (get_or row.balls i no_ball).radius ≡ radius_at n buffer j i
  unfolding row_in
  radius_is i l = ap (λ (row : Row). (get_or row.balls i no_ball).radius) row_is ∙ ap (λ (ball : Ball). ball.radius) (get_or_tabulate n _ no_ball i l)

  low_is : (i : ℕ) → i < n → (get_or row.spans i no_span).low ≡ low_at n buffer j i
  unfolding row_in
  low_is i l = ap (λ (row : Row). (get_or row.spans i no_span).low) row_is ∙ ap (λ (span : Span). span.low) (get_or_tabulate n _ no_span i l)

  high_is : (i : ℕ) → i < n → (get_or row.spans i no_span).high ≡ high_at n buffer j i
  unfolding row_in
  high_is i l = ap (λ (row : Row). (get_or row.spans i no_span).high) row_is ∙ ap (λ (span : Span). span.high) (get_or_tabulate n _ no_span i l)

-- the values and radii that a step starts from
module _ (sheet : Sheet) (buffer : List ℤ) where
  start_ball_lem : (i : ℕ) → i < sheet.head.n → get_or (starts_of sheet) i no_ball ≡ start_ball (get_or sheet.quantities i no_quantity)
  unfolding starts_of
  start_ball_lem i h = get_or_tabulate sheet.head.n _ no_ball i h

  starts_wide : length (starts_of sheet) ≡ sheet.head.n
  unfolding starts_of
  starts_wide = length_tabulate sheet.head.n _

  near_start : {state : State} → Near sheet.head.n state (value_before sheet buffer 0) (radius_before sheet buffer 0) → LiesWithin (starts_of sheet) state
  unfolding value_before radius_before start_ball
  near_start near =
      within_asks (starts_of sheet) sheet.head.n (value_before sheet buffer 0) (radius_before sheet buffer 0) starts_wide (λ i h. ap (λ (ball : Ball). ball.value) (start_ball_lem i h)) (λ i h. ap (λ (ball : Ball). ball.radius) (start_ball_lem i h)) near

  near_before : (count j : ℕ) → j < count → {state : State} → Near sheet.head.n state (value_before sheet buffer j) (radius_before sheet buffer j) → LiesWithin (start_of (starts_of sheet) (rows_in sheet.head.n count buffer) j) state
  unfolding start_of value_before radius_before
  near_before count zero h near = near_start near
  near_before count (suc j) h near =
      let l : j < count = omega arith in
      within_asks _ sheet.head.n (value_at sheet.head.n buffer j) (radius_at sheet.head.n buffer j) (balls_wide sheet.head.n count buffer j l) (value_is sheet.head.n count buffer j l) (radius_is sheet.head.n count buffer j l) near

-- ---- the promise

module _ {sheet : Sheet} {run : Run} {before after : List ℤ} (left : Leaves sheet run before after) where
  abbrev n : ℕ
  n = sheet.head.n

  abbrev count : ℕ
  count = length run.rows

  length_rows : length (rows_in n count after) ≡ count
  unfolding rows_in
  length_rows = length_tabulate count (row_in n after)

  -- the buffer holds the run's rows from the front, every other place as it was
  pub leaves_written : after ≡ written run.rows before
  leaves_written = left.buffer

  -- Demand 3: from every exact state within the start's radii and by any degrees, one for each row and none lower than the row's, the exact state of each
  -- row, by the sheet's terms as read, lies within the row's radii of its values; and no radius is over the tolerance.
  pub leaves_trusted : (state : State) → Near n state (value_before sheet after 0) (radius_before sheet after 0) →
      (degrees : List ℕ) → length degrees ≡ count → ((j : ℕ) → j < count → degree_at n after j ≤ get_or degrees j 0) →
      (j : ℕ) → j < count →
      Near n (state_after (terms_of sheet) sheet.head.step degrees state (suc j)) (value_at n after j) (radius_at n after j) ×
      ((i : ℕ) → i < n → radius_at n after j i ≤ sheet.head.tol)
  unfolding TrustedOf Trusted
  leaves_trusted state near degrees each lower j h =
      let rows-wide = balls_wide n count after j h in
      let claim = left.trusted state (near_start sheet after near) degrees (record { each = each ∙ sym length_rows; lower = λ k l. let here : k < count = omega (arith, length_rows) in rw (degree_is n count after k here) (lower k here) }) j (omega (arith, length_rows)) in
      (within_says _ n (value_at n after j) (radius_at n after j) rows-wide (value_is n count after j h) (radius_is n count after j h) claim.0, λ i l. rw (radius_is n count after j h i l) at (claim.1.within i (omega (arith, rows-wide))))

  -- The water between the rows: from every exact state within the radii that a row's step started from, at every fraction u ÷ w of the step from 0 to 1 and
  -- for every degree no lower than the row's, the exact sum by the sheet's terms as read is no lower than the row's low and no higher than its high.
  pub leaves_spanned : (j : ℕ) → j < count →
      (state : State) → Near n state (value_before sheet after j) (radius_before sheet after j) →
      (u w : ℕ) → 0 < w → u ≤ w → (K : ℕ) → degree_at n after j ≤ K →
      Between n (exact_sum (terms_of sheet) (sheet.head.step *ℤ pos u) (scale * w) K state) (low_at n after j) (high_at n after j)
  unfolding SpannedOf Spanned
  leaves_spanned j h state near u w positive part K lower =
      between_says _ n (low_at n after j) (high_at n after j) (spans_wide n count after j h) (low_is n count after j h) (high_is n count after j h) (left.spanned j (omega (arith, length_rows)) state (near_before sheet after count j h near) u w positive part K (rw (degree_is n count after j h) lower))
