-- The ends of a row's enclosures lie between its lows and highs: value less radius is no lower than the low, value and radius no higher than the high. So it
-- is of every row that a passage writes.
use Prim.Native.Nat.{ℕ, suc, ◌+◌, ◌≤◌, ◌<◌}
use mathlib.Core.Path.{◌≡◌}
use mathlib.Core.List.{List}
use native.Mathlib.Omega.{arith}
use lib.IntN.{ℤ, pos, neg_ℤ, nat_abs, ◌+ℤ◌, ◌-ℤ◌}
use lib.ListN.{length, get_or}
use lib.Signed.{◌≤ℤ◌}
use Rattle.rounding.proofs.Integers.{abs_parts, add_parts, neg_parts, pos_parts, parts_le}
use Rattle.ranges.specs.Range.{sum, sum_ℤ}
use Rattle.model.specs.Sheet.{terms_of}
use Rattle.model.specs.LikeTerms.{gathered}
use Rattle.model.specs.Step.{no_ball, reach, greatest, ratio, tail_at, degree, Coefficients, coefficient, coefficients_to, no_span, Row, new_ball, step_reach, new_span, new_row, step_row}
use Rattle.model.specs.declared.Ball.{Ball}
use Rattle.model.specs.declared.Span.{Span}
use Rattle.model.specs.Passage.{moves, advance, refused, passage}
use Rattle.model.specs.declared.Sheet.{Sheet}
use Rattle.model.specs.declared.Term.{Term}
use Rattle.ranges.proofs.Lists.{Each, none}
use Rattle.laws.proofs.Passages.RowsOfPassage.{run_each, passage_either}
use Rattle.ranges.proofs.Ranges.{sum_first, sum_plus, sum_ℤ_first, abs_sum_ℤ_le, get_or_tabulate}
use Rattle.laws.proofs.Steps.StepTaken.{step_taken, quantities_stay}

pub record EndsBetween (ball : Ball) (span : Span) : Type 0 where
  pub above : span.low ≤ℤ (ball.value -ℤ pos ball.radius)
  pub below : (ball.value +ℤ pos ball.radius) ≤ℤ span.high

-- of every quantity of a row
abbrev pub AllEndsBetween : Row → Type 0
AllEndsBetween row = (i : ℕ) → i < length row.balls → EndsBetween (get_or row.balls i no_ball) (get_or row.spans i no_span)

-- ---- a new row: the reach is the radius and the magnitudes of c_1..c_d, and the value is no further from the start than these come to

-- from a, moved by r, which is at most m, an end at a distance of e is at most e + m away
low_end : (a r : ℤ) (e m : ℕ) → nat_abs r ≤ m → (a -ℤ pos (e + m)) ≤ℤ (a +ℤ r -ℤ pos e)
low_end a r e m h =
    parts_le (a -ℤ pos (e + m)) (a +ℤ r -ℤ pos e) (omega (arith, abs_parts r, add_parts a (neg_ℤ (pos (e + m))), neg_parts (pos (e + m)), pos_parts (e + m), add_parts a r, add_parts (a +ℤ r) (neg_ℤ (pos e)), neg_parts (pos e), pos_parts e))

high_end : (a r : ℤ) (e m : ℕ) → nat_abs r ≤ m → (a +ℤ r +ℤ pos e) ≤ℤ (a +ℤ pos (e + m))
high_end a r e m h =
    parts_le (a +ℤ r +ℤ pos e) (a +ℤ pos (e + m)) (omega (arith, abs_parts r, add_parts a (pos (e + m)), pos_parts (e + m), add_parts a r, add_parts (a +ℤ r) (pos e), pos_parts e))

module _ (table : Coefficients) (d tail i : ℕ) where
  -- what c_1..c_d come to, and their magnitudes
  moved : ℤ
  moved = sum_ℤ d (λ k. (coefficient table (suc k) i).value)

  magnitudes : ℕ
  magnitudes = sum d (λ k. nat_abs (coefficient table (suc k) i).value)

  value_is : (new_ball table d tail i).value ≡ (coefficient table 0 i).value +ℤ moved
  unfolding new_ball moved
  value_is = sum_ℤ_first d (λ k. (coefficient table k i).value)

  reach_is : step_reach table d tail i ≡ (new_ball table d tail i).radius + magnitudes
  unfolding new_ball step_reach reach magnitudes
  reach_is =
      omega (arith, sum_first d (λ k. (coefficient table k i).radius), sum_plus d (λ k. nat_abs (coefficient table (suc k) i).value) (λ k. (coefficient table (suc k) i).radius))

  no_further : nat_abs moved ≤ magnitudes
  unfolding moved magnitudes
  no_further = abs_sum_ℤ_le d (λ k. (coefficient table (suc k) i).value)

  new_ends_between : EndsBetween (new_ball table d tail i) (new_span table d tail i)
  unfolding new_span
  new_ends_between =
      let start = (coefficient table 0 i).value in
      let radius = (new_ball table d tail i).radius in
      record { above = rw (value_is, reach_is) (low_end start moved radius magnitudes no_further); below = rw (value_is, reach_is) (high_end start moved radius magnitudes no_further) }

-- ---- a step's row, and a passage's rows

step_ends_between : (terms : List Term) (H : ℤ) (limit : ℕ) (balls : List Ball) (i : ℕ) → i < length balls → EndsBetween (get_or (step_row terms H limit balls).balls i no_ball) (get_or (step_row terms H limit balls).spans i no_span)
unfolding step_row new_row
step_ends_between terms H limit balls i h =
    let G = greatest balls in
    let q = ratio terms H (length balls) G in
    let d = degree G q limit in
    let table = coefficients_to terms H balls d in
    rw (get_or_tabulate (length balls) (new_ball table d (tail_at G q d)) no_ball i h, get_or_tabulate (length balls) (new_span table d (tail_at G q d)) no_span i h) (new_ends_between table d (tail_at G q d) i)

pub passage_ends_between : (sheet : Sheet) (places : ℕ) → Each AllEndsBetween (passage sheet places).rows
unfolding refused
passage_ends_between sheet places = passage_either sheet places (λ run. Each AllEndsBetween run.rows) (λ r. none) (λ e room. run_each sheet AllEndsBetween taken)
  where
    taken : (balls : List Ball) (row : Row) → length balls ≡ sheet.head.n → advance (gathered (terms_of sheet)) sheet.head.step sheet.head.tail sheet.head.tol balls ≡ moves row → AllEndsBetween row
    taken balls row l e i h =
        rw (step_taken _ _ _ _ balls e).is_row (step_ends_between (gathered (terms_of sheet)) sheet.head.step sheet.head.tail balls i (rw (quantities_stay _ _ _ _ balls e) at h))
