-- The places of a row: where they end, and what stands there once a row is stored.
use Prim.Native.Nat.{ℕ, suc, ◌+◌, ◌≤◌, ◌<◌}
use mathlib.Core.Path.{◌≡◌, sym, ap, ◌∙◌}
use mathlib.Core.List.{List, ◌∷◌, ◌++◌, map, flatten, append-nil}
use native.Mathlib.Nat.{mul-le-mul_right, suc-mul}
use native.Mathlib.Numerals.{add-one}
use native.Mathlib.Omega.{arith}
use lib.IntN.{ℤ, pos, nat_abs}
use lib.ListN.{length, get_or, set, take, length-take, length-map}
use lib.Seq.{sets}
use Rattle.std.proofs.lemmas.List.{get_or-take}
use Rattle.ranges.specs.Range.{tabulate}
use Rattle.model.specs.Step.{no_ball, no_span}
use Rattle.model.specs.Rows.{parts, values_part, radii_part, lows_part, highs_part, width, degree_place, part_place, row_parts, row_places, balls_of, spans_of, row_in}
use Rattle.model.specs.declared.Ball.{Ball}
use Rattle.model.specs.declared.Span.{Span}
use Rattle.rows.specs.Room.{HasRow, HasRows}
use Rattle.ranges.proofs.Ranges.{get_or_tabulate, length_tabulate, map_tabulate, tabulate_is}
use Rattle.ranges.proofs.Stores.{sets_append}

-- a part ends where the row does, or before
pub part_fits : (n j p : ℕ) → p < parts → part_place n j p n ≤ degree_place n j + width n
unfolding width
part_fits n j p h = omega (arith, mul-le-mul_right n h, suc-mul p n)

-- a buffer that has the first rows has each of them
pub has_row : {n count : ℕ} {rows : List ℤ} (j : ℕ) → j < count → HasRows n count rows → HasRow n j rows
has_row {n} j h held = record { few = held.few; room = omega (arith, held.room, mul-le-mul_right (width n) h, suc-mul j (width n)) }

-- so many balls and spans are the first n
pub length_balls : (n : ℕ) (balls : List Ball) → length (balls_of n balls) ≡ n
unfolding balls_of
length_balls n balls = length_tabulate n _

pub length_spans : (n : ℕ) (spans : List Span) → length (spans_of n spans) ≡ n
unfolding spans_of
length_spans n spans = length_tabulate n _

-- of things, each with a number: the first n numbers are those of the first n things
pub front_of : {A : Type 0} (none : A) (number : A → ℤ) (n : ℕ) (things : List A) (numbers : List ℤ) → n ≤ length numbers → ((i : ℕ) → i < n → get_or numbers i (pos 0) ≡ number (get_or things i none)) → take n numbers ≡ map number (tabulate n (λ i. get_or things i none))
front_of none number n things numbers room each =
    sym (tabulate_is n _ (pos 0) (take n numbers) (rw length-take (omega arith)) (λ i h. sym (each i h) ∙ sym (get_or-take n numbers i (pos 0) h)))
    ∙ sym (map_tabulate n (λ i. get_or things i none) number)

one_after_another : (buffer : List ℤ) (at : ℕ) (first : ℤ) (second third fourth fifth : List ℤ) {n : ℕ} → length second ≡ n → length third ≡ n → length fourth ≡ n → sets (sets (sets (sets (set buffer at first) (at + 1) second) (at + 1 + n) third) (at + 1 + n + n) fourth) (at + 1 + n + n + n) fifth ≡ sets buffer at (first ∷ (second ++ (third ++ (fourth ++ fifth))))
one_after_another buffer at first second third fourth fifth a b d =
    rw (add-one at, sets_append (set buffer at first) (suc at) second (third ++ (fourth ++ fifth)), a, sets_append _ _ third (fourth ++ fifth), b, sets_append _ _ fourth fifth, d)

-- the degree and the parts, stored one after the other
pub row_stored : (buffer : List ℤ) (n j degree : ℕ) (balls : List Ball) (spans : List Span) → sets (sets (sets (sets (set buffer (degree_place n j) (pos degree)) (part_place n j values_part 0) (map (λ ball. ball.value) (balls_of n balls))) (part_place n j radii_part 0) (map (λ ball. pos ball.radius) (balls_of n balls))) (part_place n j lows_part 0) (map (λ span. span.low) (spans_of n spans))) (part_place n j highs_part 0) (map (λ span. span.high) (spans_of n spans)) ≡ sets buffer (degree_place n j) (row_places (record { degree = degree; balls = balls_of n balls; spans = spans_of n spans }))
unfolding row_places row_parts flatten
row_stored buffer n j degree balls spans =
    let first : part_place n j values_part 0 ≡ degree_place n j + 1 = omega arith in
    let second : part_place n j radii_part 0 ≡ degree_place n j + 1 + n = omega arith in
    let third : part_place n j lows_part 0 ≡ degree_place n j + 1 + n + n = omega arith in
    let fourth : part_place n j highs_part 0 ≡ degree_place n j + 1 + n + n + n = omega arith in
    rw (first, second, third, fourth, append-nil) (one_after_another buffer (degree_place n j) (pos degree) (map (λ ball. ball.value) (balls_of n balls)) (map (λ ball. pos ball.radius) (balls_of n balls)) (map (λ span. span.low) (spans_of n spans)) (map (λ span. span.high) (spans_of n spans)) (rw length-map (length_balls n balls)) (rw length-map (length_balls n balls)) (rw length-map (length_spans n spans)))

-- ---- what is read there

module _ (n j : ℕ) (rows : List ℤ) (i : ℕ) (h : i < n) where
  pub ball_is : get_or (row_in n rows j).balls i no_ball ≡ record { value = get_or rows (part_place n j values_part i) (pos 0); radius = nat_abs (get_or rows (part_place n j radii_part i) (pos 0)) }
  unfolding row_in
  ball_is = get_or_tabulate n _ no_ball i h

  pub span_is : get_or (row_in n rows j).spans i no_span ≡ record { low = get_or rows (part_place n j lows_part i) (pos 0); high = get_or rows (part_place n j highs_part i) (pos 0) }
  unfolding row_in
  span_is = get_or_tabulate n _ no_span i h

  pub low_read : (get_or (row_in n rows j).spans i no_span).low ≡ get_or rows (part_place n j lows_part i) (pos 0)
  low_read = ap (λ (span : Span). span.low) span_is

  pub high_read : (get_or (row_in n rows j).spans i no_span).high ≡ get_or rows (part_place n j highs_part i) (pos 0)
  high_read = ap (λ (span : Span). span.high) span_is
