-- A row by its own places: what stands there is what stands in the buffer, and its parts are slices of it.
use Prim.Native.Nat.{ℕ, ◌+◌, ◌-◌, ◌*◌, ◌<◌, ◌≤◌}
use mathlib.Core.List.{List}
use mathlib.Core.Path.{◌≡◌, sym, ap, ◌∙◌}
use native.Mathlib.Omega.{arith}
use lib.IntN.{ℤ, pos, nat_abs}
use lib.ListN.{length, get_or, take, drop, length-take, length-drop}
use Rattle.std.proofs.lemmas.List.{get_or-take, get_or-drop}
use Rattle.model.specs.Step.{no_ball, no_span}
use Rattle.model.specs.Rows.{parts, values_part, radii_part, lows_part, highs_part, width, degree_place, part_place, row_in}
use Rattle.rows.specs.Room.{part_number}
use Rattle.rows.specs.View.{part_in}
use Rattle.rows.specs.declared.view.Part.{Part}
use Rattle.rows.specs.declared.view.Part.TheVariants.{Values, Radii, Lows, Highs}
use Rattle.ranges.proofs.Ranges.{get_or_tabulate, tabulate_equal, tabulate_is}
use Rattle.rows.proofs.Places.{part_fits, ball_is, span_is}

-- a part's number is that of a part
pub number_lt : (part : Part) → part_number part < parts
number_lt Values = omega arith
number_lt Radii = omega arith
number_lt Lows = omega arith
number_lt Highs = omega arith

-- so many places of a list, from one on
pub places_taken : (numbers : List ℤ) (at count k : ℕ) → k < count → get_or (take (at + count - at) (drop at numbers)) k (pos 0) ≡ get_or numbers (at + k) (pos 0)
places_taken numbers at count k h =
    let long : at + count - at ≡ count = omega arith in
    rw (long, get_or-take, get_or-drop)

-- ---- a row's places, and the buffer in which it is row j

module _ (n j : ℕ) (buffer places : List ℤ) (stand : (k : ℕ) → k < width n → get_or places k (pos 0) ≡ get_or buffer (degree_place n j + k) (pos 0)) where
  number_stands : (p i : ℕ) → p < parts → i < n → get_or places (part_place n 0 p i) (pos 0) ≡ get_or buffer (part_place n j p i) (pos 0)
  number_stands p i h lt =
      let at : degree_place n j + part_place n 0 p i ≡ part_place n j p i = omega arith in
      stand (part_place n 0 p i) (omega (arith, part_fits n 0 p h)) ∙ ap (λ (k : ℕ). get_or buffer k (pos 0)) at

  degree_stands : get_or places (degree_place n 0) (pos 0) ≡ get_or buffer (degree_place n j) (pos 0)
  unfolding width
  degree_stands =
      let at : degree_place n j + degree_place n 0 ≡ degree_place n j = omega arith in
      stand (degree_place n 0) (omega arith) ∙ ap (λ (k : ℕ). get_or buffer k (pos 0)) at

  pub row_stands : row_in n places 0 ≡ row_in n buffer j
  unfolding row_in
  row_stands = λ t. record {
    degree = nat_abs (degree_stands t);
    balls = tabulate_equal n _ _ (λ i h. λ u. record { value = number_stands values_part i (omega arith) h u; radius = nat_abs (number_stands radii_part i (omega arith) h u) }) t;
    spans = tabulate_equal n _ _ (λ i h. λ u. record { low = number_stands lows_part i (omega arith) h u; high = number_stands highs_part i (omega arith) h u }) t;
  }

  pub part_stands : (p : ℕ) → p < parts → part_in n places 0 p ≡ part_in n buffer j p
  unfolding part_in
  part_stands p h = tabulate_equal n _ _ (λ i lt. number_stands p i h lt)

-- ---- a part is a slice of the row

module _ (n p : ℕ) (places : List ℤ) where
  pub part_taken : {at : ℕ} → at ≡ 1 + p * n → at + n ≤ length places → take (at + n - at) (drop at places) ≡ part_in n places 0 p
  unfolding part_in
  part_taken {at} is room =
      sym (tabulate_is n _ (pos 0) _ (rw (length-take, length-drop) (omega arith)) (λ i h. let place : part_place n 0 p i ≡ at + i = omega arith in ap (λ (k : ℕ). get_or places k (pos 0)) place ∙ sym (places_taken places at n i h)))

  pub number_read : (i : ℕ) → i < n → get_or (part_in n places 0 p) i (pos 0) ≡ get_or places (part_place n 0 p i) (pos 0)
  unfolding part_in
  number_read i h = get_or_tabulate n _ (pos 0) i h

-- ---- a ball and a span, by the numbers of two parts

module _ (n : ℕ) (places : List ℤ) (i : ℕ) (h : i < n) where
  -- the number of quantity i of part p
  abbrev number : ℕ → ℤ
  number p = get_or (part_in n places 0 p) i (pos 0)

  pub ball_read : record { value = number values_part; radius = nat_abs (number radii_part) } ≡ get_or (row_in n places 0).balls i no_ball
  ball_read =
      rw (number_read n values_part places i h, number_read n radii_part places i h) (sym (ball_is n 0 places i h))

  pub span_read : record { low = number lows_part; high = number highs_part } ≡ get_or (row_in n places 0).spans i no_span
  span_read =
      rw (number_read n lows_part places i h, number_read n highs_part places i h) (sym (span_is n 0 places i h))
