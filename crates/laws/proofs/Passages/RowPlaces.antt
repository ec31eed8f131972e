-- Rows in a lent buffer: the places that they take, that they can be read back from there, and that every other place is unchanged. One law says
-- where quantity i of part p stands.
use Prim.Native.Nat.{ℕ, zero, suc, ◌+◌, ◌-◌, ◌*◌, ◌≤◌, ◌<◌}
use mathlib.Core.Path.{◌≡◌, refl, sym, ap, ◌∙◌}
use mathlib.Core.List.{List, [], ◌∷◌, ◌++◌, flatten, append_assoc, append-nil}
use native.Mathlib.Nat.{add-zero, zero-add, zero-mul, suc-mul, mul-le-mul, mul-le-mul_right}
use native.Mathlib.Omega.{arith}
use lib.IntN.{ℤ, pos, nat_abs}
use lib.ListN.{length, get_or, drop, length-append, length-map, length-drop, get_or-append, get_or-map}
use lib.Seq.{sets, sets-eq, get_or-append-add, get_or-drop}
use Rattle.model.specs.Sheet.{most_quantities, most_steps}
use Rattle.model.specs.Step.{no_ball, no_span, Row, no_row}
use Rattle.model.specs.Rows.{balls_of, spans_of, parts, values_part, radii_part, lows_part, highs_part, width, degree_place, part_place, row_parts, row_places, places, written, row_in, rows_in}
use Rattle.model.specs.declared.Ball.{Ball}
use Rattle.model.specs.declared.Span.{Span}
use Rattle.ranges.proofs.Ranges.{tabulate_is, length_tabulate}
use Rattle.ranges.proofs.Lists.{Each, none, entry_first, each_at}
use Rattle.ranges.proofs.Stores.{sets_append}

-- ---- balls and spans in their arrays

pub length_balls : (n : ℕ) (balls : List Ball) → length (balls_of n balls) ≡ n
unfolding balls_of
length_balls n balls = length_tabulate n _

pub length_spans : (n : ℕ) (spans : List Span) → length (spans_of n spans) ≡ n
unfolding spans_of
length_spans n spans = length_tabulate n _

-- ---- parts, one after another

-- so many parts of n places each
data Parts (n : ℕ) : ℕ → List (List ℤ) → Type 0 where
  no_part : Parts n 0 []
  part_first : {part : List ℤ} {count : ℕ} {later : List (List ℤ)} → length part ≡ n → Parts n count later → Parts n (suc count) (part ∷ later)

parts_length : {n count : ℕ} {all : List (List ℤ)} → Parts n count all → length (flatten all) ≡ count * n
unfolding flatten
parts_length {n} no_part = sym (zero-mul n)
parts_length {n} (part_first {part = part} {count = count} {later = later} h w) =
    omega (arith, length-append part (flatten later), h, parts_length w, suc-mul count n)

-- quantity i of part p
part_entry : {n count : ℕ} {all : List (List ℤ)} → Parts n count all → (p i : ℕ) → p < count → i < n → get_or (flatten all) (p * n + i) (pos 0) ≡ get_or (get_or all p []) i (pos 0)
unfolding flatten
part_entry no_part p i h k = absurd (omega arith)
part_entry {n} (part_first {part = part} {later = later} l w) zero i h k =
    let e : 0 * n + i ≡ i = omega (arith, zero-mul n) in
    rw e (get_or-append part (flatten later) (pos 0) i (omega arith))
part_entry {n} (part_first {part = part} {later = later} l w) (suc p) i h k =
    let e : suc p * n + i ≡ length part + (p * n + i) = omega (arith, l, suc-mul p n) in
    rw e (get_or-append-add part (flatten later) (p * n + i) (pos 0) ∙ part_entry w p i (omega arith) k)

-- a row of n quantities
pub record Quantities (n : ℕ) (row : Row) : Type 0 where
  pub balls : length row.balls ≡ n
  pub spans : length row.spans ≡ n

row_parts_lem : (row : Row) {n : ℕ} → Quantities n row → Parts n parts (row_parts row)
unfolding row_parts
row_parts_lem row h =
    part_first (length-map row.balls _ ∙ h.balls) (part_first (length-map row.balls _ ∙ h.balls) (part_first (length-map row.spans _ ∙ h.spans) (part_first (length-map row.spans _ ∙ h.spans) no_part)))

-- ---- rows of n quantities

abbrev pub Wide : ℕ → List Row → Type 0
Wide n = Each (Quantities n)

-- ---- the places of rows

row_length : (row : Row) {n : ℕ} → Quantities n row → length (row_places row) ≡ width n
unfolding row_places width
row_length row h = omega (arith, parts_length (row_parts_lem row h))

pub places_length : {n : ℕ} {rows : List Row} → Wide n rows → length (places rows) ≡ length rows * width n
unfolding places
places_length {n} none = sym (zero-mul (width n))
places_length {n} (entry_first {x = row} {xs = rows} h w) =
    omega (arith, length-append (row_places row) (places rows), row_length row h, places_length w, suc-mul (length rows) (width n))

-- ---- rows read back

-- place k of row j
row_place : {n : ℕ} {rows : List Row} → Wide n rows → (rest : List ℤ) (j k : ℕ) → j < length rows → k < width n → get_or (places rows ++ rest) (degree_place n j + k) (pos 0) ≡ get_or (row_places (get_or rows j no_row)) k (pos 0)
unfolding places
row_place none rest j k h l = absurd (omega arith)
row_place {n} (entry_first {x = row} {xs = rows} wide w) rest zero k h l =
    let front : degree_place n 0 + k ≡ k = omega (arith, zero-mul (width n)) in
    rw (append_assoc (row_places row) (places rows) rest, front) (get_or-append (row_places row) (places rows ++ rest) (pos 0) k (omega (arith, row_length row wide)))
row_place {n} (entry_first {x = row} {xs = rows} wide w) rest (suc j) k h l =
    let behind : degree_place n (suc j) + k ≡ length (row_places row) + (degree_place n j + k) = omega (arith, row_length row wide, suc-mul j (width n)) in
    rw (append_assoc (row_places row) (places rows) rest, behind) (get_or-append-add (row_places row) (places rows ++ rest) (degree_place n j + k) (pos 0) ∙ row_place w rest j k (omega arith) l)

module _ {n : ℕ} {rows : List Row} (w : Wide n rows) (buffer : List ℤ) (j : ℕ) (h : j < length rows) where
  degree_written : get_or (written rows buffer) (degree_place n j) (pos 0) ≡ pos (get_or rows j no_row).degree
  unfolding written row_places width
  degree_written = rw add-zero at (row_place w (drop (length (places rows)) buffer) j 0 h (omega arith))

  part_written : (p i : ℕ) → p < parts → i < n → get_or (written rows buffer) (part_place n j p i) (pos 0) ≡ get_or (get_or (row_parts (get_or rows j no_row)) p []) i (pos 0)
  unfolding written row_places width
  part_written p i l k =
      let place : part_place n j p i ≡ degree_place n j + suc (p * n + i) = omega arith in
      rw place (row_place w (drop (length (places rows)) buffer) j (suc (p * n + i)) h (omega (arith, mul-le-mul_right n l, suc-mul p n)) ∙ part_entry (row_parts_lem (get_or rows j no_row) (each_at no_row w j h)) p i l k)

  pub value_written : (i : ℕ) → i < n → get_or (written rows buffer) (part_place n j values_part i) (pos 0) ≡ (get_or (get_or rows j no_row).balls i no_ball).value
  unfolding row_parts no_ball
  value_written i k = part_written values_part i (omega arith) k ∙ get_or-map (λ ball. ball.value) (get_or rows j no_row).balls i no_ball

  pub radius_written : (i : ℕ) → i < n → get_or (written rows buffer) (part_place n j radii_part i) (pos 0) ≡ pos (get_or (get_or rows j no_row).balls i no_ball).radius
  unfolding row_parts no_ball
  radius_written i k = part_written radii_part i (omega arith) k ∙ get_or-map (λ ball. pos ball.radius) (get_or rows j no_row).balls i no_ball

  pub low_written : (i : ℕ) → i < n → get_or (written rows buffer) (part_place n j lows_part i) (pos 0) ≡ (get_or (get_or rows j no_row).spans i no_span).low
  unfolding row_parts no_span
  low_written i k = part_written lows_part i (omega arith) k ∙ get_or-map (λ span. span.low) (get_or rows j no_row).spans i no_span

  pub high_written : (i : ℕ) → i < n → get_or (written rows buffer) (part_place n j highs_part i) (pos 0) ≡ (get_or (get_or rows j no_row).spans i no_span).high
  unfolding row_parts no_span
  high_written i k = part_written highs_part i (omega arith) k ∙ get_or-map (λ span. span.high) (get_or rows j no_row).spans i no_span

  pub row_written : row_in n (written rows buffer) j ≡ get_or rows j no_row
  unfolding row_in
  row_written =
      λ t. record {
        degree = nat_abs (degree_written t);
        balls = tabulate_is n _ no_ball (get_or rows j no_row).balls (each_at no_row w j h).balls (λ i k. λ t. record { value = value_written i k t; radius = nat_abs (radius_written i k t) }) t;
        spans = tabulate_is n _ no_span (get_or rows j no_row).spans (each_at no_row w j h).spans (λ i k. λ t. record { low = low_written i k t; high = high_written i k t }) t;
      }

pub rows_in_written : {n : ℕ} {rows : List Row} → Wide n rows → (buffer : List ℤ) → rows_in n (length rows) (written rows buffer) ≡ rows
unfolding rows_in
rows_in_written {n} {rows} w buffer =
    tabulate_is (length rows) (row_in n (written rows buffer)) no_row rows refl (λ j h. row_written w buffer j h)

-- ---- the places behind the rows

pub written_length : (rows : List Row) (buffer : List ℤ) → length (places rows) ≤ length buffer → length (written rows buffer) ≡ length buffer
unfolding written
written_length rows buffer h = simp (length-append, length-drop) (omega arith)

pub written_past : (rows : List Row) (buffer : List ℤ) (i : ℕ) (z : ℤ) → length (places rows) ≤ i → get_or (written rows buffer) i z ≡ get_or buffer i z
unfolding written
written_past rows buffer i z h =
    let e : i ≡ length (places rows) + (i - length (places rows)) = omega arith in
    rw e (get_or-append-add (places rows) (drop (length (places rows)) buffer) (i - length (places rows)) z ∙ get_or-drop (length (places rows)) buffer (i - length (places rows)) z)

-- ---- one row more

pub places_append : (rows later : List Row) → places (rows ++ later) ≡ places rows ++ places later
unfolding places
places_append [] later = refl
places_append (row ∷ rows) later = rw (places_append rows later, append_assoc (row_places row) (places rows) (places later))

-- the buffer after so many rows is what storing their places from the front leaves
pub written_is_sets : (rows : List Row) (buffer : List ℤ) → length (places rows) ≤ length buffer → written rows buffer ≡ sets buffer 0 (places rows)
unfolding written
written_is_sets rows buffer room =
    sym (sets-eq (places rows) buffer 0 (omega arith) ∙ ap (λ (k : ℕ). places rows ++ drop k buffer) (zero-add (length (places rows))))

-- one row more goes behind the places of the rows before it
pub sets_one_row_more : (buffer : List ℤ) (rows : List Row) (row : Row) → sets buffer 0 (places (rows ++ (row ∷ []))) ≡ sets (sets buffer 0 (places rows)) (length (places rows)) (row_places row)
unfolding places
sets_one_row_more buffer rows row =
    rw (places_append rows (row ∷ []), append-nil (row_places row), sets_append buffer 0 (places rows) (row_places row), zero-add (length (places rows)))

-- ---- room for all

-- no passage takes more places than the most steps of the most quantities
pub rows_fit : (rows n : ℕ) → rows ≤ most_steps → n ≤ most_quantities → rows * width n ≤ most_steps * width most_quantities
unfolding width
rows_fit rows n h k =
    let row : width n ≤ width most_quantities = omega arith in
    mul-le-mul h row
