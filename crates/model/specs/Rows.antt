-- Rows as the code holds them: one row's balls and spans in arrays, and rows one after another in a lent buffer.
use Rattle.std.specs.Prelude.{ℕ, ◌+◌, ◌*◌, ℤ, pos, nat_abs, length, get_or, drop}
use mathlib.Core.List.{List, [], ◌∷◌, ◌++◌, map, flatten}
use Rattle.ranges.specs.Range.{tabulate}
use Rattle.model.specs.Sheet.{most_quantities, padded}
use Rattle.model.specs.Step.{no_ball, no_span, Row}
use Rattle.model.specs.declared.Ball.{Ball}
use Rattle.model.specs.declared.Span.{Span}

-- ---- balls and spans in their arrays

-- the first n balls
unfoldable pub balls_of : ℕ → List Ball → List Ball
balls_of n balls = tabulate n (λ i. get_or balls i no_ball)

-- balls in their array, with 0 past them
unfoldable pub laid_out : List Ball → List Ball
laid_out = padded most_quantities no_ball

-- the first n spans
unfoldable pub spans_of : ℕ → List Span → List Span
spans_of n spans = tabulate n (λ i. get_or spans i no_span)

-- spans in their array, with 0 past them
unfoldable pub spans_laid_out : List Span → List Span
spans_laid_out = padded most_quantities no_span

-- none
unfoldable pub no_spans : List Span
no_spans = spans_laid_out []

-- ---- a row's places: the degree, and then the parts, each of n places

-- how many parts stand behind the degree
abbrev pub parts : ℕ
parts = 4

-- the part of the values ..
abbrev pub values_part : ℕ
values_part = 0

-- .. that of the radii ..
abbrev pub radii_part : ℕ
radii_part = 1

-- .. that of the lows ..
abbrev pub lows_part : ℕ
lows_part = 2

-- .. and that of the highs
abbrev pub highs_part : ℕ
highs_part = 3

-- how many places a row of n quantities takes
unfoldable pub width : ℕ → ℕ
width n = parts * n + 1

-- the place of row j's degree, the rows counted from 0
abbrev pub degree_place : ℕ → ℕ → ℕ
degree_place n j = j * width n

-- the place of quantity i in part p of row j
abbrev pub part_place : ℕ → ℕ → ℕ → ℕ → ℕ
part_place n j p i = degree_place n j + 1 + p * n + i

-- ---- rows as they are written

-- a row's parts, in the order of their numbers
unfoldable pub row_parts : Row → List (List ℤ)
row_parts row =
    map (λ ball. ball.value) row.balls ∷
    map (λ ball. pos ball.radius) row.balls ∷
    map (λ span. span.low) row.spans ∷
    map (λ span. span.high) row.spans ∷
    []

-- the degree, and the parts one after another
unfoldable pub row_places : Row → List ℤ
row_places row = pos row.degree ∷ flatten (row_parts row)

-- the rows one after another
unfoldable pub places : List Row → List ℤ
places [] = []
places (row ∷ rows) = row_places row ++ places rows

-- the rows from the front, and every other place unchanged
unfoldable pub written : List Row → List ℤ → List ℤ
written rows buffer = places rows ++ drop (length (places rows)) buffer

-- ---- rows as they are read

-- row j of a buffer of rows of n quantities, as it stands there. A buffer's numbers are signed, and those of a degree and of a radius that were
-- written are not negative, so that their magnitudes are the numbers themselves.
unfoldable pub row_in : ℕ → List ℤ → ℕ → Row
row_in n buffer j =
    record {
      degree = nat_abs (get_or buffer (degree_place n j) (pos 0));
      balls = tabulate n (λ i. record {
        value = get_or buffer (part_place n j values_part i) (pos 0);
        radius = nat_abs (get_or buffer (part_place n j radii_part i) (pos 0));
      });
      spans = tabulate n (λ i. record {
        low = get_or buffer (part_place n j lows_part i) (pos 0);
        high = get_or buffer (part_place n j highs_part i) (pos 0);
      });
    }

-- the first `count` rows
unfoldable pub rows_in : ℕ → ℕ → List ℤ → List Row
rows_in n count buffer = tabulate count (row_in n buffer)
