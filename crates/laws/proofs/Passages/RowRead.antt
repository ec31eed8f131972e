-- A row as it is read from a buffer: a ball and a span for each quantity.
use Prim.Native.Nat.{ℕ}
use mathlib.Core.Path.{◌≡◌, refl}
use mathlib.Core.List.{List}
use lib.IntN.{ℤ}
use lib.ListN.{length, get_or}
use Rattle.ranges.specs.Range.{tabulate}
use Rattle.model.specs.Step.{no_ball, no_span}
use Rattle.model.specs.Rows.{row_in}
use Rattle.model.specs.declared.Ball.{Ball}
use Rattle.model.specs.declared.Span.{Span}
use Rattle.ranges.proofs.Ranges.{length_tabulate, tabulate_is}

-- ball i of row j of a buffer
abbrev pub ball_at : ℕ → List ℤ → ℕ → ℕ → Ball
ball_at n rows j i = get_or (row_in n rows j).balls i no_ball

-- its span i
abbrev pub span_at : ℕ → List ℤ → ℕ → ℕ → Span
span_at n rows j i = get_or (row_in n rows j).spans i no_span

pub length_row_balls : (n : ℕ) (rows : List ℤ) (j : ℕ) → length (row_in n rows j).balls ≡ n
unfolding row_in
length_row_balls n rows j = length_tabulate n _

pub length_row_spans : (n : ℕ) (rows : List ℤ) (j : ℕ) → length (row_in n rows j).spans ≡ n
unfolding row_in
length_row_spans n rows j = length_tabulate n _

-- the first n are all
pub all_balls : (n : ℕ) (rows : List ℤ) (j : ℕ) → tabulate n (ball_at n rows j) ≡ (row_in n rows j).balls
unfolding row_in
all_balls n rows j =
    tabulate_is n (ball_at n rows j) no_ball (row_in n rows j).balls (length_row_balls n rows j) (λ i h. refl)

pub all_spans : (n : ℕ) (rows : List ℤ) (j : ℕ) → tabulate n (span_at n rows j) ≡ (row_in n rows j).spans
unfolding row_in
all_spans n rows j =
    tabulate_is n (span_at n rows j) no_span (row_in n rows j).spans (length_row_spans n rows j) (λ i h. refl)
