-- A row's balls and spans in arrays with 0 past its quantities: storing them leaves them so, and they are read from there as they were.
use Prim.Native.Nat.{ℕ, ◌≤◌}
use mathlib.Core.List.{List}
use mathlib.Core.Path.{◌≡◌, ap, ◌∙◌}
use lib.IntN.{ℤ}
use lib.ListN.{length, get_or, replicate, get_or-append}
use lib.Seq.{sets}
use Rattle.ranges.specs.Range.{tabulate}
use Rattle.model.specs.Sheet.{most_quantities, padded}
use Rattle.model.specs.Step.{no_ball, no_span}
use Rattle.model.specs.declared.Ball.{Ball}
use Rattle.model.specs.declared.Span.{Span}
use Rattle.ranges.proofs.Ranges.{length_tabulate, tabulate_is}
use Rattle.laws.proofs.Passages.Padded.{stored_padded}
use Rattle.laws.proofs.Passages.RowRead.{length_row_balls}
use Rattle.model.specs.Rows.{balls_of, laid_out, spans_of, spans_laid_out, row_in}

-- f 0, .., f (n - 1) stored in an array of what stands past them
pub stored_front : {A : Type 0} (x : A) (n : ℕ) (f : ℕ → A) → n ≤ most_quantities → sets (replicate most_quantities x) 0 (tabulate n f) ≡ padded most_quantities x (tabulate n f)
stored_front x n f room = stored_padded x most_quantities (tabulate n f) (rw length_tabulate room)

-- the first n places of such an array
front_padded : {A : Type 0} (x : A) (n : ℕ) (xs : List A) → length xs ≡ n → tabulate n (λ i. get_or (padded most_quantities x xs) i x) ≡ xs
front_padded x n xs len = tabulate_is n _ x xs len (λ i h. unfold padded in get_or-append xs _ x i (rw len h))

-- balls that were stored in an array of zeros
pub stored_laid_out : (n : ℕ) (f : ℕ → Ball) → n ≤ most_quantities → {balls : List Ball} → balls ≡ sets (replicate most_quantities no_ball) 0 (tabulate n f) → balls ≡ laid_out (tabulate n f)
unfolding laid_out
stored_laid_out n f room e = e ∙ stored_front no_ball n f room

-- .. and spans
pub stored_spans : (n : ℕ) (f : ℕ → Span) → n ≤ most_quantities → {spans : List Span} → spans ≡ sets (replicate most_quantities no_span) 0 (tabulate n f) → spans ≡ spans_laid_out (tabulate n f)
unfolding spans_laid_out
stored_spans n f room e = e ∙ stored_front no_span n f room

-- the first places of the array are the balls
pub balls_laid_out : (n : ℕ) (balls : List Ball) → length balls ≡ n → balls_of n (laid_out balls) ≡ balls
unfolding balls_of laid_out
balls_laid_out n balls len = front_padded no_ball n balls len

-- .. and the spans
pub spans_laid_out_lem : (n : ℕ) (spans : List Span) → length spans ≡ n → spans_of n (spans_laid_out spans) ≡ spans
unfolding spans_of spans_laid_out
spans_laid_out_lem n spans len = front_padded no_span n spans len

-- the balls of a row in a buffer, laid out
pub row_laid_out : (n : ℕ) (rows : List ℤ) (j : ℕ) {balls : List Ball} → balls ≡ laid_out (row_in n rows j).balls → balls_of n balls ≡ (row_in n rows j).balls
row_laid_out n rows j e = ap (balls_of n) e ∙ balls_laid_out n (row_in n rows j).balls (length_row_balls n rows j)
