-- The row that the table of a step comes to is the definition's.
use Prim.Native.Nat.{ℕ, suc, ◌+◌, ◌≤◌}
use mathlib.Core.List.{List}
use mathlib.Core.Path.{◌≡◌, ap, ap₂, ◌∙◌}
use native.Mathlib.Omega.{arith}
use lib.IntN.{ℤ, pos, ◌+ℤ◌, ◌-ℤ◌}
use lib.ListN.{length}
use Rattle.ranges.specs.Range.{tabulate}
use Rattle.model.specs.Step.{Coefficients, coefficient, coefficients_to, reach, new_ball, step_reach, new_span, new_row}
use Rattle.model.specs.declared.Ball.{Ball}
use Rattle.model.specs.declared.Term.{Term}
use Rattle.ranges.proofs.Ranges.{sum_equal, sum_ℤ_equal, tabulate_equal}
use Rattle.model.specs.Sheet.{most_quantities}
use Rattle.model.specs.Rows.{laid_out, spans_laid_out}
use Rattle.products.specs.Table.{table_in}
use Rattle.coefficients.specs.Orders.{start_in, Filled}
use Rattle.model.specs.declared.Span.{Span}
use Rattle.products.specs.declared.table.Table.{Table}
use Rattle.coefficients.proofs.Filled.{coefficient_filled}
use Rattle.taylor.specs.StepAnswers.{row_laid_out}
use Rattle.laws.proofs.Steps.Tables.{ball_equal}

-- tables that have the same coefficients come to the same new ball ..
new_ball_equal : (table other : Coefficients) (d tail i : ℕ) → ((k : ℕ) → k ≤ d → coefficient table k i ≡ coefficient other k i) → new_ball table d tail i ≡ new_ball other d tail i
unfolding new_ball
new_ball_equal table other d tail i same =
    ball_equal
    (sum_ℤ_equal (suc d) _ _ (λ k h. ap (λ (b : Ball). b.value) (same k (omega arith))))
    (ap (λ (m : ℕ). m + tail) (sum_equal (suc d) _ _ (λ k h. ap (λ (b : Ball). b.radius) (same k (omega arith)))))

-- .. and to the same span
new_span_equal : (table other : Coefficients) (d tail i : ℕ) → ((k : ℕ) → k ≤ d → coefficient table k i ≡ coefficient other k i) → new_span table d tail i ≡ new_span other d tail i
unfolding new_span step_reach
new_span_equal table other d tail i same =
    ap₂ (λ (start : Ball) (reaches : ℕ). record { low = start.value -ℤ pos (start.radius + reaches + tail); high = start.value +ℤ pos (start.radius + reaches + tail) }) (same 0 (omega arith)) (sum_equal d _ _ (λ k h. ap reach (same (suc k) h)))

module _ {terms : List Term} {H : ℤ} {n d : ℕ} {table : Table} (filled : Filled terms H n d table) (room : n ≤ most_quantities) where
  module _ (balls : List Ball) (tail : ℕ) (start : start_in n table ≡ balls) where
    -- .. and the filled table has those of the step
    filled_is : (i k : ℕ) → k ≤ d → coefficient (table_in d table) k i ≡ coefficient (coefficients_to terms H balls d) k i
    filled_is i k h = coefficient_filled filled room k h i ∙ ap (λ (start : List Ball). coefficient (coefficients_to terms H start d) k i) start

    new_balls : tabulate n (new_ball (table_in d table) d tail) ≡ tabulate n (new_ball (coefficients_to terms H balls d) d tail)
    new_balls = tabulate_equal n _ _ (λ i l. new_ball_equal _ _ d tail i (filled_is i))

    new_spans : tabulate n (new_span (table_in d table) d tail) ≡ tabulate n (new_span (coefficients_to terms H balls d) d tail)
    new_spans = tabulate_equal n _ _ (λ i l. new_span_equal _ _ d tail i (filled_is i))

    -- the row of the table is the row of the step
    pub row_is : {row : List Ball} {spans : List Span} → length balls ≡ n → row ≡ laid_out (tabulate n (new_ball (table_in d table) d tail)) → spans ≡ spans_laid_out (tabulate n (new_span (table_in d table) d tail)) → record { balls = row; spans = spans } ≡ row_laid_out (new_row terms H balls d tail)
    unfolding new_row row_laid_out
    row_is len e f = rw (e, f, len, new_balls, new_spans)
