-- What an answer to a step promises, being the definition's: its number and its degree; and of the row that it gives, demand 3 and the water until it.
use Prim.Native.Nat.{ℕ}
use mathlib.Core.List.{List}
use mathlib.Core.Path.{◌≡◌, refl, ap}
use native.Mathlib.Omega.{arith}
use lib.ListN.{length}
use Rattle.model.specs.Sheet.{Verdict, passes, refuses, sheet_verdict, terms_of}
use Rattle.model.specs.LikeTerms.{gathered}
use Rattle.model.specs.Step.{Row}
use Rattle.model.specs.Rows.{balls_of}
use Rattle.model.specs.Passage.{Advance, moves, stops, step_of}
use Rattle.model.specs.declared.Ball.{Ball}
use Rattle.model.specs.declared.Sheet.{Sheet}
use Rattle.enclosure.specs.Trust.{Trusted, Spanned}
use Rattle.taylor.specs.StepAnswers.{advance_of, row_laid_out, answered, rows_given, Numbered}
use Rattle.taylor.specs.declared.step.Stepped.{Stepped}
use Rattle.laws.proofs.Passages.LaidOut.{balls_laid_out, spans_laid_out_lem}
use Rattle.laws.proofs.Passages.RowPlaces.{Quantities, length_balls}
use Rattle.laws.proofs.Passages.SingleSteps.{step_of_refused, step_of_passing}
use Rattle.laws.proofs.Steps.StepTaken.{row_of_quantities}
use Rattle.enclosure.proofs.PromisedRows.{rows_moved, step_trusted, step_spanned}

-- ---- the row that is given

-- the answer to a step gives the row that the step comes to, where that has n quantities
given_is_moved : (n : ℕ) (start : List Ball) (next : Advance) → ((row : Row) → next ≡ moves row → Quantities n row) → rows_given n (answered start next) ≡ rows_moved next
unfolding rows_given answered advance_of row_laid_out rows_moved
given_is_moved n start (moves row) full = rw (balls_laid_out n row.balls (full row refl).balls, spans_laid_out_lem n row.spans (full row refl).spans)
given_is_moved n start (stops r) full = refl

-- a row that a step of a sheet comes to has as many quantities as what it started from
step_quantities : (sheet : Sheet) (balls : List Ball) (n : ℕ) → length balls ≡ n → (row : Row) → step_of sheet balls ≡ moves row → Quantities n row
step_quantities sheet balls n wide row e = judged (sheet_verdict sheet) refl
  where
    judged : (v : Verdict) → sheet_verdict sheet ≡ v → Quantities n row
    judged (refuses r) verdict = let stopped : stops r ≡ moves row = rw (step_of_refused sheet balls verdict) at e in absurd (let z : ◌≡◌ {A = ℕ} 0 1 = cc stopped in omega arith)
    judged passes verdict = row_of_quantities (gathered (terms_of sheet)) sheet.head.step sheet.head.tail sheet.head.tol balls (rw (step_of_passing sheet balls verdict) at e) wide

-- ---- all that is promised

module _ (sheet : Sheet) (start : List Ball) where
  abbrev n : ℕ
  n = sheet.head.n

  abbrev balls : List Ball
  balls = balls_of sheet.head.n start

  abbrev meant : Advance
  meant = step_of sheet balls

  pub step_promised : {stepped : Stepped} → stepped ≡ answered start meant → record {
    whole : stepped ≡ answered start meant;
    numbered : Numbered stepped.advance (advance_of meant);
    trusted : Trusted (terms_of sheet) sheet.head.step sheet.head.tol balls (rows_given n stepped);
    spanned : Spanned (terms_of sheet) sheet.head.step balls (rows_given n stepped);
  }
  step_promised {stepped} e =
      record {
        whole = e;
        numbered = by_number (ap (λ (s : Stepped). s.advance) e);
        trusted = rw (e, given) (step_trusted sheet balls);
        spanned = rw (e, given) (step_spanned sheet balls);
      }
    where
      given : rows_given n (answered start meant) ≡ rows_moved meant
      given = given_is_moved n start meant (step_quantities sheet balls n (length_balls n start))

      advance_is : (next : Advance) → (answered start next).advance ≡ advance_of next
      advance_is (moves row) = unfold answered in refl
      advance_is (stops r) = unfold answered in refl

      by_number : stepped.advance ≡ (answered start meant).advance → Numbered stepped.advance (advance_of meant)
      by_number is = rw (is, advance_is meant) (record { number_is = refl; degree_is = refl })
