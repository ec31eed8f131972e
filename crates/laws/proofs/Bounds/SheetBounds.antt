-- A sheet whose verdict passes, and a step whose questions 4 and 5 are answered yes, give what the bounds on the working numbers rest on.
use Prim.Native.Nat.{ℕ, zero, suc, ◌≤◌, ◌<◌}
use mathlib.Core.Bool.{true}
use mathlib.Core.List.{List}
use mathlib.Core.Path.{◌≡◌, refl}
use native.Mathlib.Nat.{le_trans, mul-le-mul_right}
use native.Mathlib.Decide.{dec_lt}
use native.Mathlib.Omega.{arith}
use borrow.Author.Tests.{leb-true}
use lib.Dec.{leb}
use lib.IntN.{ℤ, pos, nat_abs}
use lib.ListN.{length, get_or, get_or-eq_default}
use Rattle.model.specs.Sheet.{passes, in_range, sheet_verdict_to, sheet_verdict, no_term, scale, most, most_terms, most_coef, terms_limits, to_limits, first_limits, coef_limits, second_limits, terms_of, most_quantities, most_steps, n_limits, steps_limits, tail_limits, tol_limits}
use Rattle.model.specs.Step.{no_ball, reach, greatest, ratio}
use Rattle.model.specs.declared.Ball.{Ball}
use Rattle.model.specs.Passage.{small, slow, most_ratio}
use Rattle.model.specs.declared.Sheet.{Sheet}
use Rattle.model.specs.declared.Term.{Term}
use Rattle.ranges.proofs.Ranges.{sum_le, sum_constant}
use Rattle.laws.proofs.Bounds.CountedTerms.{length_listed, get_or_listed}
use Rattle.laws.specs.Bounds.{total, most_total, TermsInBounds, InBounds}
use Rattle.laws.proofs.Text.Verdicts.{in_range_lem, signed_magnitude, step_in_range, TermInRange, SheetInRange, sheet_in_range}
use Rattle.ranges.proofs.EveryLaws.{every_holds}

-- ---- the terms of a sheet

second_absent : (n first second : ℕ) → in_range (second_limits n first) (pos second) ≡ passes → first ≡ 0 → second ≡ 0
unfolding second_limits
second_absent n zero second e absent = omega (arith, in_range_lem {low = 0} {high = 0} second e)
second_absent n (suc first) second e absent = absurd (omega arith)

pub second_at_most : (n first second : ℕ) → in_range (second_limits n first) (pos second) ≡ passes → second ≤ n
unfolding second_limits
second_at_most n zero second e = omega (arith, in_range_lem {low = 0} {high = 0} second e)
second_at_most n (suc first) second e = (in_range_lem second e).1

module _ {high : ℕ} (sheet : Sheet) (ranges : SheetInRange high sheet) where
  count_is : length (terms_of sheet) ≡ sheet.terms.count
  unfolding terms_of
  count_is = length_listed sheet.terms

  terms_at_most : length (terms_of sheet) ≤ most_terms
  unfolding terms_limits
  terms_at_most = rw count_is (in_range_lem sheet.terms.count ranges.terms).1

  pub term_of_sheet : (j : ℕ) → j < length (terms_of sheet) → TermInRange sheet.head.n (get_or (terms_of sheet) j no_term)
  unfolding terms_of
  term_of_sheet j h =
      let counted : j < sheet.terms.count = omega (arith, count_is) in
      rw (get_or_listed sheet.terms j counted) (ranges.term j counted)

  formed : (j : ℕ) → (get_or (terms_of sheet) j no_term).first ≡ 0 → (get_or (terms_of sheet) j no_term).second ≡ 0
  unfolding no_term
  formed j = go (dec_lt j (length (terms_of sheet)))
    where
      go : Dec (j < length (terms_of sheet)) → (get_or (terms_of sheet) j no_term).first ≡ 0 → (get_or (terms_of sheet) j no_term).second ≡ 0
      go (yes h) = second_absent sheet.head.n _ _ (term_of_sheet j h).second
      go (no past) = rw (get_or-eq_default (terms_of sheet) no_term {n = j} (omega (arith, past))) (λ absent. refl)

  in_total : total (terms_of sheet) ≤ most_total
  unfolding coef_limits total most_total
  in_total =
      le_trans (sum_le (length (terms_of sheet)) _ (λ j. most_coef) (λ j h. signed_magnitude most_coef _ (term_of_sheet j h).coefficient)) (rw (sum_constant (length (terms_of sheet)) most_coef) (mul-le-mul_right most_coef terms_at_most))

  terms_in_bounds : TermsInBounds (terms_of sheet) sheet.head.step sheet.head.n
  unfolding to_limits first_limits
  terms_in_bounds =
      record {
        summable = record { count = terms_at_most; total = in_total };
        formed = formed;
        step = (step_in_range sheet.head.step ranges.head.step).1;
        to_low = λ j h. (in_range_lem _ (term_of_sheet j h).target).0;
        to_high = λ j h. (in_range_lem _ (term_of_sheet j h).target).1;
        first_high = λ j h. (in_range_lem _ (term_of_sheet j h).first).1;
        second_high = λ j h. second_at_most sheet.head.n _ _ (term_of_sheet j h).second;
      }

-- however many steps it may have
pub bounds_of_sheet : (high : ℕ) (sheet : Sheet) → sheet_verdict_to high sheet ≡ passes → TermsInBounds (terms_of sheet) sheet.head.step sheet.head.n
bounds_of_sheet high sheet passed = terms_in_bounds sheet (sheet_in_range high sheet passed)

-- ---- its counts and limits

-- the counts and limits of a sheet whose verdict passes
pub record Counts (sheet : Sheet) : Type 0 where
  pub n_high : sheet.head.n ≤ most_quantities
  pub steps_high : sheet.head.steps ≤ most_steps
  pub step_low : 1 ≤ nat_abs sheet.head.step
  pub step_high : nat_abs sheet.head.step ≤ scale
  pub tail_low : 2 ≤ sheet.head.tail
  pub tail_high : sheet.head.tail ≤ scale
  pub tol_high : sheet.head.tol ≤ most
  pub terms_high : sheet.terms.count ≤ most_terms

pub counts_of_sheet : (sheet : Sheet) → sheet_verdict sheet ≡ passes → Counts sheet
unfolding n_limits steps_limits tail_limits tol_limits terms_limits
counts_of_sheet sheet passed =
    let ranges = sheet_in_range most_steps sheet passed in
    record {
      n_high = (in_range_lem _ ranges.head.n).1;
      steps_high = (in_range_lem _ ranges.head.steps).1;
      step_low = (step_in_range _ ranges.head.step).0;
      step_high = (step_in_range _ ranges.head.step).1;
      tail_low = (in_range_lem _ ranges.head.tail).0;
      tail_high = (in_range_lem _ ranges.head.tail).1;
      tol_high = (in_range_lem _ ranges.head.tol).1;
      terms_high = (in_range_lem _ ranges.terms).1;
    }

-- ---- a step

-- question 4 answered yes
pub each_small : (balls : List Ball) → small balls ≡ true → (i : ℕ) → i < length balls → reach (get_or balls i no_ball) ≤ most
unfolding small
each_small balls is_small i h = leb-true (reach (get_or balls i no_ball)) most (every_holds (length balls) (λ i. leb (reach (get_or balls i no_ball)) most) is_small i h)

pub bounds_of_step : {terms : List Term} {H : ℤ} (balls : List Ball) → TermsInBounds terms H (length balls) → small balls ≡ true → slow terms H balls ≡ true → InBounds terms H balls
unfolding slow
bounds_of_step {terms} {H} balls sheet is_small is_slow =
    record {
      sheet = sheet;
      small = each_small balls is_small;
      slow = leb-true (ratio terms H (length balls) (greatest balls)) most_ratio is_slow;
    }
