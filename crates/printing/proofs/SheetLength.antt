-- How many digits the numbers of a sheet in range have, and how long its lines are.
use Rattle.std.specs.Prelude.{Option, Some, None}
use Prim.Native.Nat.{ℕ, ◌^◌, ◌≤◌, ◌<◌}
use mathlib.Core.Path.{◌≡◌, refl}
use mathlib.Core.List.{◌++◌, flatten}
use native.Mathlib.Nat.{le_trans}
use native.Mathlib.Omega.{arith}
use lib.IntN.{ℤ, pos, neg_ℤ, nat_abs}
use lib.ListN.{length, get_or, replicate, length-append}
use Rattle.ranges.specs.Range.{tabulate, bytes}
use Rattle.model.specs.Sheet.{scale, most, most_quantities, stored_steps, most_terms, most_coef, passes, ask, ◌then◌, in_order, from◌to◌, ±◌, within, n_limits, steps_limits, step_limits, step_within, tail_limits, tol_limits, start_limits, radius_limits, terms_limits, to_limits, coef_limits, first_limits, second_limits, in_range, step_verdict, head_verdict, start_verdict, quantity_verdict, quantities_verdict, term_verdict, terms_verdict, no_quantity, no_term, sheet_verdict_to}
use Rattle.model.specs.Answer.{digit, decimal_by, decimal, printed}
use Rattle.stored.specs.Conversion.{head_text, start_text, quantity_text, term_text, sheet_text}
use Rattle.model.specs.declared.Head.{Head}
use Rattle.model.specs.declared.Quantity.{Quantity}
use Rattle.model.specs.declared.Term.{Term}
use Rattle.model.specs.declared.Sheet.{Sheet}
use Rattle.laws.proofs.Text.Verdicts.{both_pass, in_range_lem, signed_magnitude, step_in_range, TermInRange, head_in_range, few_quantities, sheet_in_range}
use Rattle.laws.proofs.Bounds.SheetBounds.{second_at_most}
use Rattle.printing.proofs.LineLength.{length_natural, length_whole}
use Rattle.printing.specs.SheetLength.{most_head, most_start, most_quantity, most_term, most_sheet, TermShort}

-- ---- the lines above the quantities

pub record HeadShort (head : Head) : Type 0 where
  pub n : head.n < 10 ^ 1
  pub steps : head.steps < 10 ^ 3
  pub step : nat_abs head.step < 10 ^ 8
  pub tail : head.tail < 10 ^ 8
  pub tol : head.tol < 10 ^ 9

pub head_short : (head : Head) → head_verdict stored_steps head ≡ passes → HeadShort head
unfolding n_limits steps_limits tail_limits tol_limits scale most
head_short head passed =
    let ranges = head_in_range stored_steps head passed in
    record {
      n = omega (arith, (in_range_lem _ ranges.n).1);
      steps = omega (arith, (in_range_lem _ ranges.steps).1);
      step = omega (arith, (step_in_range _ ranges.step).1);
      tail = omega (arith, (in_range_lem _ ranges.tail).1);
      tol = omega (arith, (in_range_lem _ ranges.tol).1);
    }

pub length_head : (head : Head) → HeadShort head → length (head_text head) ≤ most_head
unfolding head_text bytes
length_head head short =
    let n = printed "n" (pos head.n) in
    let steps = printed "steps" (pos head.steps) in
    let step = printed "step" head.step in
    let tail = printed "tail" (pos head.tail) in
    omega
    (arith, length-append (n ++ steps ++ step ++ tail) (printed "tol" (pos head.tol)), length-append (n ++ steps ++ step) tail, length-append (n ++ steps) step, length-append n steps, length_natural "n" 1 head.n (omega arith) short.n, length_natural "steps" 3 head.steps (omega arith) short.steps, length_whole "step" 8 head.step (omega arith) short.step, length_natural "tail" 8 head.tail (omega arith) short.tail, length_natural "tol" 9 head.tol (omega arith) short.tol)

-- ---- a quantity

pub start_short : (z : ℤ) → start_verdict (Some z) ≡ passes → nat_abs z < 10 ^ 9
unfolding start_verdict start_limits most
start_short z passed = omega (arith, signed_magnitude most z passed)

pub length_start : (start : Option ℤ) → start_verdict start ≡ passes → length (start_text start) ≤ most_start
unfolding start_text bytes
length_start (Some z) passed = length_whole "start" 9 z (omega arith) (start_short z passed)
length_start None passed = omega arith

pub record QuantityShort (quantity : Quantity) : Type 0 where
  pub start : start_verdict quantity.start ≡ passes
  pub radius : quantity.radius < 10 ^ 9

pub quantity_short : (quantity : Quantity) → quantity_verdict quantity ≡ passes → QuantityShort quantity
unfolding quantity_verdict radius_limits most
quantity_short quantity passed =
    let both = both_pass (start_verdict quantity.start) _ passed in
    record { start = both.0; radius = omega (arith, (in_range_lem quantity.radius both.1).1) }

pub length_quantity : (quantity : Quantity) → QuantityShort quantity → length (quantity_text quantity) ≤ most_quantity
unfolding quantity_text bytes
length_quantity quantity short =
    omega
    (arith, length-append (start_text quantity.start) (printed "radius" (pos quantity.radius)), length_start quantity.start short.start, length_natural "radius" 9 quantity.radius (omega arith) short.radius)

-- ---- a term

pub length_term : (term : Term) → TermShort term → length (term_text term) ≤ most_term
unfolding term_text bytes
length_term term short =
    let target = printed "to" (pos term.to) in
    let coef = printed "coef" term.coef in
    let first = printed "first" (pos term.first) in
    omega
    (arith, length-append (target ++ coef ++ first) (printed "second" (pos term.second)), length-append (target ++ coef) first, length-append target coef, length_natural "to" 1 term.to (omega arith) (omega (arith, short.target)), length_whole "coef" 9 term.coef (omega arith) (omega (arith, short.coefficient)), length_natural "first" 1 term.first (omega arith) (omega (arith, short.first)), length_natural "second" 1 term.second (omega arith) (omega (arith, short.second)))

-- ---- a sheet

-- what its parts ask
pub record SheetShort (sheet : Sheet) : Type 0 where
  pub head : head_verdict stored_steps sheet.head ≡ passes
  pub n : sheet.head.n ≤ most_quantities
  pub quantities : quantities_verdict sheet.head.n sheet.quantities ≡ passes
  pub count : sheet.terms.count ≤ most_terms
  pub term : (j : ℕ) → j < sheet.terms.count → TermShort (get_or sheet.terms.list j no_term)

term_short : (n : ℕ) (term : Term) → n ≤ most_quantities → TermInRange n term → TermShort term
unfolding to_limits first_limits coef_limits
term_short n term few ranges =
    record {
      target = le_trans (in_range_lem _ ranges.target).1 few;
      coefficient = signed_magnitude most_coef _ ranges.coefficient;
      first = le_trans (in_range_lem _ ranges.first).1 few;
      second = le_trans (second_at_most n _ _ ranges.second) few;
    }

pub sheet_short : (sheet : Sheet) → sheet_verdict_to stored_steps sheet ≡ passes → SheetShort sheet
unfolding sheet_verdict_to terms_limits
sheet_short sheet passed =
    let ranges = sheet_in_range stored_steps sheet passed in
    let parts = both_pass (head_verdict stored_steps sheet.head) _ passed in
    let few = few_quantities stored_steps sheet.head parts.0 in
    record {
      head = parts.0;
      n = few;
      quantities = (both_pass (quantities_verdict sheet.head.n sheet.quantities) _ parts.1).0;
      count = (in_range_lem _ ranges.terms).1;
      term = λ j h. term_short sheet.head.n _ few (ranges.term j h);
    }

-- ---- no fewer bytes would do: there is a sheet in range of so many

longest_sheet : Sheet
longest_sheet =
    record {
      head = record {
        n = most_quantities;
        steps = stored_steps;
        step = neg_ℤ (pos scale);
        tail = scale;
        tol = most;
      };
      quantities = replicate most_quantities (record { start = Some (neg_ℤ (pos most)); radius = most });
      terms = record {
        count = most_terms;
        list = replicate most_terms (record { to = most_quantities; coef = neg_ℤ (pos most_coef); first = most_quantities; second = most_quantities });
      };
    }

longest_passes : sheet_verdict_to stored_steps longest_sheet ≡ passes
unfolding longest_sheet scale most ask ◌then◌ in_order from◌to◌ ±◌ within n_limits steps_limits step_limits step_within tail_limits tol_limits start_limits radius_limits terms_limits to_limits coef_limits first_limits second_limits in_range step_verdict head_verdict start_verdict quantity_verdict quantities_verdict term_verdict terms_verdict no_quantity no_term sheet_verdict_to
longest_passes = refl

sheet_reached : length (sheet_text longest_sheet) ≡ most_sheet
unfolding longest_sheet scale most tabulate flatten no_quantity no_term sheet_text head_text start_text quantity_text term_text printed bytes decimal decimal_by digit
sheet_reached = refl
