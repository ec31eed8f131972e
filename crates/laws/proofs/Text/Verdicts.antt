-- What a verdict that passes says: every question in it passes, and every number asked about lies in its range.
use Prim.Native.Nat.{ℕ, zero, suc, ◌≤◌, ◌<◌}
use mathlib.Core.Bool.{Bool, true, false, false≢true}
use mathlib.Core.Logic.{⊎_elim}
use mathlib.Core.Path.{◌≡◌, refl, ap₂}
use native.Mathlib.Nat.{eq-or-lt_of_le}
use native.Mathlib.Omega.{arith}
use borrow.Author.Tests.{leb-true, le-leb}
use lib.Dec.{leb}
use lib.IntN.{ℤ, pos, negsuc, neg_ℤ, nat_abs}
use lib.ListN.{get_or}
use lib.Signed.{le_z}
use Rattle.model.specs.Sheet.{most_quantities, Verdict, passes, refuses, ask, ◌then◌, in_order, from◌to◌, ±◌, within, scale, n_limits, steps_limits, step_limits, step_within, tail_limits, tol_limits, terms_limits, to_limits, coef_limits, first_limits, second_limits, in_range, step_verdict, head_verdict, quantity_verdict, quantities_verdict, term_verdict, terms_verdict, no_quantity, no_term, sheet_verdict_to}
use Rattle.model.specs.declared.Refusal.{Refusal}
use Rattle.model.specs.declared.Refusal.TheVariants.{OutOfRange}
use Rattle.model.specs.declared.Head.{Head}
use Rattle.model.specs.declared.Sheet.{Sheet}
use Rattle.model.specs.declared.Term.{Term}
use Rattle.ranges.proofs.Ranges.{below}
use Rattle.ranges.proofs.EveryLaws.{both_true}

-- ---- questions

pub refusal_not_passes : {r : Refusal} → refuses r ≡ passes → ⊥
refusal_not_passes {r} e = let z : ◌≡◌ {A = ℕ} 0 1 = cc in omega arith

pub both_pass : (a b : Verdict) → (a then b) ≡ passes → (a ≡ passes) × (b ≡ passes)
unfolding ◌then◌
both_pass passes b e = (refl, e)
both_pass (refuses r) b e = absurd (refusal_not_passes e)

pub each_passes : (n : ℕ) (f : ℕ → Verdict) → in_order n f ≡ passes → (i : ℕ) → i < n → f i ≡ passes
unfolding in_order
each_passes zero f e i lt = absurd (omega arith)
each_passes (suc n) f e i lt =
    let both = both_pass (in_order n f) (f n) e in
    ⊎_elim (λ (h : i ≡ n). rw h both.1) (λ (h : i < n). each_passes n f both.0 i h) (eq-or-lt_of_le {n = i} {m = n} (omega arith))

pub pass_then : {a b : Verdict} → a ≡ passes → b ≡ passes → (a then b) ≡ passes
unfolding ◌then◌
pass_then p q = ap₂ (λ (earlier later : Verdict). earlier then later) p q

pub all_pass : (n : ℕ) (f : ℕ → Verdict) → ((i : ℕ) → i < n → f i ≡ passes) → in_order n f ≡ passes
unfolding in_order
all_pass zero f h = refl
all_pass (suc n) f h = pass_then (all_pass n f (below n h)) (h n (omega arith))

pub in_order_equal : (n : ℕ) (f g : ℕ → Verdict) → ((i : ℕ) → i < n → f i ≡ g i) → in_order n f ≡ in_order n g
unfolding in_order
in_order_equal zero f g h = refl
in_order_equal (suc n) f g h = ap₂ (λ (earlier later : Verdict). earlier then later) (in_order_equal n f g (below n h)) (h n (omega arith))

pub answered_yes : (b : Bool) (r : Refusal) → ask b r ≡ passes → b ≡ true
unfolding ask
answered_yes true r e = refl
answered_yes false r e = absurd (refusal_not_passes e)

-- ---- ranges

-- a natural number in its limits, and back
pub natural_within : {low high : ℕ} (z : ℤ) → within (from low to high) z ≡ true → (low ≤ nat_abs z) × (nat_abs z ≤ high)
unfolding from◌to◌ within
natural_within {low} {high} (pos n) e =
    let both = both_true (leb low n) (leb n high) e in
    (leb-true low n both.0, leb-true n high both.1)
natural_within (negsuc n) e = absurd (false≢true e)

pub natural_passes : {low high : ℕ} (n : ℕ) → low ≤ n → n ≤ high → within (from low to high) (pos n) ≡ true
unfolding from◌to◌ within
natural_passes {low} {high} n l h = rw (le-leb low n l, le-leb n high h)

-- the same of a number with its sign
pub signed_within : (high : ℕ) (z : ℤ) → within (± high) z ≡ true → nat_abs z ≤ high
unfolding ±◌ within
signed_within high (pos n) e = leb-true n high (both_true (le_z (neg_ℤ (pos high)) (pos n)) (leb n high) e).1
signed_within zero (negsuc n) e = absurd (false≢true e)
signed_within (suc high) (negsuc n) e = omega (arith, leb-true n high (both_true (leb n high) true e).0)

pub signed_passes : (high : ℕ) (z : ℤ) → nat_abs z ≤ high → within (± high) z ≡ true
unfolding ±◌ within
signed_passes zero (pos n) h = rw (le-leb 0 n (omega arith), le-leb n 0 h)
signed_passes (suc high) (pos n) h = le-leb n (suc high) h
signed_passes zero (negsuc n) h = absurd (omega arith)
signed_passes (suc high) (negsuc n) h = rw (le-leb n high (omega arith))

-- as questions
pub in_range_lem : {low high : ℕ} (n : ℕ) → in_range (from low to high) (pos n) ≡ passes → (low ≤ n) × (n ≤ high)
unfolding in_range
in_range_lem {low} {high} n e = natural_within {low = low} {high = high} (pos n) (answered_yes (within (from low to high) (pos n)) OutOfRange e)

pub signed_magnitude : (high : ℕ) (z : ℤ) → in_range (± high) z ≡ passes → nat_abs z ≤ high
unfolding in_range
signed_magnitude high z e = signed_within high z (answered_yes (within (± high) z) OutOfRange e)

-- a step that passes is at least one unit long and at most one whole, forward or back ..
pub step_in_range : (H : ℤ) → step_verdict H ≡ passes → (1 ≤ nat_abs H) × (nat_abs H ≤ scale)
unfolding step_verdict step_within step_limits in_range
step_in_range H e = in_range_lem {low = 1} {high = scale} (nat_abs H) e

-- .. and every such step passes
pub step_passes : (H : ℤ) → 1 ≤ nat_abs H → nat_abs H ≤ scale → step_verdict H ≡ passes
unfolding step_verdict step_within step_limits ask
step_passes H low high = rw (natural_passes {low = 1} {high = scale} (nat_abs H) low high)

-- ---- a sheet

pub record TermInRange (n : ℕ) (term : Term) : Type 0 where
  pub target : in_range (to_limits n) (pos term.to) ≡ passes
  pub coefficient : in_range coef_limits term.coef ≡ passes
  pub first : in_range (first_limits n) (pos term.first) ≡ passes
  pub second : in_range (second_limits n term.first) (pos term.second) ≡ passes

pub term_in_range : (n : ℕ) (term : Term) → term_verdict n term ≡ passes → TermInRange n term
unfolding term_verdict
term_in_range n term e =
    let a = both_pass (in_range (to_limits n) (pos term.to)) _ e in
    let b = both_pass (in_range coef_limits term.coef) _ a.1 in
    let c = both_pass (in_range (first_limits n) (pos term.first)) _ b.1 in
    record { target = a.0; coefficient = b.0; first = c.0; second = c.1 }

-- a head of at most so many steps
pub record HeadInRange (high : ℕ) (head : Head) : Type 0 where
  pub n : in_range n_limits (pos head.n) ≡ passes
  pub steps : in_range (steps_limits high) (pos head.steps) ≡ passes
  pub step : step_verdict head.step ≡ passes
  pub tail : in_range tail_limits (pos head.tail) ≡ passes
  pub tol : in_range tol_limits (pos head.tol) ≡ passes

pub head_in_range : (high : ℕ) (head : Head) → head_verdict high head ≡ passes → HeadInRange high head
unfolding head_verdict
head_in_range high head e =
    let a = both_pass (in_range n_limits (pos head.n)) _ e in
    let b = both_pass (in_range (steps_limits high) (pos head.steps)) _ a.1 in
    let c = both_pass (step_verdict head.step) _ b.1 in
    let d = both_pass (in_range tail_limits (pos head.tail)) _ c.1 in
    record { n = a.0; steps = b.0; step = c.0; tail = d.0; tol = d.1 }

-- no more quantities than a sheet may have
pub few_quantities : (high : ℕ) (head : Head) → head_verdict high head ≡ passes → head.n ≤ most_quantities
unfolding n_limits
few_quantities high head e = (in_range_lem {low = 1} {high = most_quantities} head.n (head_in_range high head e).n).1

-- a sheet of at most so many steps
pub record SheetInRange (high : ℕ) (sheet : Sheet) : Type 0 where
  pub head : HeadInRange high sheet.head
  pub quantity : (i : ℕ) → i < sheet.head.n → quantity_verdict (get_or sheet.quantities i no_quantity) ≡ passes
  pub terms : in_range terms_limits (pos sheet.terms.count) ≡ passes
  pub term : (j : ℕ) → j < sheet.terms.count → TermInRange sheet.head.n (get_or sheet.terms.list j no_term)

pub sheet_in_range : (high : ℕ) (sheet : Sheet) → sheet_verdict_to high sheet ≡ passes → SheetInRange high sheet
unfolding sheet_verdict_to quantities_verdict terms_verdict
sheet_in_range high sheet e =
    let a = both_pass (head_verdict high sheet.head) _ e in
    let b = both_pass (quantities_verdict sheet.head.n sheet.quantities) _ a.1 in
    let c = both_pass (in_range terms_limits (pos sheet.terms.count)) _ b.1 in
    record {
      head = head_in_range high sheet.head a.0;
      quantity = each_passes sheet.head.n (λ i. quantity_verdict (get_or sheet.quantities i no_quantity)) b.0;
      terms = c.0;
      term = λ j lt. term_in_range sheet.head.n (get_or sheet.terms.list j no_term) (each_passes sheet.terms.count (λ j. term_verdict sheet.head.n (get_or sheet.terms.list j no_term)) c.1 j lt);
    }

pub few_in_sheet : (high : ℕ) (sheet : Sheet) → sheet_verdict_to high sheet ≡ passes → sheet.head.n ≤ most_quantities
unfolding n_limits
few_in_sheet high sheet passed = (in_range_lem _ (sheet_in_range high sheet passed).head.n).1

-- and every sheet that is in range in every field passes
pub in_range_passes : (high : ℕ) (sheet : Sheet) → SheetInRange high sheet → sheet_verdict_to high sheet ≡ passes
unfolding sheet_verdict_to head_verdict quantities_verdict terms_verdict term_verdict
in_range_passes high sheet r =
    pass_then (pass_then r.head.n (pass_then r.head.steps (pass_then r.head.step (pass_then r.head.tail r.head.tol)))) (pass_then (all_pass sheet.head.n _ r.quantity) (pass_then r.terms (all_pass sheet.terms.count _ term)))
  where
    term : (j : ℕ) → j < sheet.terms.count → term_verdict sheet.head.n (get_or sheet.terms.list j no_term) ≡ passes
    term j h =
        let t = r.term j h in
        unfold term_verdict in pass_then t.target (pass_then t.coefficient (pass_then t.first t.second))
