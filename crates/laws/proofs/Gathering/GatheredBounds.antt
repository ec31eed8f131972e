-- The gathered terms of terms in bounds are in bounds: there are no more of them, the sum of |A| is no larger, and each has the target and the
-- factors of one as read. A coefficient that passes the sheet's range is still bounded by the total.
use Prim.Native.Nat.{ℕ, zero, suc, ◌+◌, ◌≤◌, ◌<◌}
use mathlib.Core.Bool.{Bool}
use mathlib.Core.Logic.{◌⊎◌, inl, inr}
use mathlib.Core.List.{List, [], ◌∷◌}
use mathlib.Core.Path.{◌≡◌, refl}
use native.Mathlib.Nat.{le_trans, le_refl}
use native.Mathlib.Omega.{arith}
use borrow.Author.Tests.{not-true, not-false}
use lib.IntN.{ℤ, nat_abs, ◌+ℤ◌}
use lib.ListN.{length, get_or, take, get_or-eq_default}
use Rattle.rounding.proofs.Integers.{abs_add}
use Rattle.ranges.specs.Range.{sum}
use Rattle.model.specs.Sheet.{no_term, passes, sheet_verdict_to, terms_of}
use Rattle.model.specs.LikeTerms.{coefs_like, filter, summed, nonzero, gathered}
use Rattle.laws.specs.Bounds.{total, TermsInBounds}
use Rattle.model.specs.declared.Sheet.{Sheet}
use Rattle.model.specs.declared.Term.{Term}
use Rattle.ranges.proofs.Ranges.{sum_first, summand_le, before_or_past}
use Rattle.ranges.proofs.Lists.{Each, none, entry_first, each_head, each_tail, each_at, each_from}
use Rattle.laws.proofs.Gathering.Filters.{filter_ind, filter_shorter, each_filter}
use Rattle.laws.proofs.Gathering.Gathered.{with_coef, unlike, coefs_like_lem, coefs_unlike, coefs_summed}
use Rattle.laws.proofs.Bounds.SheetBounds.{bounds_of_sheet}

-- ---- how many

pub summed_shorter : (ts : List Term) → length (summed ts) ≤ length ts
unfolding summed
summed_shorter [] = omega arith
summed_shorter (t ∷ ts) = omega (arith, filter_shorter (unlike t) (summed ts), summed_shorter ts)

gathered_shorter : (terms : List Term) → length (gathered terms) ≤ length terms
unfolding gathered
gathered_shorter terms = le_trans (filter_shorter nonzero (summed terms)) (summed_shorter terms)

-- ---- the sum of |A|

total_first : (t : Term) (ts : List Term) → total (t ∷ ts) ≡ nat_abs t.coef + total ts
unfolding total
total_first t ts = sum_first (length ts) (λ j. nat_abs (get_or (t ∷ ts) j no_term).coef)

-- a term, and the first terms
pub coef_le_total : (ts : List Term) (j : ℕ) → j < length ts → nat_abs (get_or ts j no_term).coef ≤ total ts
unfolding total
coef_le_total ts j h = summand_le (λ j. nat_abs (get_or ts j no_term).coef) (length ts) h

pub total_take : (j : ℕ) (ts : List Term) → total (take j ts) ≤ total ts
total_take zero ts = unfold total sum in omega arith
total_take (suc j) [] = le_refl (total [])
total_take (suc j) (t ∷ ts) = omega (arith, total_first t (take j ts), total_first t ts, total_take j ts)

-- those that pass a test
total_filter : (test : Term → Bool) (ts : List Term) → total (filter test ts) ≤ total ts
total_filter test =
    filter_ind test (λ ts passing. total passing ≤ total ts) (le_refl (total [])) (λ t ts e rest. omega (arith, total_first t ts, total_first t (filter test ts), rest)) (λ t ts e rest. omega (arith, total_first t ts, rest))

-- those that are unlike a term, and the sum of those that are like it
total_parted : (t : Term) (ts : List Term) → nat_abs (coefs_like t ts) + total (filter (unlike t) ts) ≤ total ts
unfolding coefs_like
total_parted t =
    filter_ind (unlike t) (λ ts left. nat_abs (coefs_like t ts) + total left ≤ total ts) (omega arith) (λ u ts e rest. rw (coefs_unlike t u ts (not-true _ e)) (omega (arith, total_first u ts, total_first u (filter (unlike t) ts), rest))) (λ u ts e rest. rw (coefs_like_lem t u ts (not-false _ e)) (omega (arith, abs_add u.coef (coefs_like t ts), total_first u ts, rest)))

pub total_summed : (ts : List Term) → total (summed ts) ≤ total ts
unfolding summed
total_summed [] = le_refl (total [])
total_summed (t ∷ ts) =
    omega (arith, total_first (with_coef t (t.coef +ℤ coefs_like t ts)) (filter (unlike t) (summed ts)), abs_add t.coef (coefs_like t ts), rw (coefs_summed t ts) at (total_parted t (summed ts)), total_summed ts, total_first t ts)

pub total_gathered : (terms : List Term) → total (gathered terms) ≤ total terms
unfolding gathered
total_gathered terms = le_trans (total_filter nonzero (summed terms)) (total_summed terms)

-- ---- targets and factors

-- what every term as read has, whatever its coefficient, every gathered term has
module _ (P : Term → Type 0) (keeps : (t : Term) (c : ℤ) → P t → P (with_coef t c)) where
  each_summed : (ts : List Term) → Each P ts → Each P (summed ts)
  unfolding summed
  each_summed [] each = none
  each_summed (t ∷ ts) each = entry_first (keeps t _ (each_head each)) (each_filter (unlike t) (summed ts) (each_summed ts (each_tail each)))

  each_gathered : (terms : List Term) → Each P terms → Each P (gathered terms)
  unfolding gathered
  each_gathered terms each = each_filter nonzero (summed terms) (each_summed terms each)

-- a term of n quantities
record Formed (n : ℕ) (t : Term) : Type 0 where
  absent : t.first ≡ 0 → t.second ≡ 0
  to_low : 1 ≤ t.to
  to_high : t.to ≤ n
  first_high : t.first ≤ n
  second_high : t.second ≤ n

-- ---- all of it

pub bounds_gathered : {terms : List Term} {H : ℤ} {n : ℕ} → TermsInBounds terms H n → TermsInBounds (gathered terms) H n
bounds_gathered {terms} {H} {n} bounds =
    record {
      summable = record { count = le_trans (gathered_shorter terms) bounds.summable.count; total = le_trans (total_gathered terms) bounds.summable.total };
      formed = λ j. either j (before_or_past j (length (gathered terms)));
      step = bounds.step;
      to_low = λ j h. (formed j h).to_low;
      to_high = λ j h. (formed j h).to_high;
      first_high = λ j h. (formed j h).first_high;
      second_high = λ j h. (formed j h).second_high;
    }
  where
    read : Each (Formed n) terms
    read =
        each_from no_term terms (λ j h. record { absent = bounds.formed j; to_low = bounds.to_low j h; to_high = bounds.to_high j h; first_high = bounds.first_high j h; second_high = bounds.second_high j h })

    keeps : (t : Term) (c : ℤ) → Formed n t → Formed n (with_coef t c)
    keeps t c f = record { absent = f.absent; to_low = f.to_low; to_high = f.to_high; first_high = f.first_high; second_high = f.second_high }

    formed : (j : ℕ) → j < length (gathered terms) → Formed n (get_or (gathered terms) j no_term)
    formed = each_at no_term (each_gathered (Formed n) keeps terms read)

    either : (j : ℕ) → (j < length (gathered terms)) ⊎ (length (gathered terms) ≤ j) → (get_or (gathered terms) j no_term).first ≡ 0 → (get_or (gathered terms) j no_term).second ≡ 0
    either j (inl h) = (formed j h).absent
    either j (inr past) = unfold no_term in rw (get_or-eq_default (gathered terms) no_term {n = j} past) (λ absent. refl)

-- the gathered terms of a sheet whose verdict passes
pub bounds_of_gathered : (high : ℕ) (sheet : Sheet) → sheet_verdict_to high sheet ≡ passes → TermsInBounds (gathered (terms_of sheet)) sheet.head.step sheet.head.n
bounds_of_gathered high sheet passed = bounds_gathered (bounds_of_sheet high sheet passed)
