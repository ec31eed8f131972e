-- Going back is going forward along the opposite rates: with the step and every coefficient of the other sign, a sheet has the same passage, row
-- by row and refusal by refusal.
use Prim.Native.Nat.{ℕ, zero, suc, ◌+◌, ◌*◌}
use mathlib.Core.Bool.{Bool, true, false, not, cond, ◌&&◌}
use mathlib.Core.List.{List, [], ◌∷◌, ◌++◌, map}
use mathlib.Core.Path.{◌≡◌, refl, sym, ap, ap₂, ◌∙◌}
use native.Mathlib.Omega.{arith}
use borrow.Author.Tests.{leb-true, leb-false, le-leb, lt-leb}
use lib.Dec.{leb}
use lib.IntN.{ℤ, pos, negsuc, neg_ℤ, nat_abs, ◌+ℤ◌, ◌*ℤ◌, neg_ℤ-neg_ℤ, neg_ℤ-+ℤ}
use lib.ListN.{length, get_or, length-map, get_or-map}
use Rattle.rounding.specs.Rounding.{near, up}
use Rattle.rounding.proofs.Integers.{neg_mul_ℤ, mul_neg_ℤ, abs_neg}
use Rattle.rounding.proofs.Roundings.{near_neg}
use Rattle.ranges.specs.Range.{largest}
use Rattle.model.specs.Sheet.{scale, most_coef, no_term, ±◌, within, coef_limits, in_range, step_within, step_verdict, head_verdict, term_verdict, terms_verdict, sheet_verdict_to, sheet_verdict, listed, terms_of, starts_of}
use Rattle.model.specs.Step.{brings_ℤ, greatest, factors, brings, coef_of, coefs, size, ratio_by, ratio, Coefficients, times, share, next_coefficient, coefficients_to, new_row, step_row}
use Rattle.model.specs.LikeTerms.{like, coefs_like, filter, summed, nonzero, gathered}
use Rattle.model.specs.declared.Ball.{Ball}
use Rattle.model.specs.Passage.{slow, advance, go_on, follow, places_needed, run, passage}
use Rattle.model.specs.declared.Term.{Term}
use Rattle.model.specs.declared.Sheet.{Sheet}
use Rattle.ranges.proofs.Ranges.{sum_equal, sum_ℤ_equal, tabulate_equal, map_tabulate}
use Rattle.laws.proofs.Bounds.Reach.{scale_positive}
use Rattle.laws.proofs.Gathering.Like.{like_self}
use Rattle.laws.proofs.Gathering.Gathered.{coefs_same}
use Rattle.laws.proofs.Text.Verdicts.{in_order_equal}
use Rattle.laws.proofs.Passages.RowsOfPassage.{passage_alike}

-- ---- terms

-- a term of the opposite rate
abbrev pub opposite : Term → Term
opposite term = record { to = term.to; coef = neg_ℤ term.coef; first = term.first; second = term.second }

get_or_opposite : (terms : List Term) (j : ℕ) → get_or (map opposite terms) j no_term ≡ opposite (get_or terms j no_term)
unfolding no_term
get_or_opposite terms j = get_or-map opposite terms j no_term

-- gathered: the sums have the other sign, and the same ones are 0
coefs_like_opposite : (t : Term) (ts : List Term) → coefs_like t (map opposite ts) ≡ neg_ℤ (coefs_like t ts)
unfolding coefs_like like
coefs_like_opposite t [] = refl
coefs_like_opposite t (u ∷ us) =
    ap₂ (λ (x y : ℤ). x +ℤ y) (share (like t u)) (coefs_like_opposite t us) ∙ sym (neg_ℤ-+ℤ (cond (like t u) u.coef (pos 0)) (coefs_like t us))
  where
    share : (b : Bool) → cond b (neg_ℤ u.coef) (pos 0) ≡ neg_ℤ (cond b u.coef (pos 0))
    share true = refl
    share false = refl

filter_opposite : (test : Term → Bool) → ((t : Term) → test (opposite t) ≡ test t) → (ts : List Term) → filter test (map opposite ts) ≡ map opposite (filter test ts)
unfolding filter
filter_opposite test same [] = refl
filter_opposite test same (t ∷ ts) = rw (same t, filter_opposite test same ts) (go (test t))
  where
    go : (b : Bool) → cond b (opposite t ∷ map opposite (filter test ts)) (map opposite (filter test ts)) ≡ map opposite (cond b (t ∷ filter test ts) (filter test ts))
    go true = refl
    go false = refl

summed_opposite : (ts : List Term) → summed (map opposite ts) ≡ map opposite (summed ts)
unfolding summed like
summed_opposite [] = refl
summed_opposite (t ∷ ts) =
    ap₂ (λ (c : ℤ) (us : List Term). record { to = t.to; coef = c; first = t.first; second = t.second } ∷ us) (ap (λ (z : ℤ). neg_ℤ t.coef +ℤ z) (coefs_same (opposite t) t (like_self t) (map opposite ts) ∙ coefs_like_opposite t ts) ∙ sym (neg_ℤ-+ℤ t.coef (coefs_like t ts))) (ap (filter (λ u. not (like t u))) (summed_opposite ts) ∙ filter_opposite (λ u. not (like t u)) (λ u. refl) (summed ts))

gathered_opposite : (ts : List Term) → gathered (map opposite ts) ≡ map opposite (gathered ts)
unfolding gathered nonzero
gathered_opposite ts = ap (filter nonzero) (summed_opposite ts) ∙ filter_opposite nonzero (λ t. rw (abs_neg t.coef)) (summed ts)

-- ---- a step

-- v and g: both signs are lost in a product of the two
times_opposite : (a H : ℤ) (ball : Ball) → times (neg_ℤ a) (times (neg_ℤ H) ball) ≡ times a (times H ball)
unfolding times
times_opposite a H ball =
    λ t. record {
      value = near (value t) scale;
      radius = up (abs_neg a t * (up (abs_neg H t * ball.radius) scale + 1)) scale + 1;
    }
  where
    Q : ℤ
    Q = near (H *ℤ ball.value) scale

    value : neg_ℤ a *ℤ near (neg_ℤ H *ℤ ball.value) scale ≡ a *ℤ Q
    value =
        ap (λ (z : ℤ). neg_ℤ a *ℤ near z scale) (neg_mul_ℤ H ball.value) ∙ ap (λ (z : ℤ). neg_ℤ a *ℤ z) (near_neg (H *ℤ ball.value) scale_positive)
        ∙ neg_mul_ℤ a (neg_ℤ Q) ∙ ap neg_ℤ (mul_neg_ℤ a Q) ∙ neg_ℤ-neg_ℤ (a *ℤ Q)

module _ (terms : List Term) (H : ℤ) where
  coefs_opposite : (target count : ℕ) → coefs (map opposite terms) target count ≡ coefs terms target count
  unfolding coefs brings coef_of factors
  coefs_opposite target count =
      rw (length-map terms opposite)
      (sum_equal (length terms) _ _ (λ j h. rw (get_or_opposite terms j, abs_neg (get_or terms j no_term).coef)))

  ratio_opposite : (n G : ℕ) → ratio (map opposite terms) (neg_ℤ H) n G ≡ ratio terms H n G
  unfolding ratio ratio_by
  ratio_opposite n G = ap₂ (λ (Z : ℕ → ℕ → ℕ) (m : ℕ). up (largest n (λ i. size G (Z i)) * m) scale) (λ t i count. coefs_opposite (suc i) count t) (abs_neg H)

  share_opposite : (table : Coefficients) (k j : ℕ) → share (neg_ℤ H) table k (get_or (map opposite terms) j no_term) ≡ share H table k (get_or terms j no_term)
  unfolding share
  share_opposite table k j = rw (get_or_opposite terms j) (times_opposite (get_or terms j no_term).coef H _)

  next_opposite : (table : Coefficients) (k i : ℕ) → next_coefficient (map opposite terms) (neg_ℤ H) table k i ≡ next_coefficient terms H table k i
  unfolding next_coefficient brings_ℤ brings
  next_opposite table k i =
      rw (length-map terms opposite)
      (ap₂ (λ (z : ℤ) (m : ℕ). record { value = near z (suc k); radius = up m (suc k) + 1 }) (sum_ℤ_equal (length terms) _ _ (λ j h. rw (share_opposite table k j, get_or_opposite terms j))) (sum_equal (length terms) _ _ (λ j h. rw (share_opposite table k j, get_or_opposite terms j))))

  coefficients_opposite : (balls : List Ball) (k : ℕ) → coefficients_to (map opposite terms) (neg_ℤ H) balls k ≡ coefficients_to terms H balls k
  unfolding coefficients_to
  coefficients_opposite balls zero = refl
  coefficients_opposite balls (suc k) =
      rw (coefficients_opposite balls k)
      (ap (λ (row : List Ball). coefficients_to terms H balls k ++ (row ∷ [])) (tabulate_equal (length balls) _ _ (λ i h. next_opposite (coefficients_to terms H balls k) k i)))

  row_opposite : (limit : ℕ) (balls : List Ball) → step_row (map opposite terms) (neg_ℤ H) limit balls ≡ step_row terms H limit balls
  unfolding step_row new_row
  row_opposite limit balls = rw (ratio_opposite (length balls) (greatest balls), coefficients_opposite balls _)

  advance_opposite : (limit tol : ℕ) (balls : List Ball) → advance (map opposite terms) (neg_ℤ H) limit tol balls ≡ advance terms H limit tol balls
  unfolding advance slow
  advance_opposite limit tol balls = rw (ratio_opposite (length balls) (greatest balls), row_opposite limit balls)

  follow_opposite : (limit tol left step : ℕ) (balls : List Ball) → follow (map opposite terms) (neg_ℤ H) limit tol left step balls ≡ follow terms H limit tol left step balls
  unfolding follow
  follow_opposite limit tol zero step balls = refl
  follow_opposite limit tol (suc left) step balls =
      λ t. go_on (advance_opposite limit tol balls t) step (λ row. follow_opposite limit tol left (suc step) row.balls t)

-- ---- a sheet

-- its step and every coefficient with the other sign
abbrev pub opposite_sheet : Sheet → Sheet
opposite_sheet sheet =
    record {
      head = record { n = sheet.head.n; steps = sheet.head.steps; step = neg_ℤ sheet.head.step; tail = sheet.head.tail; tol = sheet.head.tol };
      quantities = sheet.quantities;
      terms = record { count = sheet.terms.count; list = map opposite sheet.terms.list };
    }

-- -high .. high is a range of magnitudes
within_magnitude : (high : ℕ) (z : ℤ) → within (± high) z ≡ leb (nat_abs z) high
unfolding within ±◌
within_magnitude zero (pos n) = rw (le-leb 0 n (omega arith))
within_magnitude zero (negsuc n) = sym (lt-leb (suc n) 0 (omega arith))
within_magnitude (suc high) (pos n) = refl
within_magnitude (suc high) (negsuc n) = go (leb n high) refl
  where
    go : (b : Bool) → leb n high ≡ b → (leb n high && true) ≡ leb (suc n) (suc high)
    go true e = rw (e, le-leb (suc n) (suc high) (omega (arith, leb-true n high e)))
    go false e = rw (e, lt-leb (suc n) (suc high) (omega (arith, leb-false n high e)))

module _ (sheet : Sheet) where
  term_verdict_opposite : (n : ℕ) (term : Term) → term_verdict n (opposite term) ≡ term_verdict n term
  unfolding term_verdict in_range coef_limits
  term_verdict_opposite n term = rw (within_magnitude most_coef (neg_ℤ term.coef), abs_neg term.coef, within_magnitude most_coef term.coef)

  verdict_opposite : sheet_verdict (opposite_sheet sheet) ≡ sheet_verdict sheet
  unfolding sheet_verdict_to head_verdict step_verdict step_within terms_verdict
  verdict_opposite =
      rw (
        abs_neg sheet.head.step,
        in_order_equal sheet.terms.count (λ j. term_verdict sheet.head.n (get_or (map opposite sheet.terms.list) j no_term)) (λ j. term_verdict sheet.head.n (get_or sheet.terms.list j no_term)) (λ j h. rw (get_or_opposite sheet.terms.list j) (term_verdict_opposite sheet.head.n (get_or sheet.terms.list j no_term))),
      )

  terms_opposite : terms_of (opposite_sheet sheet) ≡ map opposite (terms_of sheet)
  unfolding terms_of listed
  terms_opposite =
      tabulate_equal sheet.terms.count _ _ (λ j h. get_or_opposite sheet.terms.list j) ∙ sym (map_tabulate sheet.terms.count (λ j. get_or sheet.terms.list j no_term) opposite)

  run_opposite : run (opposite_sheet sheet) ≡ run sheet
  unfolding run starts_of
  run_opposite = rw (terms_opposite, gathered_opposite) (follow_opposite (gathered (terms_of sheet)) sheet.head.step sheet.head.tail sheet.head.tol sheet.head.steps 1 _)

  pub passage_opposite : (places : ℕ) → passage (opposite_sheet sheet) places ≡ passage sheet places
  unfolding places_needed
  passage_opposite places = passage_alike (opposite_sheet sheet) sheet places verdict_opposite refl run_opposite
