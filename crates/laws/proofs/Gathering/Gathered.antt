-- What 'like terms are added, in the place of the earliest; a sum of 0 drops out' says of the gathered terms, by the terms as read: they are
-- pairwise unlike, none is 0, each coefficient is the sum of those that are like it, and no such sum is lost; they stand in the order of the
-- earliest, each with its factors in that one's order.
use Prim.Native.Nat.{ℕ, suc, ◌<◌}
use mathlib.Core.Bool.{Bool, true, false, not, cond}
use mathlib.Core.List.{List, [], ◌∷◌}
use mathlib.Core.Path.{◌≡◌, refl, sym, ap, ap₂, ◌∙◌}
use native.Mathlib.Omega.{arith}
use borrow.Author.Tests.{eqb-true, eqb-false, not-true, not-false}
use lib.IntN.{ℤ, pos, nat_abs, ◌+ℤ◌, +ℤ_idl, +ℤ_idr}
use lib.ListN.{length, get_or}
use Rattle.rounding.proofs.Integers.{abs_zero}
use Rattle.ranges.specs.Range.{least}
use Rattle.model.specs.Sheet.{no_term}
use Rattle.model.specs.LikeTerms.{like, coefs_like, filter, summed, nonzero, gathered}
use Rattle.model.specs.declared.Term.{Term}
use Rattle.ranges.proofs.Lists.{Each, none, entry_first, each_at, each_map, each_both, EachLater, pair_first, later_at, later_map}
use Rattle.laws.proofs.Gathering.Filters.{filter_ind, each_filter, each_passes, later_filter}
use Rattle.laws.proofs.Gathering.Like.{like_self, like_same, like_back}

-- ---- the tests

-- a term with another coefficient; no test of likeness looks at it
abbrev pub with_coef : Term → ℤ → Term
with_coef t c = record { to = t.to; coef = c; first = t.first; second = t.second }

abbrev pub unlike : Term → Term → Bool
unlike t u = not (like t u)

pub zero_coef : (t : Term) → nonzero t ≡ false → t.coef ≡ pos 0
unfolding nonzero
zero_coef t e = abs_zero t.coef (eqb-true (nat_abs t.coef) 0 (not-false _ e))

-- ---- the sum of those that are like a term

pub coefs_like_lem : (a t : Term) (ts : List Term) → like a t ≡ true → coefs_like a (t ∷ ts) ≡ t.coef +ℤ coefs_like a ts
unfolding coefs_like
coefs_like_lem a t ts e = ap (λ (b : Bool). cond b t.coef (pos 0) +ℤ coefs_like a ts) e

pub coefs_unlike : (a t : Term) (ts : List Term) → like a t ≡ false → coefs_like a (t ∷ ts) ≡ coefs_like a ts
unfolding coefs_like
coefs_unlike a t ts e = ap (λ (b : Bool). cond b t.coef (pos 0) +ℤ coefs_like a ts) e ∙ +ℤ_idl (coefs_like a ts)

-- terms that are like one another have the same sum
pub coefs_same : (a b : Term) → like a b ≡ true → (ts : List Term) → coefs_like a ts ≡ coefs_like b ts
unfolding coefs_like
coefs_same a b e [] = refl
coefs_same a b e (t ∷ ts) = ap₂ (λ (x : Bool) (z : ℤ). cond x t.coef (pos 0) +ℤ z) (like_same a b e t) (coefs_same a b e ts)

-- none is left among those that are unlike it; those that are unlike another term are all left
coefs_without : (a : Term) (ts : List Term) → coefs_like a (filter (unlike a) ts) ≡ pos 0
unfolding coefs_like
coefs_without a =
    filter_ind (unlike a) (λ ts left. coefs_like a left ≡ pos 0) refl (λ t ts e rest. coefs_unlike a t (filter (unlike a) ts) (not-true _ e) ∙ rest) (λ t ts e rest. rest)

coefs_apart : (a b : Term) → like b a ≡ false → (ts : List Term) → coefs_like a (filter (unlike b) ts) ≡ coefs_like a ts
unfolding coefs_like
coefs_apart a b apart =
    filter_ind (unlike b) (λ ts left. coefs_like a left ≡ coefs_like a ts) refl (λ t ts e rest. ap (λ (z : ℤ). cond (like a t) t.coef (pos 0) +ℤ z) rest) (λ t ts e rest. rest ∙ sym (coefs_unlike a t ts (other t (not-false _ e))))
  where
    other : (t : Term) → like b t ≡ true → like a t ≡ false
    other t e = like_back a t ∙ sym (like_same b t e a) ∙ apart

-- adding like terms keeps the sum, and so does leaving out those that are 0
pub coefs_summed : (a : Term) (ts : List Term) → coefs_like a (summed ts) ≡ coefs_like a ts
unfolding coefs_like summed
coefs_summed a [] = refl
coefs_summed a (t ∷ ts) = go (like a t) refl (coefs_summed a ts)
  where
    sum : Term
    sum = with_coef t (t.coef +ℤ coefs_like t ts)

    others : List Term
    others = filter (unlike t) (summed ts)

    go : (b : Bool) → like a t ≡ b → coefs_like a (summed ts) ≡ coefs_like a ts → coefs_like a (sum ∷ others) ≡ coefs_like a (t ∷ ts)
    go true e rest =
        coefs_like_lem a sum others (unfold like in e) ∙ ap (λ (z : ℤ). t.coef +ℤ coefs_like t ts +ℤ z) (coefs_same a t e others ∙ coefs_without t (summed ts)) ∙ +ℤ_idr (t.coef +ℤ coefs_like t ts)
        ∙ ap (λ (z : ℤ). t.coef +ℤ z) (sym (coefs_same a t e ts)) ∙ sym (coefs_like_lem a t ts e)
    go false e rest =
        coefs_unlike a sum others (unfold like in e) ∙ coefs_apart a t (like_back t a ∙ e) (summed ts) ∙ rest ∙ sym (coefs_unlike a t ts e)

coefs_nonzero : (a : Term) (ts : List Term) → coefs_like a (filter nonzero ts) ≡ coefs_like a ts
unfolding coefs_like
coefs_nonzero a =
    filter_ind nonzero (λ ts left. coefs_like a left ≡ coefs_like a ts) refl (λ t ts e rest. ap (λ (z : ℤ). cond (like a t) t.coef (pos 0) +ℤ z) rest) (λ t ts e rest. rest ∙ sym (nothing (like a t) t ts (zero_coef t e)))
  where
    nothing : (b : Bool) (t : Term) (ts : List Term) → t.coef ≡ pos 0 → cond b t.coef (pos 0) +ℤ coefs_like a ts ≡ coefs_like a ts
    nothing true t ts e = rw e (+ℤ_idl (coefs_like a ts))
    nothing false t ts e = +ℤ_idl (coefs_like a ts)

-- no sum is lost: of any target and factors, the gathered terms have the sum of the terms as read
pub coefs_gathered : (a : Term) (terms : List Term) → coefs_like a (gathered terms) ≡ coefs_like a terms
unfolding gathered
coefs_gathered a terms = coefs_nonzero a (summed terms) ∙ coefs_summed a terms

-- ---- each gathered term

summed_unlike : (ts : List Term) → EachLater (λ a b. like a b ≡ false) (summed ts)
unfolding summed
summed_unlike [] = none
summed_unlike (t ∷ ts) = pair_first (each_map apart (each_passes (unlike t) (summed ts))) (later_filter (unlike t) (summed ts) (summed_unlike ts))
  where
    apart : (u : Term) → unlike t u ≡ true → like (with_coef t (t.coef +ℤ coefs_like t ts)) u ≡ false
    apart u e = unfold like in not-true _ e

summed_coef : (ts : List Term) → Each (λ t. t.coef ≡ coefs_like t ts) (summed ts)
unfolding summed
summed_coef [] = none
summed_coef (t ∷ ts) = entry_first own (each_map other (each_both (each_filter (unlike t) (summed ts) (summed_coef ts)) (each_passes (unlike t) (summed ts))))
  where
    own : t.coef +ℤ coefs_like t ts ≡ coefs_like (with_coef t (t.coef +ℤ coefs_like t ts)) (t ∷ ts)
    own = sym (coefs_same (with_coef t (t.coef +ℤ coefs_like t ts)) t (unfold like in like_self t) (t ∷ ts) ∙ coefs_like_lem t t ts (like_self t))

    other : (u : Term) → (u.coef ≡ coefs_like u ts) × (unlike t u ≡ true) → u.coef ≡ coefs_like u (t ∷ ts)
    other u is = is.0 ∙ sym (coefs_unlike u t ts (like_back u t ∙ not-true _ is.1))

module _ (terms : List Term) where
  -- no two are like
  pub gathered_unlike : (i j : ℕ) → i < j → j < length (gathered terms) → like (get_or (gathered terms) i no_term) (get_or (gathered terms) j no_term) ≡ false
  unfolding gathered
  gathered_unlike = later_at no_term (later_filter nonzero (summed terms) (summed_unlike terms))

  -- none is 0
  pub gathered_nonzero : (j : ℕ) → j < length (gathered terms) → nat_abs (get_or (gathered terms) j no_term).coef ≡ 0 → ⊥
  unfolding gathered nonzero
  gathered_nonzero j h = eqb-false _ 0 (not-true _ (each_at no_term (each_passes nonzero (summed terms)) j h))

  -- each coefficient is the sum of those of the terms as read that are like it
  pub gathered_coef : (j : ℕ) → j < length (gathered terms) → (get_or (gathered terms) j no_term).coef ≡ coefs_like (get_or (gathered terms) j no_term) terms
  unfolding gathered
  gathered_coef = each_at no_term (each_filter nonzero (summed terms) (summed_coef terms))

-- ---- in the place of the earliest

-- the place of the first term as read that is like this one
unfoldable pub earliest : List Term → Term → ℕ
earliest terms t = least (length terms) (λ j. like t (get_or terms j no_term))

earliest_by : (b : Bool) (u t : Term) (ts : List Term) → like u t ≡ b → earliest (t ∷ ts) u ≡ elim b [ true ↦ 0 | false ↦ suc (earliest ts u) ]
unfolding earliest least
earliest_by b u t ts e = ap (λ (x : Bool). elim x [ true ↦ 0 | false ↦ suc (least (length ts) (λ j. like u (get_or ts j no_term))) ]) e

-- it is there, and has the same target and the same factors in the same order
pub record InPlace (terms : List Term) (t : Term) : Type 0 where
  pub there : earliest terms t < length terms
  pub to : t.to ≡ (get_or terms (earliest terms t) no_term).to
  pub first : t.first ≡ (get_or terms (earliest terms t) no_term).first
  pub second : t.second ≡ (get_or terms (earliest terms t) no_term).second

module _ (t : Term) (ts : List Term) where
  sum_in_place : (c : ℤ) → InPlace (t ∷ ts) (with_coef t c)
  sum_in_place c =
      let here = earliest_by true (with_coef t c) t ts (unfold like in like_self t) in
      record { there = rw here (omega arith); to = rw here; first = rw here; second = rw here }

  other_in_place : (u : Term) → InPlace ts u × (unlike t u ≡ true) → InPlace (t ∷ ts) u
  other_in_place u is =
      let later = earliest_by false u t ts (like_back u t ∙ not-true _ is.1) in
      record { there = rw later (omega (arith, is.0.there)); to = rw later is.0.to; first = rw later is.0.first; second = rw later is.0.second }

summed_in_place : (ts : List Term) → Each (InPlace ts) (summed ts)
unfolding summed
summed_in_place [] = none
summed_in_place (t ∷ ts) = entry_first (sum_in_place t ts _) (each_map (other_in_place t ts) (each_both (each_filter (unlike t) (summed ts) (summed_in_place ts)) (each_passes (unlike t) (summed ts))))

summed_in_order : (ts : List Term) → EachLater (λ a b. earliest ts a < earliest ts b) (summed ts)
unfolding summed
summed_in_order [] = none
summed_in_order (t ∷ ts) = pair_first (each_map after (each_passes (unlike t) (summed ts))) (later_map both_after (each_passes (unlike t) (summed ts)) (later_filter (unlike t) (summed ts) (summed_in_order ts)))
  where
    sum : Term
    sum = with_coef t (t.coef +ℤ coefs_like t ts)

    here : earliest (t ∷ ts) sum ≡ 0
    here = earliest_by true sum t ts (unfold like in like_self t)

    later : (u : Term) → unlike t u ≡ true → earliest (t ∷ ts) u ≡ suc (earliest ts u)
    later u e = earliest_by false u t ts (like_back u t ∙ not-true _ e)

    after : (u : Term) → unlike t u ≡ true → earliest (t ∷ ts) sum < earliest (t ∷ ts) u
    after u e = omega (arith, here, later u e)

    both_after : (a b : Term) → unlike t a ≡ true → unlike t b ≡ true → earliest ts a < earliest ts b → earliest (t ∷ ts) a < earliest (t ∷ ts) b
    both_after a b e f l = omega (arith, later a e, later b f, l)

module _ (terms : List Term) where
  pub gathered_in_place : (j : ℕ) → j < length (gathered terms) → InPlace terms (get_or (gathered terms) j no_term)
  unfolding gathered
  gathered_in_place = each_at no_term (each_filter nonzero (summed terms) (summed_in_place terms))

  pub gathered_in_order : (i j : ℕ) → i < j → j < length (gathered terms) → earliest terms (get_or (gathered terms) i no_term) < earliest terms (get_or (gathered terms) j no_term)
  unfolding gathered
  gathered_in_order = later_at no_term (later_filter nonzero (summed terms) (summed_in_order terms))
