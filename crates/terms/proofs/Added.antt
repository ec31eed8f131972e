-- Like terms summed one after the other: each is added to the first that it is like, or else stands behind them all.
use Prim.Native.Nat.{ℕ, zero, suc, ◌≤◌, ◌<◌}
use mathlib.Core.Bool.{Bool, true, false, not, cond}
use mathlib.Core.List.{List, [], ◌∷◌, ◌++◌}
use mathlib.Core.Path.{◌≡◌, refl, sym, ap, ap₂, ◌∙◌}
use native.Mathlib.Omega.{arith}
use lib.IntN.{ℤ, pos, ◌+ℤ◌, +ℤ_idl, +ℤ_idr, +ℤ_assoc}
use lib.ListN.{length, get_or, set}
use lib.Dec.{ltb}
use borrow.Author.Tests.{ltb-false}
use Rattle.std.proofs.Common.{Some, None}
use Rattle.std.specs.List.{position, position_or_len}
use Rattle.std.proofs.lemmas.List.Quantifiers.{position-Some}
use Rattle.std.proofs.lemmas.List.Sums.{fails_before_first}
use Rattle.model.specs.Sheet.{no_term}
use Rattle.model.specs.LikeTerms.{like, coefs_like, filter, summed}
use Rattle.model.specs.declared.Term.{Term}
use Rattle.laws.proofs.Gathering.Like.{like_same, like_back}
use Rattle.laws.proofs.Gathering.Filters.{filter_first}
use Rattle.laws.proofs.Gathering.Gathered.{with_coef, unlike}

-- ---- one term more

unfoldable pub added : List Term → Term → List Term
added [] t = t ∷ []
added (u ∷ us) t = cond (like u t) (with_coef u (u.coef +ℤ t.coef) ∷ us) (u ∷ added us t)

module _ (u : Term) (us : List Term) (t : Term) where
  -- by whether it is like the first of them
  added_by : (b : Bool) → like u t ≡ b → added (u ∷ us) t ≡ cond b (with_coef u (u.coef +ℤ t.coef) ∷ us) (u ∷ added us t)
  unfolding added
  added_by b e = ap (λ (x : Bool). cond x (with_coef u (u.coef +ℤ t.coef) ∷ us) (u ∷ added us t)) e

-- by the place of the first that it is like
pub added_to : (us : List Term) (t : Term) (i : ℕ) → i < length us → ((k : ℕ) → k < i → like (get_or us k no_term) t ≡ false) → like (get_or us i no_term) t ≡ true → added us t ≡ set us i (with_coef (get_or us i no_term) ((get_or us i no_term).coef +ℤ t.coef))
added_to [] t i h before e = absurd (omega arith)
added_to (u ∷ us) t zero h before e = added_by u us t true e
added_to (u ∷ us) t (suc i) h before e =
    added_by u us t false (before 0 (omega arith)) ∙ ap (λ (rest : List Term). u ∷ rest) (added_to us t i (omega arith) (λ k l. before (suc k) (omega arith)) e)

pub added_behind : (us : List Term) (t : Term) → ((k : ℕ) → k < length us → like (get_or us k no_term) t ≡ false) → added us t ≡ us ++ (t ∷ [])
added_behind [] t none = unfold added in refl
added_behind (u ∷ us) t none =
    added_by u us t false (none 0 (omega arith)) ∙ ap (λ (rest : List Term). u ∷ rest) (added_behind us t (λ k l. none (suc k) (omega arith)))

-- as `position` gives the place: it is one of theirs, and there is none
found_at : (us : List Term) (t : Term) (i : ℕ) → Some i ≡ position (λ u. like u t) us → (i < length us) × (like (get_or us i no_term) t ≡ true) × ((k : ℕ) → k < i → like (get_or us k no_term) t ≡ false)
found_at us t i e = position-Some (λ u. like u t) us i no_term (sym e)

pub found_below : (us : List Term) (t : Term) (i : ℕ) → Some i ≡ position (λ u. like u t) us → i < length us
found_below us t i e = (found_at us t i e).0

pub added_found : (us : List Term) (t : Term) (i : ℕ) → Some i ≡ position (λ u. like u t) us → added us t ≡ set us i (with_coef (get_or us i no_term) ((get_or us i no_term).coef +ℤ t.coef))
added_found us t i e = let at = found_at us t i e in added_to us t i at.0 at.2 at.1

pub added_none : (us : List Term) (t : Term) → None ≡ position (λ u. like u t) us → added us t ≡ us ++ (t ∷ [])
added_none us t e =
    added_behind us t (λ k h. fails_before_first (λ u. like u t) us k no_term (omega (arith, past (ltb (position_or_len (λ u. like u t) us) (length us)) refl e)))
  where
    past : (b : Bool) → ltb (position_or_len (λ u. like u t) us) (length us) ≡ b → None ≡ cond b (Some (position_or_len (λ u. like u t) us)) None → length us ≤ position_or_len (λ u. like u t) us
    past true is h = cc
    past false is h = ltb-false _ _ is

-- ---- it is the sum with one term more

coefs_behind : (a : Term) (ts : List Term) (t : Term) → coefs_like a (ts ++ (t ∷ [])) ≡ coefs_like a ts +ℤ cond (like a t) t.coef (pos 0)
unfolding coefs_like
coefs_behind a [] t = +ℤ_idr (cond (like a t) t.coef (pos 0)) ∙ sym (+ℤ_idl (cond (like a t) t.coef (pos 0)))
coefs_behind a (u ∷ ts) t =
    ap (λ (z : ℤ). cond (like a u) u.coef (pos 0) +ℤ z) (coefs_behind a ts t) ∙ sym (+ℤ_assoc (cond (like a u) u.coef (pos 0)) (coefs_like a ts) (cond (like a t) t.coef (pos 0)))

-- among those that are unlike a term nothing is added where the new one is like it
added_out : (x t : Term) → like x t ≡ true → (us : List Term) → filter (unlike x) (added us t) ≡ filter (unlike x) us
unfolding added like
added_out x t e [] = filter_first (unlike x) false t [] (ap not e)
added_out x t e (u ∷ us) = go (like u t) refl (added_out x t e us)
  where
    same : like x u ≡ like u t
    same = like_same x t e u ∙ like_back t u

    go : (b : Bool) → like u t ≡ b → filter (unlike x) (added us t) ≡ filter (unlike x) us → filter (unlike x) (added (u ∷ us) t) ≡ filter (unlike x) (u ∷ us)
    go true is rest =
        ap (filter (unlike x)) (added_by u us t true is) ∙ filter_first (unlike x) false (with_coef u (u.coef +ℤ t.coef)) us (unfold like in ap not (same ∙ is)) ∙ sym (filter_first (unlike x) false u us (ap not (same ∙ is)))
    go false is rest =
        ap (filter (unlike x)) (added_by u us t false is) ∙ filter_first (unlike x) true u (added us t) (ap not (same ∙ is)) ∙ ap (λ (vs : List Term). u ∷ vs) rest ∙ sym (filter_first (unlike x) true u us (ap not (same ∙ is)))

-- and otherwise it is added among them
added_in : (x t : Term) → like x t ≡ false → (us : List Term) → filter (unlike x) (added us t) ≡ added (filter (unlike x) us) t
unfolding added filter
added_in x t e [] = filter_first (unlike x) true t [] (ap not e)
added_in x t e (u ∷ us) = go (like u t) (like x u) refl refl (added_in x t e us)
  where
    apart : like u t ≡ true → like x u ≡ false
    apart is = like_back x u ∙ like_same u t is x ∙ like_back t x ∙ e

    go : (b c : Bool) → like u t ≡ b → like x u ≡ c → filter (unlike x) (added us t) ≡ added (filter (unlike x) us) t → filter (unlike x) (added (u ∷ us) t) ≡ added (filter (unlike x) (u ∷ us)) t
    go true c is other rest =
        ap (filter (unlike x)) (added_by u us t true is) ∙ filter_first (unlike x) true (with_coef u (u.coef +ℤ t.coef)) us (unfold like in ap not (apart is)) ∙ sym (added_by u (filter (unlike x) us) t true is)
        ∙ ap (λ (vs : List Term). added vs t) (sym (filter_first (unlike x) true u us (ap not (apart is))))
    go false true is other rest =
        ap (filter (unlike x)) (added_by u us t false is) ∙ filter_first (unlike x) false u (added us t) (ap not other) ∙ rest ∙ ap (λ (vs : List Term). added vs t) (sym (filter_first (unlike x) false u us (ap not other)))
    go false false is other rest =
        ap (filter (unlike x)) (added_by u us t false is) ∙ filter_first (unlike x) true u (added us t) (ap not other) ∙ ap (λ (vs : List Term). u ∷ vs) rest ∙ sym (added_by u (filter (unlike x) us) t false is)
        ∙ ap (λ (vs : List Term). added vs t) (sym (filter_first (unlike x) true u us (ap not other)))

pub summed_more : (ts : List Term) (t : Term) → summed (ts ++ (t ∷ [])) ≡ added (summed ts) t
unfolding summed coefs_like filter added
summed_more [] t = ap (λ (c : ℤ). with_coef t c ∷ []) (+ℤ_idr t.coef)
summed_more (x ∷ ts) t = ap₂ (λ (z : ℤ) (us : List Term). with_coef x (x.coef +ℤ z) ∷ filter (unlike x) us) (coefs_behind x ts t) (summed_more ts t) ∙ go (like x t) refl
  where
    sum : Term
    sum = with_coef x (x.coef +ℤ coefs_like x ts)

    go : (b : Bool) → like x t ≡ b → with_coef x (x.coef +ℤ (coefs_like x ts +ℤ cond (like x t) t.coef (pos 0))) ∷ filter (unlike x) (added (summed ts) t) ≡ added (sum ∷ filter (unlike x) (summed ts)) t
    go true e =
        ap₂ (λ (b : Bool) (us : List Term). with_coef x (x.coef +ℤ (coefs_like x ts +ℤ cond b t.coef (pos 0))) ∷ us) e (added_out x t e (summed ts)) ∙ ap (λ (c : ℤ). with_coef x c ∷ filter (unlike x) (summed ts)) (sym (+ℤ_assoc x.coef (coefs_like x ts) t.coef))
        ∙ sym (added_by sum (filter (unlike x) (summed ts)) t true (unfold like in e))
    go false e =
        ap₂ (λ (b : Bool) (us : List Term). with_coef x (x.coef +ℤ (coefs_like x ts +ℤ cond b t.coef (pos 0))) ∷ us) e (added_in x t e (summed ts)) ∙ ap (λ (c : ℤ). with_coef x (x.coef +ℤ c) ∷ added (filter (unlike x) (summed ts)) t) (+ℤ_idr (coefs_like x ts))
        ∙ sym (added_by sum (filter (unlike x) (summed ts)) t false (unfold like in e))
