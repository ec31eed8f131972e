-- Like terms: what the test says, and that it is an equivalence. It does not look at the coefficients.
use mathlib.Core.Bool.{Bool, true, false, ◌&&◌, ◌||◌, and_comm, or_comm, or-true}
use mathlib.Core.Path.{◌≡◌, refl, sym, ap₂, ◌∙◌}
use lib.Dec.{eqb}
use borrow.Author.Tests.{eqb-true, eq-eqb}
use Rattle.model.specs.LikeTerms.{like}
use Rattle.model.specs.declared.Term.{Term}
use Rattle.ranges.proofs.EveryLaws.{both_true}

-- ---- what the test says

-- the same two factors, in either order
pub data SameFactors (a b : Term) : Type 0 where
  in_order : a.first ≡ b.first → a.second ≡ b.second → SameFactors a b
  changed_over : a.first ≡ b.second → a.second ≡ b.first → SameFactors a b

-- and the same target
pub record Alike (a b : Term) : Type 0 where
  pub to : a.to ≡ b.to
  pub factors : SameFactors a b

-- whatever the coefficients
pub like_is : (a b : Term) → Alike a b → like a b ≡ true
unfolding like
like_is a b l = go l.factors
  where
    go : SameFactors a b → like a b ≡ true
    go (in_order p q) = unfold like in rw (l.to, p, q, eq-eqb b.to b.to refl, eq-eqb b.first b.first refl, eq-eqb b.second b.second refl)
    go (changed_over p q) = unfold like in rw (l.to, p, q, eq-eqb b.to b.to refl, eq-eqb b.first b.first refl, eq-eqb b.second b.second refl) (or-true (eqb b.second b.first && eqb b.first b.second))

pub like_says : (a b : Term) → like a b ≡ true → Alike a b
unfolding like
like_says a b e =
    let parts = both_true (eqb a.to b.to) _ e in
    record { to = eqb-true _ _ parts.0; factors = go (eqb a.first b.first && eqb a.second b.second) refl parts.1 }
  where
    go : (ordered : Bool) → (eqb a.first b.first && eqb a.second b.second) ≡ ordered → (ordered || eqb a.first b.second && eqb a.second b.first) ≡ true → SameFactors a b
    go true is e =
        let p = both_true (eqb a.first b.first) _ is in
        in_order (eqb-true _ _ p.0) (eqb-true _ _ p.1)
    go false is e =
        let p = both_true (eqb a.first b.second) _ e in
        changed_over (eqb-true _ _ p.0) (eqb-true _ _ p.1)

-- ---- an equivalence

pub like_self : (a : Term) → like a a ≡ true
like_self a = like_is a a (record { to = refl; factors = in_order refl refl })

-- a term is like the same terms as one that is like it
pub like_same : (a b : Term) → like a b ≡ true → (c : Term) → like a c ≡ like b c
unfolding like
like_same a b e c = go (like_says a b e)
  where
    turned : (p q r s : Bool) → (s && r || q && p) ≡ (p && q || r && s)
    turned p q r s = or_comm (s && r) (q && p) ∙ ap₂ (λ (x y : Bool). x || y) (and_comm q p) (and_comm s r)

    go : Alike a b → like a c ≡ like b c
    go l = either l.factors
      where
        either : SameFactors a b → like a c ≡ like b c
        either (in_order p q) = unfold like in rw (l.to, p, q)
        either (changed_over p q) = unfold like in rw (l.to, p, q, turned (eqb b.first c.first) (eqb b.second c.second) (eqb b.first c.second) (eqb b.second c.first))

pub like_back : (a b : Term) → like a b ≡ like b a
like_back a b = go (like a b) (like b a) refl refl
  where
    go : (x y : Bool) → like a b ≡ x → like b a ≡ y → like a b ≡ like b a
    go true y e f = e ∙ sym (sym (like_same a b e a) ∙ like_self a)
    go false false e f = e ∙ sym f
    go false true e f = sym (like_same b a f b) ∙ like_self b ∙ sym f
