-- What the words say of the gathered terms, as one record, and that no other list has it.
use Prim.Native.Nat.{ℕ, ◌≤◌, ◌<◌}
use mathlib.Core.Bool.{Bool, true, false, cond}
use mathlib.Core.List.{List, [], ◌∷◌}
use mathlib.Core.Logic.{◌⊎◌, inl, inr}
use mathlib.Core.Path.{◌≡◌, refl, sym, ap, ap₂, ◌∙◌}
use native.Mathlib.Omega.{arith}
use lib.IntN.{ℤ, pos, nat_abs, ◌+ℤ◌, ◌-ℤ◌, +ℤ_idr, +ℤ_comm, +ℤ-neg_ℤ_cancel}
use lib.ListN.{length, get_or}
use Rattle.ranges.specs.Range.{least}
use Rattle.model.specs.Sheet.{no_term}
use Rattle.model.specs.LikeTerms.{like, coefs_like, gathered}
use Rattle.model.specs.declared.Term.{Term}
use Rattle.ranges.proofs.Ranges.{before_or_past}
use Rattle.ranges.proofs.Lists.{Each, none, entry_first, each_from, each_map, EachLater, pair_first, later_from}
use Rattle.laws.proofs.Gathering.Like.{like_is, in_order, like_same}
use Rattle.laws.proofs.Gathering.Gathered.{coefs_like_lem, coefs_unlike, coefs_same, coefs_gathered, gathered_nonzero, gathered_coef, earliest, InPlace, gathered_in_place, gathered_in_order}

-- ---- what the words say

-- A term of the list is not 0, has the sum of the terms as read that are like it, and the target and the factors of the earliest of these.
pub record IsSum (terms : List Term) (t : Term) : Type 0 where
  pub nonzero : nat_abs t.coef ≡ 0 → ⊥
  pub coef : t.coef ≡ coefs_like t terms
  pub place : InPlace terms t

-- Each is such a sum, they stand in the order of the earliest, and no sum is lost.
pub record Gathers (terms list : List Term) : Type 0 where
  pub sums : (j : ℕ) → j < length list → IsSum terms (get_or list j no_term)
  pub ordered : (i j : ℕ) → i < j → j < length list → earliest terms (get_or list i no_term) < earliest terms (get_or list j no_term)
  pub all : (t : Term) → coefs_like t list ≡ coefs_like t terms

pub gathered_gathers : (terms : List Term) → Gathers terms (gathered terms)
gathered_gathers terms =
    record {
      sums = λ j h. record { nonzero = gathered_nonzero terms j h; coef = gathered_coef terms j h; place = gathered_in_place terms j h };
      ordered = gathered_in_order terms;
      all = λ t. coefs_gathered t terms;
    }

-- ---- and of no other list

left_cancelled : (a x y : ℤ) → a +ℤ x ≡ a +ℤ y → x ≡ y
left_cancelled a x y e = sym (+ℤ-neg_ℤ_cancel x a) ∙ ap (λ (z : ℤ). z -ℤ a) (+ℤ_comm x a ∙ e ∙ +ℤ_comm a y) ∙ +ℤ-neg_ℤ_cancel y a

-- those that are like a term have its place, and those in other places bring nothing
earliest_like : (terms : List Term) (a b : Term) → like a b ≡ true → earliest terms a ≡ earliest terms b
unfolding earliest
earliest_like terms a b e = ap (least (length terms)) (λ t j. like_same a b e (get_or terms j no_term) t)

coefs_none : (a : Term) {us : List Term} → Each (λ u. like a u ≡ false) us → coefs_like a us ≡ pos 0
unfolding coefs_like
coefs_none a none = refl
coefs_none a (entry_first {x = u} {xs = us} apart later) = coefs_unlike a u us apart ∙ coefs_none a later

module _ (terms : List Term) where
  abbrev Before : Term → Term → Type 0
  Before a b = earliest terms a < earliest terms b

  before_unlike : (a u : Term) → Before a u → like a u ≡ false
  before_unlike a u before = go (like a u) refl
    where
      go : (b : Bool) → like a u ≡ b → like a u ≡ false
      go true e = absurd (omega (arith, earliest_like terms a u e, before))
      go false e = e

  none_behind : (a : Term) {us : List Term} → Each (Before a) us → coefs_like a us ≡ pos 0
  none_behind a later = coefs_none a (each_map (before_unlike a) later)

  -- the first of a list has its own coefficient alone there
  own : (a : Term) {us : List Term} → Each (Before a) us → coefs_like a (a ∷ us) ≡ a.coef
  own a {us} later = coefs_like_lem a a us (like_is a a (record { to = refl; factors = in_order refl refl })) ∙ ap (λ (z : ℤ). a.coef +ℤ z) (none_behind a later) ∙ +ℤ_idr a.coef

  -- so a list that has nothing in its place does not have its sum
  missed : (a : Term) {us vs : List Term} → IsSum terms a → Each (Before a) us → Each (Before a) vs → ((t : Term) → coefs_like t (a ∷ us) ≡ coefs_like t vs) → ⊥
  missed a is behind elsewhere same = is.nonzero (ap nat_abs (sym (own a behind) ∙ same a ∙ none_behind a elsewhere))

  -- two sums in one place are one
  one : (a b : Term) → IsSum terms a → IsSum terms b → earliest terms a ≡ earliest terms b → a ≡ b
  one a b x y e =
      let to : a.to ≡ b.to = x.place.to ∙ ap (λ (k : ℕ). (get_or terms k no_term).to) e ∙ sym y.place.to in
      let first : a.first ≡ b.first = x.place.first ∙ ap (λ (k : ℕ). (get_or terms k no_term).first) e ∙ sym y.place.first in
      let second : a.second ≡ b.second = x.place.second ∙ ap (λ (k : ℕ). (get_or terms k no_term).second) e ∙ sym y.place.second in
      let coef : a.coef ≡ b.coef = x.coef ∙ coefs_same a b (like_is a b (record { to = to; factors = in_order first second })) terms ∙ sym y.coef in
      λ t. record { to = to t; coef = coef t; first = first t; second = second t }

  alone : (us vs : List Term) → Each (IsSum terms) us → Each (IsSum terms) vs → EachLater Before us → EachLater Before vs → ((t : Term) → coefs_like t us ≡ coefs_like t vs) → us ≡ vs
  alone [] [] us-sums vs-sums us-order vs-order same = refl
  alone [] (v ∷ vs) us-sums (entry_first y ys) us-order (pair_first behind later) same = absurd (missed v y behind none (λ t. sym (same t)))
  alone (u ∷ us) [] (entry_first x xs) vs-sums (pair_first behind later) vs-order same = absurd (missed u x behind none same)
  alone (u ∷ us) (v ∷ vs) (entry_first x xs) (entry_first y ys) (pair_first u-behind u-later) (pair_first v-behind v-later) same =
      meet (before_or_past (earliest terms u) (earliest terms v)) (before_or_past (earliest terms v) (earliest terms u)) (alone us vs xs ys u-later v-later)
    where
      behind_both : (a b : Term) {ws : List Term} → Before a b → Each (Before b) ws → Each (Before a) (b ∷ ws)
      behind_both a b before later = entry_first before (each_map (λ w l. omega (arith, before, l)) later)

      rest : u ≡ v → (t : Term) → coefs_like t us ≡ coefs_like t vs
      rest e t = unfold coefs_like in left_cancelled (cond (like t u) u.coef (pos 0)) _ _ (same t ∙ ap (λ (w : Term). cond (like t w) w.coef (pos 0) +ℤ coefs_like t vs) (sym e))

      meet : (earliest terms u < earliest terms v) ⊎ (earliest terms v ≤ earliest terms u) → (earliest terms v < earliest terms u) ⊎ (earliest terms u ≤ earliest terms v) → (((t : Term) → coefs_like t us ≡ coefs_like t vs) → us ≡ vs) → u ∷ us ≡ v ∷ vs
      meet (inl before) other later = absurd (missed u x u-behind (behind_both u v before v-behind) same)
      meet (inr past) (inl before) later = absurd (missed v y v-behind (behind_both v u before u-behind) (λ t. sym (same t)))
      meet (inr past) (inr other) later =
          let e : u ≡ v = one u v x y (omega arith) in
          ap₂ (λ (w : Term) (ws : List Term). w ∷ ws) e (later (rest e))

-- a list that has it is the gathered terms
pub gathers_alone : (terms list : List Term) → Gathers terms list → list ≡ gathered terms
gathers_alone terms list is =
    let own = gathered_gathers terms in
    alone terms list (gathered terms) (each_from no_term list is.sums) (each_from no_term (gathered terms) own.sums) (later_from no_term list is.ordered) (later_from no_term (gathered terms) own.ordered) (λ t. is.all t ∙ sym (own.all t))
