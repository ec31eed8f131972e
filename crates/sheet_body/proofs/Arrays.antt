-- An array that is filled from the front by one parser, so many times: what it holds on the way, and at the end.
use Prim.Native.Nat.{ℕ, zero, suc, ◌+◌, ◌-◌, ◌≤◌, ◌<◌}
use mathlib.Core.Path.{◌≡◌, refl, sym, ap, ◌∙◌}
use mathlib.Core.Bool.{Bool, true, false}
use mathlib.Core.List.{List, [], ◌∷◌, ◌++◌}
use native.Mathlib.Omega.{arith}
use native.Mathlib.Numerals.{add-one}
use borrow.Author.Tests.{ltb-true, ltb-false}
use lib.Dec.{ltb}
use lib.ListN.{length, take, drop, set, replicate, length-set, take-append-drop}
use lib.Seq.{length-take-le, take-suc-set, drop-set-lt, drop-drop}
use Rattle.model.specs.Sheet.{padded}
use Rattle.model.specs.Reading.{parsed, fault, Parser, return, ◌>>=◌, times}
use Rattle.model.specs.declared.Refusal.{Refusal}

-- one reader after the other, by what the first gives
module _ {A B : Type 0} (p : Parser A) (f : A → Parser B) {l : List ℕ} where
  pub bind_parsed : {a : A} {m : List ℕ} → p l ≡ parsed a m → (p >>= f) l ≡ f a m
  unfolding ◌>>=◌
  bind_parsed e = rw (e, ◌>>=◌)

  pub bind_fault : {r : Refusal} → p l ≡ fault r → (p >>= f) l ≡ fault r
  unfolding ◌>>=◌
  bind_fault e = rw (e, ◌>>=◌)

module _ {A : Type 0} (p : Parser A) (from : List ℕ) where
  one_more : (i : ℕ) {xs : List A} {x : A} {here next : List ℕ} → times i p from ≡ parsed xs here → p here ≡ parsed x next → times (suc i) p from ≡ parsed (xs ++ (x ∷ [])) next
  unfolding times return
  one_more i so_far e = bind_parsed _ _ so_far ∙ bind_parsed _ _ e

  first_fault : (n : ℕ) {i : ℕ} {xs : List A} {here : List ℕ} {r : Refusal} → i < n → times i p from ≡ parsed xs here → p here ≡ fault r → times n p from ≡ fault r
  unfolding times
  first_fault zero h so_far e = absurd (omega arith)
  first_fault (suc n) {i} {xs} {here} {r} h so_far e = go (ltb i n) refl (λ below. first_fault n below so_far e)
    where
      go : (b : Bool) → ltb i n ≡ b → (i < n → times n p from ≡ fault r) → times (suc n) p from ≡ fault r
      go true below earlier = bind_fault _ _ (earlier (ltb-true i n below))
      go false last earlier = bind_parsed _ _ (ap (λ (k : ℕ). times k p from) at_last ∙ so_far) ∙ bind_fault _ _ e
        where
          at_last : n ≡ i
          at_last = omega (arith, ltb-false i n last)

module _ {A : Type 0} (p : Parser A) (size : ℕ) (none : A) (from : List ℕ) where
  -- i were read, they are the first of the list, and nothing stands past them
  pub record Filled (i : ℕ) (list : List A) (here : List ℕ) : Type 0 where
    pub so_far : times i p from ≡ parsed (take i list) here
    pub past : drop i list ≡ replicate (size - i) none
    pub long : length list ≡ size

  pub filled_more : {i : ℕ} {list : List A} {here next : List ℕ} {x : A} → i < size → Filled i list here → p here ≡ parsed x next → Filled (i + 1) (set list i x) next
  filled_more {i} {list} {next = next} {x = x} h f e =
      record {
        so_far = rw (add-one i) (one_more p from i f.so_far e ∙ ap (λ (xs : List A). parsed xs next) (sym (take-suc-set list i x (rw f.long h))));
        past = rw (add-one i) (drop-set-lt (suc i) list i x (omega arith) ∙ rest_past);
        long = length-set list i x ∙ f.long;
      }
    where
      one_less : size - i ≡ suc (size - suc i)
      one_less = omega arith

      rest_past : drop (suc i) list ≡ replicate (size - suc i) none
      rest_past = rw (← add-one i, ← drop-drop 1 i list, f.past, one_less, add-one i)

  -- what is made of so many, once they are read, and the array is filled up
  module _ {B : Type 0} (made : List A → B) (n : ℕ) {i : ℕ} {list : List A} {here : List ℕ} where
    pub filled_fault : {r : Refusal} → i < n → Filled i list here → p here ≡ fault r → (times n p >>= (λ (xs : List A). return (made (padded size none xs)))) from ≡ fault r
    filled_fault h f e = bind_fault _ _ (first_fault p from n h f.so_far e)

    pub filled_all : n ≡ i → n ≤ size → Filled i list here → (times n p >>= (λ (xs : List A). return (made (padded size none xs)))) from ≡ parsed (made list) here
    unfolding return padded
    filled_all all h f = bind_parsed _ _ (ap (λ (k : ℕ). times k p from) all ∙ f.so_far) ∙ ap (λ (xs : List A). parsed (made xs) here) whole
      where
        whole : take i list ++ replicate (size - length (take i list)) none ≡ list
        whole = rw (length-take-le i list (rw f.long (omega arith)), ← f.past) (take-append-drop i list)
