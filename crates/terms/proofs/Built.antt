-- A list of terms that is built in an array: one more behind it, and one of it replaced.
use Prim.Native.Nat.{ℕ, suc, ◌+◌, ◌≤◌, ◌<◌}
use mathlib.Core.List.{List, [], ◌∷◌, ◌++◌}
use mathlib.Core.Path.{◌≡◌, refl, sym, ap, ◌∙◌}
use native.Mathlib.Numerals.{add-one}
use native.Mathlib.Omega.{arith}
use lib.ListN.{length, get_or, set, take, replicate, length-set, length-replicate}
use lib.Seq.{get_or-take, length-take-le, take-suc, take-set-le, take-set-lt, take-suc-set}
use Rattle.ranges.specs.Range.{tabulate}
use Rattle.model.specs.Sheet.{most_terms, no_term, listed}
use Rattle.model.specs.declared.Term.{Term}
use Rattle.ranges.proofs.Ranges.{tabulate_is}

-- the first j terms and the next one
pub taken_more : (terms : List Term) (j : ℕ) → j < length terms → take (j + 1) terms ≡ take j terms ++ (get_or terms j no_term ∷ [])
taken_more terms j h = ap (λ (k : ℕ). take k terms) (add-one j) ∙ take-suc terms j no_term h

-- so many terms of an array
abbrev pub front : ℕ → List Term → List Term
front count list = listed (record { count = count; list = list })

-- they are these, and the array has all its places
pub record Built (terms : List Term) (count : ℕ) (list : List Term) : Type 0 where
  pub are : front count list ≡ terms
  pub long : length list ≡ most_terms

front_is : (count : ℕ) (list : List Term) → count ≤ length list → front count list ≡ take count list
unfolding listed
front_is count list h = tabulate_is count _ no_term (take count list) (length-take-le count list h) (λ j l. sym (get_or-take count list j no_term l))

pub built_none : (t : Term) → Built [] 0 (replicate most_terms t)
unfolding listed tabulate
built_none t = record { are = refl; long = length-replicate most_terms t }

module _ {terms : List Term} {count : ℕ} {list : List Term} (few : count ≤ most_terms) (built : Built terms count list) where
  pub taken : take count list ≡ terms
  taken = sym (front_is count list (omega (arith, built.long))) ∙ built.are

  pub built_length : length terms ≡ count
  built_length = rw (← taken) (length-take-le count list (omega (arith, built.long)))

  pub built_at : (i : ℕ) → i < count → get_or list i no_term ≡ get_or terms i no_term
  built_at i h = rw (← taken) (sym (get_or-take count list i no_term h))

  pub built_set : (i : ℕ) (t : Term) → i < count → Built (set terms i t) count (set list i t)
  built_set i t h =
      record {
        are = front_is count (set list i t) (omega (arith, built.long, length-set list i t)) ∙ take-set-lt count list i t h ∙ ap (λ (l : List Term). set l i t) taken;
        long = length-set list i t ∙ built.long;
      }

  -- what is put past them is not one of them
  pub built_past : (t : Term) → Built terms count (set list count t)
  built_past t =
      record {
        are = front_is count (set list count t) (omega (arith, built.long, length-set list count t)) ∙ take-set-le count list count t (omega arith) ∙ taken;
        long = length-set list count t ∙ built.long;
      }

  pub built_more : (t : Term) → count < most_terms → Built (terms ++ (t ∷ [])) (count + 1) (set list count t)
  built_more t room =
      record {
        are = rw (add-one count) (front_is (suc count) (set list count t) (omega (arith, built.long, length-set list count t)) ∙ take-suc-set list count t (omega (arith, built.long)) ∙ ap (λ (l : List Term). l ++ (t ∷ [])) taken);
        long = length-set list count t ∙ built.long;
      }
