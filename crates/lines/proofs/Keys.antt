-- A key at the front of some bytes is found as `strip_prefix` finds it.
use Rattle.std.proofs.Common.{◌≡◌, ℕ, ◌+◌, Bool, true, false, ◌&&◌, List, [], ◌∷◌, length, take, drop, Option, Some, None, option_map, Bor, eqb, refl, sym, arith}
use Rattle.std.proofs.lemmas.Bool.Decides.{nat_tests}
use Rattle.std.specs.Cmp.Lexicographic.{pointwise}
use Rattle.std.specs.Option.{MatchOption}
use Rattle.model.specs.Reading.{after}

swapped : (a b : ℕ) → eqb a b ≡ eqb b a
swapped a b = grind (arith, nat_tests)

abbrev stripped : List ℕ → List ℕ → Bool
stripped key text = pointwise eqb (take (length key) text) key

abbrev if_so : Bool → Option (List ℕ) → Option (List ℕ)
if_so true found = found
if_so false found = None

after_is : (key text : List ℕ) → after key text ≡ if_so (stripped key text) (Some (drop (length key) text))
unfolding after
after_is [] text = refl
after_is (k ∷ key) [] = refl
after_is (k ∷ key) (b ∷ rest) = go (eqb k b) (eqb b k) (swapped k b) (after_is key rest)
  where
    go : (s t : Bool) → s ≡ t → after key rest ≡ if_so (stripped key rest) (Some (drop (length key) rest))
        → elim s [ true ↦ after key rest | false ↦ None ] ≡ if_so (t && stripped key rest) (Some (drop (length key) rest))
    go true true e more = more
    go true false e more = absurd cc
    go false true e more = absurd cc
    go false false e more = refl

pub found : (key text : List ℕ) (r : Option (Bor (List ℕ)))
    → MatchOption r (stripped key text ≡ false) (λ x. (stripped key text ≡ true) × (x.now ≡ drop (length key) text) × (length x.now + length key ≡ length text))
    → option_map (λ rest. rest.now) r ≡ after key text
found key text None other = sym (rw other at (after_is key text))
found key text (Some rest) h = rw h.1 (sym (rw h.0 at (after_is key text)))
