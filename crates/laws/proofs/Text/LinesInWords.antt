-- What a line of a sheet's text is, in words: a key that was found stands there byte by byte, a line that is read ends in one line feed, and nothing follows
-- the last.
use Rattle.std.specs.Prelude.{Option, Some, None}
use Prim.Native.Nat.{ℕ}
use Prim.Native.Char.{code}
use Prim.Native.String.{String}
use mathlib.Core.Path.{◌≡◌, refl, sym, ap₂}
use mathlib.Core.Bool.{Bool, true, false}
use mathlib.Core.List.{List, [], ◌∷◌, ◌++◌}
use native.Mathlib.Omega.{arith}
use lib.IntN.{ℤ}
use lib.Dec.{eqb}
use borrow.Author.Tests.{eqb-true}
use Rattle.ranges.specs.Range.{bytes}
use Rattle.model.specs.Reading.{Spelled, spelled, wrong, parsed, after, ended, line, end}

-- a text that was found stands at the front, byte by byte
after_one : (k b : ℕ) (key text : List ℕ) {rest : List ℕ} → (after key text ≡ Some rest → text ≡ key ++ rest) → after (k ∷ key) (b ∷ text) ≡ Some rest → b ∷ text ≡ k ∷ (key ++ rest)
unfolding after
after_one k b key text {rest} next e = go (eqb k b) refl e
  where
    go : (t : Bool) → eqb k b ≡ t → elim t [ true ↦ after key text | false ↦ None ] ≡ Some rest → b ∷ text ≡ k ∷ (key ++ rest)
    go true t e = ap₂ (λ (x : ℕ) (xs : List ℕ). x ∷ xs) (sym (eqb-true k b t)) (next e)
    go false t e = absurd (let z : ◌≡◌ {A = ℕ} 0 1 = cc in omega arith)

pub after_says : (key text : List ℕ) {rest : List ℕ} → after key text ≡ Some rest → text ≡ key ++ rest
unfolding after
after_says [] text e = cc
after_says (k ∷ key) [] e = absurd (let z : ◌≡◌ {A = ℕ} 0 1 = cc in omega arith)
after_says (k ∷ key) (b ∷ text) e = after_one k b key text (after_says key text) e

-- a number's line ends in one line feed
pub ended_says : (x : Spelled) {z : ℤ} {rest : List ℕ} → ended x ≡ spelled z rest → x ≡ spelled z (code "\n" ∷ rest)
unfolding ended
ended_says wrong e = absurd (let z : ◌≡◌ {A = ℕ} 0 1 = cc in omega arith)
ended_says (spelled y []) e = absurd (let z : ◌≡◌ {A = ℕ} 0 1 = cc in omega arith)
ended_says (spelled y (b ∷ m)) {z} {rest} e = go (eqb b (code "\n")) refl e
  where
    go : (t : Bool) → eqb b (code "\n") ≡ t → elim t [ true ↦ spelled y m | false ↦ wrong ] ≡ spelled z rest → spelled y (b ∷ m) ≡ spelled z (code "\n" ∷ rest)
    go true t e = let feed : b ≡ code "\n" = eqb-true b (code "\n") t in let number : y ≡ z = cc in let left : m ≡ rest = cc in (λ i. spelled (number i) (feed i ∷ left i))
    go false t e = absurd (let z : ◌≡◌ {A = ℕ} 0 1 = cc in omega arith)

-- a line that is read is its key, `=`, a number so spelled and one line feed
pub line_says : (key : String) (spelling : List ℕ → Spelled) (text : List ℕ) {z : ℤ} {rest : List ℕ} → line key spelling text ≡ spelled z rest → (number : List ℕ) × ((text ≡ (bytes key ++ bytes "=") ++ number) × (spelling number ≡ spelled z (code "\n" ∷ rest)))
unfolding line
line_says key spelling text {z} {rest} e = go (after (bytes key ++ bytes "=") text) refl e
  where
    go : (x : Option (List ℕ)) → after (bytes key ++ bytes "=") text ≡ x → elim x [ Some rest ↦ ended (spelling rest) | None ↦ wrong ] ≡ spelled z rest → (number : List ℕ) × ((text ≡ (bytes key ++ bytes "=") ++ number) × (spelling number ≡ spelled z (code "\n" ∷ rest)))
    go (Some number) found e = (number, (after_says (bytes key ++ bytes "=") text found, ended_says (spelling number) e))
    go None found e = absurd (let z : ◌≡◌ {A = ℕ} 0 1 = cc in omega arith)

-- nothing follows the last line
pub end_says : {A : Type 0} (a : A) (text : List ℕ) {b : A} {rest : List ℕ} → end a text ≡ parsed b rest → text ≡ []
unfolding end
end_says a [] e = refl
end_says a (b ∷ text) e = absurd (let z : ◌≡◌ {A = ℕ} 0 1 = cc in omega arith)
