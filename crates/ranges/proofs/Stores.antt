-- Stores one after the other: of an append, and of one number more.
use Prim.Native.Nat.{ℕ, suc, ◌+◌}
use mathlib.Core.Path.{◌≡◌, sym, ap, ◌∙◌}
use mathlib.Core.List.{List, [], ◌∷◌, ◌++◌}
use native.Mathlib.Nat.{add-zero, zero-add}
use native.Mathlib.Numerals.{add-one}
use native.Mathlib.Omega.{arith}
use lib.ListN.{length, set}
use lib.Seq.{sets}
use Rattle.ranges.specs.Range.{tabulate}
use Rattle.ranges.proofs.Ranges.{length_tabulate}

module _ {A : Type 0} where
  pub sets_append : (l : List A) (i : ℕ) (x y : List A) → sets l i (x ++ y) ≡ sets (sets l i x) (i + length x) y
  sets_append l i [] y = rw (add-zero i)
  sets_append l i (a ∷ x) y = sets_append (set l i a) (suc i) x y ∙ ap (λ (k : ℕ). sets (sets (set l i a) (suc i) x) k y) places
    where
      places : suc i + length x ≡ i + length (a ∷ x)
      places = omega arith

  -- f 0, .., f (n - 1) are stored from place i on, and now f n
  pub stored_one_more : {l : List A} (entry : List A) (i n : ℕ) (f : ℕ → A) → l ≡ sets entry i (tabulate n f) → set l (i + n) (f n) ≡ sets entry i (tabulate (n + 1) f)
  unfolding tabulate
  stored_one_more entry i n f e =
      rw (e, add-one n, sets_append entry i (tabulate n f) (f n ∷ []), length_tabulate n f)

  -- from the front on
  pub stored_in_front : {l : List A} (entry : List A) (n : ℕ) (f : ℕ → A) → l ≡ sets entry 0 (tabulate n f) → set l n (f n) ≡ sets entry 0 (tabulate (n + 1) f)
  stored_in_front {l} entry n f e = ap (λ (k : ℕ). set l k (f n)) (sym (zero-add n)) ∙ stored_one_more entry 0 n f e
