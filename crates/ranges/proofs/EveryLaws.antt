-- A test of each number below n, as a loop that stops at the first no forms it.
use Prim.Native.Nat.{ℕ, zero, suc, ◌+◌, ◌<◌}
use mathlib.Core.Bool.{Bool, true, false, ◌&&◌, and-false}
use mathlib.Core.Path.{◌≡◌, refl, sym, ap, ◌∙◌}
use mathlib.Core.Logic.{⊎_elim}
use native.Mathlib.Nat.{eq-or-lt_of_le}
use native.Mathlib.Numerals.{add-one}
use native.Mathlib.Omega.{arith}
use Rattle.ranges.specs.Range.{every}
use Rattle.ranges.proofs.Ranges.{below}

-- none is tested
pub every_none : (f : ℕ → Bool) → every 0 f ≡ true
unfolding every
every_none f = refl

-- one test more
pub every_more : (f : ℕ → Bool) (i : ℕ) → every i f ≡ true → f i ≡ true → every (i + 1) f ≡ true
unfolding every
every_more f i e h = rw (add-one i, e, h)

-- a no decides
pub every_fails : (f : ℕ → Bool) (i n : ℕ) → i < n → f i ≡ false → every n f ≡ false
unfolding every
every_fails f i zero l h = absurd (omega arith)
every_fails f i (suc n) l h =
    ⊎_elim (λ (e : i ≡ n). ap (λ (b : Bool). every n f && b) (ap f (sym e) ∙ h) ∙ and-false (every n f)) (λ (m : i < n). ap (λ (b : Bool). b && f n) (every_fails f i n m h)) (eq-or-lt_of_le {n = i} {m = n} (omega arith))

-- all yes
pub every_all : (f : ℕ → Bool) (n : ℕ) → ((i : ℕ) → i < n → f i ≡ true) → every n f ≡ true
unfolding every
every_all f zero h = refl
every_all f (suc n) h = rw (every_all f n (below n h), h n (omega arith))

-- both of two tests
pub both_true : (a b : Bool) → (a && b) ≡ true → (a ≡ true) × (b ≡ true)
both_true true b e = (refl, e)
both_true false b e = let z : ◌≡◌ {A = ℕ} 0 1 = cc in absurd (omega arith)

-- what all pass, each passes
pub every_holds : (n : ℕ) (f : ℕ → Bool) → every n f ≡ true → (i : ℕ) → i < n → f i ≡ true
unfolding every
every_holds zero f e i lt = absurd (omega arith)
every_holds (suc n) f e i lt =
    let both = both_true (every n f) (f n) e in
    ⊎_elim (λ (h : i ≡ n). rw h both.1) (λ (h : i < n). every_holds n f both.0 i h) (eq-or-lt_of_le {n = i} {m = n} (omega arith))
