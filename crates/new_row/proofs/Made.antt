-- What `from_fn` makes of n numbers and what stands past them.
use Prim.Native.Nat.{ℕ, zero, suc, ◌+◌, ◌-◌, ◌≤◌, ◌<◌}
use mathlib.Core.List.{List, ◌++◌}
use mathlib.Core.Path.{◌≡◌, sym, ap₂, subst, ◌∙◌}
use native.Mathlib.Omega.{arith}
use lib.ListN.{length, get_or, take, drop, replicate, length-drop, length-replicate}
use denote.Param.Members.{Mut}
use Rattle.std.specs.Bool.{⊤}
use Rattle.std.specs.Fn.{Called}
use Rattle.std.proofs.lemmas.List.{ext_get_or, get_or-drop, get_or-replicate, take-append-drop}
use Rattle.ranges.specs.Range.{tabulate}
use Rattle.ranges.proofs.Ranges.{length_tabulate, tabulate_equal, tabulate_front}
use Rattle.model.specs.Sheet.{padded}

module _ {F A : Type 0} (R : F → ℕ → A → F → Type 0) (P : ℕ → A → Type 0) (ys : List A) where
  -- calls at the n numbers from i on gave what stands there
  abbrev pub Made : F → ℕ → ℕ → Type 0
  Made f i zero = ⊤
  Made f i (suc n) = (q : F) × (y : A) × ((get_or ys i y ≡ y) × ((d : A) → get_or ys i d ≡ y)) × R f i y q × Made q (i + 1) n

  -- no call changes the closure, so that each number is as a call from f gives it
  module _ (f : F) (h : (i : ℕ) (y : A) (q : F) → R f i y q → P i y × (q ≡ f)) where
    made_at : (d : A) (n i : ℕ) → Made f i n → (k : ℕ) → k < n → P (i + k) (get_or ys (i + k) d)
    made_at d zero i m k less = absurd (omega arith)
    made_at d (suc n) i m zero less =
        let here : i + 0 ≡ i = omega arith in
        rw (here, m.2.1 d) (h i m.1 m.0 m.3).0
    made_at d (suc n) i m (suc k) less =
        let next : i + 1 + k ≡ i + suc k = omega arith in
        subst (λ (j : ℕ). P j (get_or ys j d)) next (made_at d n (i + 1) (subst (λ (q : F). Made q (i + 1) n) (h i m.1 m.0 m.3).1 m.4) k (omega arith))

-- an array made by a closure that gives num 0, .., num (n - 1), and past them one number
pub made_padded : {F A : Type 0} (g : Mut F (ℕ × Unit {0}) A) (size n : ℕ) (past : A) (num : ℕ → A) (ys : List A) (f : F)
    → ((i : ℕ) (y : A) (q : F) → Called g f (i, tt) y q → ((i < n → y ≡ num i) × (n ≤ i → y ≡ past)) × (q ≡ f))
    → n ≤ size → length ys ≡ size → Made (λ p i y q. Called g p (i, tt) y q) (λ i y. (i < n → y ≡ num i) × (n ≤ i → y ≡ past)) ys f 0 size → ys ≡ padded size past (tabulate n num)
unfolding padded
made_padded {A} g size n past num ys f h room long m = sym (take-append-drop n ys) ∙ ap₂ (λ (a b : List A). a ++ b) front rest
  where
    each : (k : ℕ) → k < size → (k < n → get_or ys k past ≡ num k) × (n ≤ k → get_or ys k past ≡ past)
    each k less =
        let from : 0 + k ≡ k = omega arith in
        subst (λ (j : ℕ). (j < n → get_or ys j past ≡ num j) × (n ≤ j → get_or ys j past ≡ past)) from (made_at (λ p i y q. Called g p (i, tt) y q) _ ys f h past size 0 m k less)

    front : take n ys ≡ tabulate n num
    front = sym (tabulate_front n past ys (omega arith)) ∙ tabulate_equal n _ _ (λ i l. (each i (omega arith)).0 l)

    rest : drop n ys ≡ replicate (size - length (tabulate n num)) past
    rest =
        ext_get_or past _ _ (omega (arith, length-drop n ys, length-replicate (size - length (tabulate n num)) past, length_tabulate n num)) (λ i l. get_or-drop n ys i past ∙ (each (n + i) (omega (arith, length-drop n ys))).1 (omega arith) ∙ sym (get_or-replicate (size - length (tabulate n num)) i past past (omega (arith, length-drop n ys, length_tabulate n num))))
