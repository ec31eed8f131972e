-- The terms of a list that pass a test: one induction, and what each of them has, and each two.
use Prim.Native.Nat.{◌≤◌}
use mathlib.Core.Bool.{Bool, true, false, cond}
use mathlib.Core.List.{List, [], ◌∷◌, ◌++◌}
use mathlib.Core.Path.{◌≡◌, refl, ap, ◌∙◌}
use native.Mathlib.Omega.{arith}
use lib.ListN.{length}
use Rattle.model.specs.LikeTerms.{filter}
use Rattle.model.specs.declared.Term.{Term}
use Rattle.ranges.proofs.Lists.{Each, none, entry_first, each_head, each_tail, EachLater, pair_first, later_head, later_tail}

module _ (test : Term → Bool) where
  -- what holds of a list and of its terms that pass: of no term; with one more that passes; with one more that does not
  pub filter_ind : (P : List Term → List Term → Type 0) → P [] [] → ((t : Term) (ts : List Term) → test t ≡ true → P ts (filter test ts) → P (t ∷ ts) (t ∷ filter test ts)) → ((t : Term) (ts : List Term) → test t ≡ false → P ts (filter test ts) → P (t ∷ ts) (filter test ts)) → (ts : List Term) → P ts (filter test ts)
  unfolding filter
  filter_ind P nothing kept dropped [] = nothing
  filter_ind P nothing kept dropped (t ∷ ts) = go (test t) refl (filter_ind P nothing kept dropped ts)
    where
      go : (b : Bool) → test t ≡ b → P ts (filter test ts) → P (t ∷ ts) (cond b (t ∷ filter test ts) (filter test ts))
      go true e rest = kept t ts e rest
      go false e rest = dropped t ts e rest

  -- one more before them, by its test
  pub filter_first : (b : Bool) (t : Term) (ts : List Term) → test t ≡ b → filter test (t ∷ ts) ≡ cond b (t ∷ filter test ts) (filter test ts)
  unfolding filter
  filter_first b t ts e = ap (λ (x : Bool). cond x (t ∷ filter test ts) (filter test ts)) e

  -- and one more behind them
  pub filter_behind : (b : Bool) (t : Term) → test t ≡ b → (ts : List Term) → filter test (ts ++ (t ∷ [])) ≡ filter test ts ++ cond b (t ∷ []) []
  unfolding filter
  filter_behind b t e =
      filter_ind (λ ts passing. filter test (ts ++ (t ∷ [])) ≡ passing ++ cond b (t ∷ []) []) (filter_first b t [] e) (λ u ts is rest. filter_first true u (ts ++ (t ∷ [])) is ∙ ap (λ (us : List Term). u ∷ us) rest) (λ u ts is rest. filter_first false u (ts ++ (t ∷ [])) is ∙ rest)

  pub filter_shorter : (ts : List Term) → length (filter test ts) ≤ length ts
  filter_shorter = filter_ind (λ ts passing. length passing ≤ length ts) (omega arith) (λ t ts e rest. omega (arith, rest)) (λ t ts e rest. omega (arith, rest))

  pub each_filter : {P : Term → Type 0} (ts : List Term) → Each P ts → Each P (filter test ts)
  each_filter {P} = filter_ind (λ ts passing. Each P ts → Each P passing) (λ each. none) (λ t ts e rest each. entry_first (each_head each) (rest (each_tail each))) (λ t ts e rest each. rest (each_tail each))

  pub each_passes : (ts : List Term) → Each (λ t. test t ≡ true) (filter test ts)
  each_passes = filter_ind (λ ts passing. Each (λ t. test t ≡ true) passing) none (λ t ts e rest. entry_first e rest) (λ t ts e rest. rest)

  pub later_filter : {R : Term → Term → Type 0} (ts : List Term) → EachLater R ts → EachLater R (filter test ts)
  later_filter {R} =
      filter_ind (λ ts passing. EachLater R ts → EachLater R passing) (λ later. none) (λ t ts e rest later. pair_first (each_filter ts (later_head later)) (rest (later_tail later))) (λ t ts e rest later. rest (later_tail later))
