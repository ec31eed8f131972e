-- The first run: what the search comes to, that it is what the words say, and that the words name no other answer.
use Rattle.std.specs.Prelude.{Err, None, Ok, Some}
use Prim.Native.Nat.{ℕ, zero, suc, ◌+◌, ◌≤◌, ◌<◌}
use mathlib.Core.Bool.{Bool, true, false, cond, and-false, false≢true}
use mathlib.Core.List.{List}
use mathlib.Core.Path.{◌≡◌, refl, sym, ap, ◌∙◌}
use native.Mathlib.Omega.{arith}
use borrow.Author.Tests.{le-leb, lt-leb, lt-ltb, le-ltb, leb-true, ltb-true, ltb-false}
use lib.Dec.{leb, ltb}
use lib.ListN.{length, get_or}
use Rattle.ranges.specs.Range.{every, least}
use Rattle.model.specs.Step.{Row, no_row}
use Rattle.model.specs.declared.Refusal.{Refusal}
use Rattle.ranges.proofs.Least.{IsLeast, least_found, least_none, least_unique, least_past}
use Rattle.ranges.proofs.EveryLaws.{every_all, both_true, every_holds}
use Rattle.clear_rule.specs.Clearance.{certain, opens, first_run, Found}
use Rattle.clear_rule.specs.Claim.{OpensRun, Answers}
use Rattle.clear_rule.specs.declared.Query.{Query}

module _ (query : Query) (rows : List Row) where
  -- whether row j is certain
  abbrev pub certainly : ℕ → Bool
  certainly j = certain query (get_or rows j no_row)

  -- ---- rows that open a run, and rows that do not

  pub run_opens : (j : ℕ) → j + query.run ≤ length rows → every query.run (λ i. certainly (j + i)) ≡ true → opens query rows j ≡ true
  unfolding opens
  run_opens j room all = rw (le-leb (j + query.run) (length rows) room, all)

  pub run_broken : (j : ℕ) → every query.run (λ i. certainly (j + i)) ≡ false → opens query rows j ≡ false
  unfolding opens
  run_broken j e = rw e (and-false (leb (j + query.run) (length rows)))

  pub run_too_long : (j : ℕ) → length rows < j + query.run → opens query rows j ≡ false
  unfolding opens
  run_too_long j past = rw (lt-leb (j + query.run) (length rows) past)

  -- the same in words
  in_words : (j : ℕ) → opens query rows j ≡ true → OpensRun query rows j
  unfolding opens
  in_words j e =
      let both = both_true (leb (j + query.run) (length rows)) _ e in
      record { counted = leb-true (j + query.run) (length rows) both.0; certain_each = every_holds query.run (λ i. certainly (j + i)) both.1 }

  by_test : (j : ℕ) → OpensRun query rows j → opens query rows j ≡ true
  by_test j opened = run_opens j opened.counted (every_all _ query.run opened.certain_each)

  no_run : (j : ℕ) → opens query rows j ≡ false → OpensRun query rows j → ⊥
  no_run j e opened = false≢true (sym e ∙ by_test j opened)

  by_test_no : (j : ℕ) → (OpensRun query rows j → ⊥) → opens query rows j ≡ false
  by_test_no j none = go (opens query rows j) refl
    where
      go : (b : Bool) → opens query rows j ≡ b → b ≡ false
      go true e = absurd (none (in_words j e))
      go false e = refl

  -- ---- the first of them

  -- what the search comes to, where the least is k
  found_at : {k : ℕ} {below : Bool} → least (length rows) (opens query rows) ≡ k → ltb k (length rows) ≡ below → first_run query rows ≡ cond below (Ok (Some (suc k))) (Ok None)
  unfolding first_run
  found_at {k} e f =
      ap (λ (k : ℕ). cond (ltb k (length rows)) (Ok (Some (suc k))) (Ok None)) e ∙ ap (λ (b : Bool). cond b (Ok (Some (suc k))) (Ok None)) f

  pub first_is : (j : ℕ) → j < length rows → IsLeast (opens query rows) j → first_run query rows ≡ Ok (Some (suc j))
  first_is j h is = found_at (least_unique (length rows) (opens query rows) j h is) (lt-ltb j (length rows) h)

  pub none_is : ((j : ℕ) → j < length rows → opens query rows j ≡ false) → first_run query rows ≡ (Ok None)
  none_is none = found_at (least_past (length rows) (opens query rows) none) (le-ltb (length rows) (length rows) (omega arith))

  -- a search finds or does not, and refuses nothing
  pub search_refuses_nothing : {r : Refusal} → first_run query rows ≡ Err r → ⊥
  unfolding first_run
  search_refuses_nothing {r} e = go (ltb (least (length rows) (opens query rows)) (length rows)) e
    where
      go : (b : Bool) → cond b (Ok (Some (suc (least (length rows) (opens query rows))))) (Ok None) ≡ Err r → ⊥
      go true e = let z : ◌≡◌ {A = ℕ} 0 1 = cc in omega arith
      go false e = let z : ◌≡◌ {A = ℕ} 0 1 = cc in omega arith

  -- ---- for a run of one row or more, the words name one answer, and the search gives it

  module _ (some : 1 ≤ query.run) where
    pub answer_is_first : (found : Found) → Answers query rows found → ((r : Refusal) → found ≡ Err r → ⊥) → found ≡ first_run query rows
    unfolding Answers
    answer_is_first (Ok (Some zero)) answers accepted = absurd answers
    answer_is_first (Ok (Some (suc j))) answers accepted =
        sym (first_is j (omega (arith, answers.0.counted)) (record { passes = by_test j answers.0; none_before = λ k lt. by_test_no k (answers.1 k lt) }))
    answer_is_first (Ok None) answers accepted = sym (none_is (λ k lt. by_test_no k (answers k)))
    answer_is_first (Err r) answers accepted = absurd (accepted r refl)

    pub first_run_answers : Answers query rows (first_run query rows)
    unfolding first_run Answers
    first_run_answers = go (ltb (least (length rows) (opens query rows)) (length rows)) refl
      where
        go : (b : Bool) → ltb (least (length rows) (opens query rows)) (length rows) ≡ b → Answers query rows (cond b (Ok (Some (suc (least (length rows) (opens query rows))))) (Ok None))
        go true e =
            let found = least_found (length rows) (opens query rows) (ltb-true _ (length rows) e) in
            (in_words _ found.passes, λ k lt opened. no_run k (found.none_before k lt) opened)
        go false e =
            λ k opened. no_run k (least_none (length rows) (opens query rows) (ltb-false _ (length rows) e) k (omega (arith, opened.counted))) opened

    -- the row that is answered is one of the rows
    pub answered_row : (row : ℕ) → Answers query rows (Ok (Some row)) → row ≤ length rows
    unfolding Answers
    answered_row zero answers = absurd answers
    answered_row (suc j) answers = omega (arith, answers.0.counted)
