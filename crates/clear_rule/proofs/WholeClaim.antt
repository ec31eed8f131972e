-- The whole claim: that the answer says what it says whatever is asked, and that it is so question by question, as the code asks them.
use Rattle.std.specs.Prelude.{Err, Ok, Some}
use Prim.Native.Nat.{ℕ, ◌*◌, ◌≤◌, ◌<◌}
use mathlib.Core.Bool.{true, false}
use mathlib.Core.List.{List}
use mathlib.Core.Path.{◌≡◌, refl, sym, ap, ◌∙◌}
use native.Mathlib.Omega.{arith}
use borrow.Author.Tests.{le-leb, lt-leb}
use lib.IntN.{ℤ, pos}
use lib.ListN.{length}
use Rattle.ranges.specs.Range.{every}
use Rattle.model.specs.Sheet.{most_steps, Verdict, passes, refuses, ask, ◌then◌, within, in_range, n_limits}
use Rattle.model.specs.Rows.{width, rows_in}
use Rattle.model.specs.declared.Refusal.{Refusal}
use Rattle.model.specs.declared.Refusal.TheVariants.{OutOfRange, TooFewPlaces, QueryOutOfRange, RowOutOfRange}
use Rattle.clear_rule.specs.Clearance.{first_run, count_limits, query_within, row_within, clear_verdict, first_clear, found_result, found_row, Names, Found}
use Rattle.clear_rule.specs.Asked.{NamesRow}
use Rattle.clear_rule.specs.Claim.{Answers, Said}
use Rattle.clear_rule.specs.declared.Query.{Query}
use Rattle.clear_rule.proofs.SumsFit.{length_rows}
use Rattle.clear_rule.proofs.InRange.{passed_in_range}
use Rattle.clear_rule.proofs.FirstRun.{first_run_answers, answered_row}
use Rattle.clear_rule.proofs.RowsClear.{spanned_clears_from, spanned_clears, wrote_trusted, wrote_spanned}

-- ---- the whole claim

module _ (n count : ℕ) (buffer : List ℤ) (query : Query) where
  clear_answers : Answers query (rows_in n count buffer) (first_clear n count buffer query)
  unfolding first_clear
  clear_answers = go (clear_verdict n count buffer query) refl
    where
      go : (v : Verdict) → clear_verdict n count buffer query ≡ v → Answers query (rows_in n count buffer) (elim v [ refuses r ↦ Err r | passes ↦ first_run query (rows_in n count buffer) ])
      go (refuses r) e = unfold Answers in tt
      go passes e = first_run_answers query (rows_in n count buffer) (passed_in_range n count buffer query e).asked.run_low

  pub all_said : Said n count buffer query (first_clear n count buffer query)
  all_said =
      record {
        answers = clear_answers;
        clear = λ sheet w. spanned_clears sheet query (rows_in n count buffer) (wrote_trusted sheet n count buffer w) (wrote_spanned sheet n count buffer w) (first_clear n count buffer query) clear_answers;
        clear_from = λ sheet w. spanned_clears_from sheet query (rows_in n count buffer) (wrote_spanned sheet n count buffer w) (first_clear n count buffer query) clear_answers;
      }

-- ---- the row that is answered, as a number

module _ (n count : ℕ) (buffer : List ℤ) (query : Query) where
  pub numbered : {found : Found} → found ≡ first_clear n count buffer query → NamesRow found
  unfolding NamesRow first_clear
  numbered {found} e row f = go (clear_verdict n count buffer query) refl e
    where
      go : (v : Verdict) → clear_verdict n count buffer query ≡ v → found ≡ elim v [ refuses r ↦ Err r | passes ↦ first_run query (rows_in n count buffer) ] → row ≤ most_steps
      go (refuses r) asked is = absurd (let z : ◌≡◌ {A = ℕ} 0 1 = cc in omega arith)
      go passes asked is =
          let passed = passed_in_range n count buffer query asked in
          let some = passed.asked.run_low in
          let named : first_run query (rows_in n count buffer) ≡ Ok (Some row) = sym is ∙ f in
          omega (arith, answered_row query (rows_in n count buffer) some row (rw named at (first_run_answers query (rows_in n count buffer) some)), length_rows n count buffer, passed.counted)

-- ---- question by question, as the code asks them

-- all that is promised of an answer: it is the definition's, says all that it says, and has its number
abbrev pub Promised : ℕ → ℕ → List ℤ → Query → Found → Type 0
Promised n count buffer query found =
    (found ≡ first_clear n count buffer query) × (Said n count buffer query found × Names found (first_clear n count buffer query))

module _ (n count : ℕ) (buffer : List ℤ) (query : Query) where
  promised : {found : Found} → found ≡ first_clear n count buffer query → Promised n count buffer query found
  promised e = (e, (rw e (all_said n count buffer query), record { result_is = ap found_result e; row_is = ap found_row e }))

  -- by what the questions came to
  pub answered : {v : Verdict} → clear_verdict n count buffer query ≡ v → first_clear n count buffer query ≡ elim v [ refuses r ↦ Err r | passes ↦ first_run query (rows_in n count buffer) ]
  unfolding first_clear
  answered e = ap (λ (v : Verdict). elim v [ refuses r ↦ Err r | passes ↦ first_run query (rows_in n count buffer) ]) e

  refused : {r : Refusal} → clear_verdict n count buffer query ≡ refuses r → Promised n count buffer query (Err r)
  refused e = promised (sym (answered e))

  pub n_refused : within n_limits (pos n) ≡ false → Promised n count buffer query (Err OutOfRange)
  n_refused e = refused (unfold clear_verdict in_range ask ◌then◌ in rw e)

  module _ (n_passed : within n_limits (pos n) ≡ true) where
    pub count_refused : within count_limits (pos count) ≡ false → Promised n count buffer query (Err OutOfRange)
    count_refused e = refused (unfold clear_verdict in_range ask ◌then◌ in rw (n_passed, e))

    module _ (count-passed : within count_limits (pos count) ≡ true) where
      pub places_refused : length buffer < count * width n → Promised n count buffer query (Err TooFewPlaces)
      places_refused h = refused (unfold clear_verdict in_range ask ◌then◌ in rw (n_passed, count-passed, lt-leb (count * width n) (length buffer) h))

      module _ (room : count * width n ≤ length buffer) where
        pub query_refused : query_within n query ≡ false → Promised n count buffer query (Err QueryOutOfRange)
        query_refused e = refused (unfold clear_verdict in_range ask ◌then◌ in rw (n_passed, count-passed, le-leb (count * width n) (length buffer) room, e))

        module _ (query-passed : query_within n query ≡ true) where
          pub rows_refused : every count (row_within n buffer) ≡ false → Promised n count buffer query (Err RowOutOfRange)
          rows_refused e = refused (unfold clear_verdict in_range ask ◌then◌ in rw (n_passed, count-passed, le-leb (count * width n) (length buffer) room, query-passed, e))

          pub search_decides : every count (row_within n buffer) ≡ true → {found : Found} → found ≡ first_run query (rows_in n count buffer) → Promised n count buffer query found
          search_decides e f = promised (f ∙ sym (answered {v = passes} (unfold clear_verdict in_range ask ◌then◌ in rw (n_passed, count-passed, le-leb (count * width n) (length buffer) room, query-passed, e))))
