-- `clear_search::search::first_run` meets its contract. The invariant: the rows passed end in a streak of certain ones, shorter than a run.
use Prim.Native.Nat.{ℕ, ◌+◌, ◌-◌, ◌≤◌, ◌<◌}
use mathlib.Core.Bool.{Bool, true, false, cond}
use mathlib.Core.List.{List}
use mathlib.Core.Path.{◌≡◌, sym, ap, ◌∙◌}
use native.Mathlib.Omega.{arith}
use lib.IntN.{ℤ}
use Rattle.std.proofs.Common.{Ok, Some}
use Rattle.model.specs.Rows.{row_in, rows_in}
use Rattle.model.specs.Step.{no_row}
use Rattle.ranges.proofs.Ranges.{get_or_tabulate}
use Rattle.ranges.proofs.EveryLaws.{every_holds}
use Rattle.rows.specs.View.{buffer_of, places_of, row_of, Stands}
use Rattle.rows.specs.declared.view.Row.{Row}
use Rattle.clear_rule.specs.Asked.{Weighable, Searchable}
use Rattle.clear_rule.specs.Clearance.{Found, certain, query_within, row_within}
use Rattle.clear_rule.specs.declared.Query.{Query}
use Rattle.clear_rule.proofs.SumsFit.{query_ranges, length_rows}
use Rattle.clear_rule.proofs.FirstRun.{certainly}
use Rattle.clear_rule.proofs.Streaks.{no_streak, found_nowhere, counted_full, counted_on}
use Rattle.clear_search.proofs.Asked.{row_led}
use Rattle.clear_search.proofs.search.first_run.Goals.{then-certain, else-certain}
use Rattle.clear_search.proofs.search.first_run.Goals as goal

module _ (n count : ℕ) (buffer : List ℤ) where
  -- a row of the buffer, as one of the counted rows
  row_is : (j : ℕ) → j < count → (query : Query) (row : Row) → Stands n j buffer row → {answer : Bool} → answer ≡ certain query (row_of row) → answer ≡ certainly query (rows_in n count buffer) j
  unfolding rows_in
  row_is j h query row stands e =
      e ∙ ap (certain query) stands.row_is ∙ ap (certain query) (sym (get_or_tabulate count (row_in n buffer) no_row j h))

  -- it can be weighed
  weighable : (j : ℕ) → j < count → {query : Query} → Searchable n count buffer query → (row : Row) → Stands n j buffer row → Weighable row.n 0 (places_of row) query
  weighable j h {query} s row stands =
      record {
        place = record { few = row.few; room = omega (arith, row.whole) };
        query_is_within = ap (λ (m : ℕ). query_within m query) stands.quantities ∙ s.query_is_within;
        row_is_within = row_led n j buffer row stands ∙ every_holds count (row_within n buffer) s.rows_within j h;
      }

-- the streak after a row that is certain, and after one that is not
longer : {more : Bool} (streak : ℕ) {next : ℕ} → more ≡ true → next ≡ streak + 1 → next ≡ cond more (streak + 1) 0
longer {more} streak e is = is ∙ sym (ap (λ (b : Bool). cond b (streak + 1) 0) e)

ended : {more : Bool} (streak : ℕ) {next : ℕ} → more ≡ false → next ≡ 0 → next ≡ cond more (streak + 1) 0
ended {more} streak e is = is ∙ sym (ap (λ (b : Bool). cond b (streak + 1) 0) e)

-- the first row of a run that ends with row j, numbered from 1
numbered : (j : ℕ) {run : ℕ} {found : Found} → 1 ≤ run → run ≤ j + 1 → Ok (Some (j + 1 - run + 1)) ≡ found → Ok (Some (j + 2 - run)) ≡ found
numbered j {run} low high e = let same : j + 2 - run ≡ j + 1 - run + 1 = omega arith in rw same e

pub loop-row-init : goal.loop-row-init
loop-row-init c =
    no_streak (certainly c.args.query.now (rows_in c.args.rows.n c.args.rows.count (buffer_of c.args.rows))) c.args.query.now.run (query_ranges c.args.rows.n c.args.query.now c.requires.query_is_within).run_low

pub certain-requires : goal.certain-requires
certain-requires c =
    weighable c.args.rows.n c.args.rows.count (buffer_of c.args.rows) c.loop-row.row (omega arith) c.requires c.row.result c.row.ensures

pub overflow_add-streak : goal.overflow_add-streak
overflow_add-streak c = omega (arith, c.requires.few, c.loop-row.invariant.counted)

pub overflow_sub-result : goal.overflow_sub-result
overflow_sub-result c =
    let high : c.if-certain.streak ≤ c.loop-row.row + 1 = elim c.if-certain.branch [ then-certain w ↦ omega (arith, w.streak-is, c.loop-row.invariant.counted) | else-certain w ↦ omega (arith, w.streak-is) ] in
    omega (arith, c.if-streak-run.true)

pub returns-then-streak-run : goal.returns-then-streak-run
returns-then-streak-run c =
    let next : c.if-certain.streak ≡ cond c.certain.result (c.loop-row.streak + 1) 0 = elim c.if-certain.branch [ then-certain w ↦ longer c.loop-row.streak w.if-certain.true w.streak-is | else-certain w ↦ ended c.loop-row.streak w.if-certain.false w.streak-is ] in
    let high : c.if-certain.streak ≤ c.loop-row.row + 1 = elim c.if-certain.branch [ then-certain w ↦ omega (arith, w.streak-is, c.loop-row.invariant.counted) | else-certain w ↦ omega (arith, w.streak-is) ] in
    numbered c.loop-row.row (omega (arith, c.loop-row.invariant.short)) (omega (arith, c.if-streak-run.true)) (counted_full c.args.query.now (rows_in c.args.rows.n c.args.rows.count (buffer_of c.args.rows)) c.loop-row.invariant c.certain.result (row_is c.args.rows.n c.args.rows.count (buffer_of c.args.rows) c.loop-row.row (omega arith) c.args.query.now c.row.result c.row.ensures c.certain.ensures) next c.if-streak-run.true (rw (length_rows c.args.rows.n c.args.rows.count (buffer_of c.args.rows)) c.loop-row-test.true))

pub loop-row-preserved : goal.loop-row-preserved
loop-row-preserved c =
    let next : c.if-certain.streak ≡ cond c.certain.result (c.loop-row.streak + 1) 0 = elim c.if-certain.branch [ then-certain w ↦ longer c.loop-row.streak w.if-certain.true w.streak-is | else-certain w ↦ ended c.loop-row.streak w.if-certain.false w.streak-is ] in
    counted_on c.args.query.now (rows_in c.args.rows.n c.args.rows.count (buffer_of c.args.rows)) c.loop-row.invariant c.certain.result (row_is c.args.rows.n c.args.rows.count (buffer_of c.args.rows) c.loop-row.row (omega arith) c.args.query.now c.row.result c.row.ensures c.certain.ensures) next c.if-streak-run.false

pub returns : goal.returns
returns c =
    found_nowhere c.args.query.now (rows_in c.args.rows.n c.args.rows.count (buffer_of c.args.rows)) c.loop-row.invariant (rw (length_rows c.args.rows.n c.args.rows.count (buffer_of c.args.rows)) (omega arith))
