-- `clearance::first_clear` meets its contract: each answer is that of its question, the first no decides, and after the last the search does.
use Prim.Native.Nat.{ℕ, ◌*◌, ◌≤◌}
use mathlib.Core.Bool.{Bool, true}
use mathlib.Core.List.{List}
use mathlib.Core.Path.{◌≡◌, sym, ◌∙◌}
use native.Mathlib.Omega.{arith}
use lib.IntN.{ℤ, pos}
use Rattle.model.specs.Sheet.{most_quantities, most_steps, from◌to◌, within, n_limits}
use Rattle.model.specs.Rows.{width, rows_in}
use Rattle.laws.proofs.Passages.RowPlaces.{rows_fit}
use Rattle.laws.proofs.Text.Verdicts.{natural_within}
use Rattle.ranges.specs.Range.{every}
use Rattle.rows.specs.View.{buffer_of, Shows}
use Rattle.rows.specs.declared.view.Rows.{Rows}
use Rattle.clear_rule.specs.Claim.{Said}
use Rattle.clear_rule.specs.Clearance as clearance
use Rattle.clear_rule.specs.Clearance.{Found, count_limits}
use Rattle.clear_rule.specs.declared.Query.{Query}
use Rattle.clear_rule.proofs.WholeClaim.{Promised, n_refused, count_refused, places_refused, query_refused, rows_refused, search_decides}
use Rattle.clearance.proofs.first_clear.Goals as goal

-- the limits of n and of the count, as the code has them
n_asked : (n : ℕ) {b : Bool} → b ≡ within (record { low = pos 1; high = pos most_quantities }) (pos n) → within n_limits (pos n) ≡ b
unfolding n_limits from◌to◌
n_asked n e = sym e

count_asked : (count : ℕ) {b : Bool} → b ≡ within (record { low = pos 0; high = pos most_steps }) (pos count) → within count_limits (pos count) ≡ b
unfolding count_limits from◌to◌
count_asked count e = sym e

few_quantities : {n : ℕ} → within n_limits (pos n) ≡ true → n ≤ most_quantities
unfolding n_limits
few_quantities {n} e = (natural_within {low = 1} {high = most_quantities} (pos n) e).1

few_rows : {count : ℕ} → within count_limits (pos count) ≡ true → count ≤ most_steps
unfolding count_limits
few_rows {count} e = (natural_within {low = 0} {high = most_steps} (pos count) e).1

-- what is promised, clause by clause
clauses : {n count : ℕ} {buffer : List ℤ} {query : Query} {answer : Found} → Promised n count buffer query answer → record {
  found : answer ≡ clearance.first_clear n count buffer query;
  said : Said n count buffer query answer;
  numbered : clearance.Names answer (clearance.first_clear n count buffer query);
}
clauses p = record { found = p.0; said = p.1.0; numbered = p.1.1 }

-- what is asked and searched by a view of the rows is so of the buffer
module _ {n count : ℕ} {buffer : List ℤ} {rows : Rows} (shown : Shows n count buffer rows) where
  rows_asked : {answer : Bool} → answer ≡ every rows.count (clearance.row_within rows.n (buffer_of rows)) → every count (clearance.row_within n buffer) ≡ answer
  rows_asked e = sym (e ∙ (λ t. every (shown.counted t) (clearance.row_within (shown.quantities t) (shown.buffer_is t))))

  searched : (query : Query) {found : Found} → found ≡ clearance.first_run query (rows_in rows.n rows.count (buffer_of rows)) → found ≡ clearance.first_run query (rows_in n count buffer)
  searched query e = e ∙ (λ t. clearance.first_run query (rows_in (shown.quantities t) (shown.counted t) (shown.buffer_is t)))

pub returns-then-not-natural_within : goal.returns-then-not-natural_within
returns-then-not-natural_within c =
    clauses (n_refused c.args.n c.args.count c.args.rows.now c.args.query.now (n_asked c.args.n c.if-not-natural_within.ensures))

pub returns-then-not-natural_within-2 : goal.returns-then-not-natural_within-2
returns-then-not-natural_within-2 c =
    clauses (count_refused c.args.n c.args.count c.args.rows.now c.args.query.now (n_asked c.args.n c.if-not-natural_within.ensures) (count_asked c.args.count c.if-not-natural_within-2.ensures))

pub width-requires : goal.width-requires
width-requires c = few_quantities (n_asked c.args.n c.if-not-natural_within.ensures)

pub overflow_mul-count : goal.overflow_mul-count
unfolding width
overflow_mul-count c =
    rw c.width.ensures (omega (arith, rows_fit c.args.count c.args.n (few_rows (count_asked c.args.count c.if-not-natural_within-2.ensures)) (few_quantities (n_asked c.args.n c.if-not-natural_within.ensures))))

pub returns-then-rows-count : goal.returns-then-rows-count
returns-then-rows-count c =
    clauses (places_refused c.args.n c.args.count c.args.rows.now c.args.query.now (n_asked c.args.n c.if-not-natural_within.ensures) (count_asked c.args.count c.if-not-natural_within-2.ensures) (omega (arith, rw c.width.ensures at c.if-rows-count.true)))

pub query_within-requires : goal.query_within-requires
query_within-requires c = few_quantities (n_asked c.args.n c.if-not-natural_within.ensures)

-- the places that are asked for are there
room : (n count : ℕ) {had w : ℕ} → w ≡ width n → count * w ≤ had → count * width n ≤ had
room n count e h = rw e at h

pub returns-then-not-query_within : goal.returns-then-not-query_within
returns-then-not-query_within c =
    clauses (query_refused c.args.n c.args.count c.args.rows.now c.args.query.now (n_asked c.args.n c.if-not-natural_within.ensures) (count_asked c.args.count c.if-not-natural_within-2.ensures) (room c.args.n c.args.count c.width.ensures c.if-rows-count.false) (sym c.if-not-query_within.ensures))

pub of-rows-requires : goal.of-rows-requires
of-rows-requires c =
    record { few = few_quantities (n_asked c.args.n c.if-not-natural_within.ensures); room = room c.args.n c.args.count c.width.ensures c.if-rows-count.false }

pub returns-then-not-rows_within : goal.returns-then-not-rows_within
returns-then-not-rows_within c =
    clauses (rows_refused c.args.n c.args.count c.args.rows.now c.args.query.now (n_asked c.args.n c.if-not-natural_within.ensures) (count_asked c.args.count c.if-not-natural_within-2.ensures) (room c.args.n c.args.count c.width.ensures c.if-rows-count.false) (sym c.if-not-query_within.ensures) (rows_asked c.of-rows.ensures c.if-not-rows_within.ensures))

pub first_run-requires : goal.first_run-requires
first_run-requires c =
    rw (c.of-rows.ensures.quantities, c.of-rows.ensures.counted, c.of-rows.ensures.buffer_is) (record {
      few = few_rows (count_asked c.args.count c.if-not-natural_within-2.ensures);
      places = record { few = few_quantities (n_asked c.args.n c.if-not-natural_within.ensures); room = room c.args.n c.args.count c.width.ensures c.if-rows-count.false };
      query_is_within = sym c.if-not-query_within.ensures;
      rows_within = rows_asked c.of-rows.ensures c.if-not-rows_within.ensures;
    })

pub returns : goal.returns
returns c =
    clauses (search_decides c.args.n c.args.count c.args.rows.now c.args.query.now (n_asked c.args.n c.if-not-natural_within.ensures) (count_asked c.args.count c.if-not-natural_within-2.ensures) (room c.args.n c.args.count c.width.ensures c.if-rows-count.false) (sym c.if-not-query_within.ensures) (rows_asked c.of-rows.ensures c.if-not-rows_within.ensures) (searched c.of-rows.ensures c.args.query.now c.first_run.ensures))
