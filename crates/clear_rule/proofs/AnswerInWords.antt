-- What the words of an answer say, without records: that a row opens a run, that a row is named, that a state clears the need, and an answer's number and row.
use Rattle.std.specs.Prelude.{Err, None, Ok, Some}
use Prim.Native.Nat.{ℕ, suc, ◌+◌, ◌≤◌, ◌<◌}
use mathlib.Core.Bool.{true}
use mathlib.Core.List.{List}
use mathlib.Core.Path.{◌≡◌, refl}
use lib.IntN.{pos, ◌+ℤ◌, ◌*ℤ◌}
use lib.ListN.{length, get_or}
use lib.Signed.{◌≤ℤ◌}
use Rattle.ranges.specs.Range.{sum_ℤ}
use Rattle.model.specs.Sheet.{scale, number}
use Rattle.model.specs.Step.{Row, no_row}
use Rattle.model.specs.declared.Refusal.{Refusal}
use Rattle.enclosure.specs.Exact.{State}
use Rattle.clear_rule.specs.Clearance.{weight, certain, found_result, found_row, Names, Found}
use Rattle.clear_rule.specs.Claim.{OpensRun, Answers, Clears}
use Rattle.clear_rule.specs.declared.Query.{Query}

-- ---- runs, and rows that are named

-- a row that is named opens a run, no earlier one does, and where none is said none does
module _ (query : Query) (rows : List Row) where
  pub named_opens : (j : ℕ) → Answers query rows (Ok (Some (suc j))) → OpensRun query rows j
  unfolding Answers
  named_opens j answers = answers.0

  pub named_first : (j : ℕ) → Answers query rows (Ok (Some (suc j))) → (k : ℕ) → k < j → OpensRun query rows k → ⊥
  unfolding Answers
  named_first j answers = answers.1

  pub none_opens : Answers query rows (Ok None) → (k : ℕ) → OpensRun query rows k → ⊥
  unfolding Answers
  none_opens answers = answers

  -- what it is to open a run, and every row of which this is so
  pub opens_says : {j : ℕ} → OpensRun query rows j → (j + query.run ≤ length rows) × ((i : ℕ) → i < query.run → certain query (get_or rows (j + i) no_row) ≡ true)
  opens_says opens = (opens.counted, opens.certain_each)

  pub opens_asks : {j : ℕ} → j + query.run ≤ length rows → ((i : ℕ) → i < query.run → certain query (get_or rows (j + i) no_row) ≡ true) → OpensRun query rows j
  opens_asks counted each = record { counted = counted; certain_each = each }

-- ---- the need

-- an exact state that clears the need, whatever its denominator and the weights: base + the sum of weight × its numbers is at least the need, each times s and
-- times the denominator
pub clears_says : {query : Query} {state : State} → Clears query state → (0 < state.denominator) × ((query.need *ℤ pos scale *ℤ pos state.denominator) ≤ℤ (query.base *ℤ pos scale *ℤ pos state.denominator +ℤ sum_ℤ (length state.numerators) (λ i. get_or query.weights i (pos 0) *ℤ (pos scale *ℤ get_or state.numerators i (pos 0)))))
unfolding weight
clears_says clears = (clears.rational, clears.enough)

-- ---- an answer's number, and the row that it names

-- a row that is named has its own number and the number 0; none has 0 and 0, and a refusal its number and no row
pub found_at : (row : ℕ) → (found_result (Ok (Some row)) ≡ 0) × (found_row (Ok (Some row)) ≡ row)
unfolding found_result found_row
found_at row = (refl, refl)

pub found_none : (found_result (Ok None) ≡ 0) × (found_row (Ok None) ≡ 0)
unfolding found_result found_row
found_none = (refl, refl)

pub found_refused : (r : Refusal) → (found_result (Err r) ≡ number r) × (found_row (Err r) ≡ 0)
unfolding found_result found_row
found_refused r = (refl, refl)

pub names_says : {found meant : Found} → Names found meant → (found_result found ≡ found_result meant) × (found_row found ≡ found_row meant)
names_says names = (names.result_is, names.row_is)
