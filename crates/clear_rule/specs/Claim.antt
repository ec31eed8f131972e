-- Document 02, CR 2 and CR 6: what an answer says, and what a pilot may say of it over the exact sums: at every fraction of the step of a certain row the
-- exact clearance is at least the need.
use Rattle.std.specs.Prelude.{ℕ, zero, suc, ◌+◌, ◌*◌, ◌≤◌, ◌<◌, true, List, ◌⊎◌, ◌≡◌, ℤ, pos, ◌+ℤ◌, ◌*ℤ◌, length, get_or, take, ◌≤ℤ◌, Err, None, Ok, Some}
use Rattle.ranges.specs.Range.{sum_ℤ}
use Rattle.model.specs.Sheet.{scale, terms_of, starts_of, Outcome, refused_at}
use Rattle.enclosure.specs.Exact.{State, exact_sum}
use Rattle.model.specs.Step.{Row, no_row}
use Rattle.model.specs.Rows.{rows_in}
use Rattle.model.specs.Passage.{passage, rows_written}
use Rattle.enclosure.specs.Trust.{LiesWithin, state_after, NoLower, start_of}
use Rattle.model.specs.declared.Sheet.{Sheet}
use Rattle.model.specs.declared.Term.{Term}
use Rattle.model.specs.declared.Refusal.{Refusal}
use Rattle.model.specs.declared.Refusal.TheVariants.{OutOfRange, QueryOutOfRange}
use Rattle.clear_rule.specs.Clearance.{weight, certain, found_number, Found}
use Rattle.clear_rule.specs.declared.Query.{Query}

-- ---- what an answer says of the rows

-- row j, from 0, opens a run: so many rows from it on are among the rows, and each of them is certain
pub record OpensRun (query : Query) (rows : List Row) (j : ℕ) : Type 0 where
  pub counted : j + query.run ≤ length rows
  pub certain_each : (i : ℕ) → i < query.run → certain query (get_or rows (j + i) no_row) ≡ true

-- the row that is named, by its number from 1, opens a run, and no earlier one does; none is said only where no row does
unfoldable pub Answers : Query → List Row → Found → Type 0
Answers query rows (Ok (Some zero)) = ⊥
Answers query rows (Ok (Some (suc j))) = OpensRun query rows j × ((k : ℕ) → k < j → OpensRun query rows k → ⊥)
Answers query rows (Ok None) = (k : ℕ) → OpensRun query rows k → ⊥
Answers query rows (Err r) = Unit {0}

-- ---- what a pilot may say

-- an exact state clears the need: base × s + the sum of weight × (s × its number) is at least need × s, over its denominator
pub record Clears (query : Query) (state : State) : Type 0 where
  pub rational : 0 < state.denominator
  pub enough : (query.need *ℤ pos scale *ℤ pos state.denominator) ≤ℤ (query.base *ℤ pos scale *ℤ pos state.denominator +ℤ sum_ℤ (length state.numerators) (λ i. weight query i *ℤ (pos scale *ℤ get_or state.numerators i (pos 0))))

-- A step from a state is clear all the way: at every fraction u ÷ w of it from 0 to 1 and for every degree no lower than d, the exact sum clears the need.
-- At the fraction the step H ÷ s is (H u) ÷ (s w).
unfoldable pub ClearsAllTheWay : Query → List Term → ℤ → ℕ → State → Type 0
ClearsAllTheWay query terms H d state =
    (u w : ℕ) → 0 < w → u ≤ w →
    (K : ℕ) → d ≤ K →
    Clears query (exact_sum terms (H *ℤ pos u) (scale * w) K state)

-- `Clear j` being what may be said of the step of row j, the rows counted from 0: it may be said of every certain row, and of each row of the run that is
-- answered
pub record EachClear (query : Query) (rows : List Row) (found : Found) (Clear : ℕ → Type 0) : Type 0 where
  pub certain_row : (j : ℕ) → j < length rows → certain query (get_or rows j no_row) ≡ true → Clear j
  pub run : (j i : ℕ) → found ≡ Ok (Some (suc j)) → i < query.run → Clear (j + i)

-- From every exact state within the radii of the sheet's start and by any degrees no lower than the rows' own, followed from step to step over the
-- sheet's own terms, the step of each such row is clear all the way. (`Said` says it of rows that the sheet's passage wrote.)
unfoldable pub ClearOf : Sheet → Query → List Row → Found → Type 0
ClearOf sheet query rows found =
    let terms = terms_of sheet in
    let H = sheet.head.step in
    (state : State) → LiesWithin (starts_of sheet) state →
    (degrees : List ℕ) → NoLower degrees rows →
    EachClear query rows found (λ j. ClearsAllTheWay query terms H (get_or rows j no_row).degree (state_after terms H degrees state j))

-- So it is from every exact state within the radii that the step of such a row starts from, whether or not the passage leads there.
unfoldable pub ClearFrom : Sheet → Query → List Row → Found → Type 0
ClearFrom sheet query rows found =
    EachClear query rows found (λ j. (state : State) → LiesWithin (start_of (starts_of sheet) rows j) state → ClearsAllTheWay query (terms_of sheet) sheet.head.step (get_or rows j no_row).degree state)

-- A sheet's passage wrote the first `count` rows of a buffer, with some places lent: they are the first so many of its rows. Where it is refused at a
-- step, its earlier rows are its rows.
pub record Wrote (sheet : Sheet) (n count : ℕ) (buffer : List ℤ) : Type 0 where
  pub places : ℕ
  pub quantities : n ≡ sheet.head.n
  pub same : rows_in n count buffer ≡ take count (passage sheet places).rows

-- The whole claim about an answer, of the first `count` rows of n quantities in a buffer.
pub record Said (n count : ℕ) (buffer : List ℤ) (query : Query) (found : Found) : Type 0 where
  pub answers : Answers query (rows_in n count buffer) found
  pub clear : (sheet : Sheet) → Wrote sheet n count buffer → ClearOf sheet query (rows_in n count buffer) found
  pub clear_from : (sheet : Sheet) → Wrote sheet n count buffer → ClearFrom sheet query (rows_in n count buffer) found

-- The same about an answer that is one number.
pub record SaidBy (n count : ℕ) (buffer : List ℤ) (query : Query) (number : ℤ) : Type 0 where
  pub found : Found
  pub is : number ≡ found_number found
  pub said : Said n count buffer query found

-- The whole claim about an answer of the rows that a sheet's own passage has written, as they stand in the buffer after it. Of all refusals only 9
-- can be its answer, and 3 where the sheet itself is refused by 3.
pub record SaidOf (sheet : Sheet) (query : Query) (after : List ℤ) (outcome : Outcome) (found : Found) : Type 0 where
  pub answers : Answers query (rows_in sheet.head.n (rows_written sheet outcome) after) found
  pub clear : ClearOf sheet query (rows_in sheet.head.n (rows_written sheet outcome) after) found
  pub clear_from : ClearFrom sheet query (rows_in sheet.head.n (rows_written sheet outcome) after) found
  pub refusals : (r : Refusal) → found ≡ Err r → (r ≡ QueryOutOfRange) ⊎ ((r ≡ OutOfRange) × (outcome ≡ refused_at OutOfRange 0))
