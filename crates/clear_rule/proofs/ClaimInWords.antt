-- What the records of the claim come to, said without them: an answer to every weight and need holds each exact sum within a step between the row's lows and
-- highs, of any rows that a passage wrote and of a passage's own; of refusals only 9 and 3 are answers about those; a row that is named, by itself or as a
-- number, opens a run, all of whose steps are clear all the way, with their beginnings and their ends.
use Rattle.std.specs.Prelude.{Err, None, Ok, Some}
use Prim.Native.Nat.{ℕ, zero, suc, ◌+◌, ◌*◌, ◌≤◌, ◌<◌}
use mathlib.Core.Bool.{true, false≢true}
use mathlib.Core.List.{List}
use mathlib.Core.Logic.{◌⊎◌, inl, inr}
use mathlib.Core.Path.{◌≡◌, refl, sym, ap, ap₂, subst, ◌∙◌}
use native.Mathlib.Nat.{mul-one}
use native.Mathlib.Omega.{arith}
use lib.IntN.{ℤ, pos, negsuc, neg_ℤ, nat_abs, ◌*ℤ◌, one, *ℤ-one}
use lib.ListN.{length, get_or}
use lib.Signed.{non_neg}
use Rattle.model.specs.Sheet.{scale, terms_of, starts_of, number, Outcome, refused_at}
use Rattle.enclosure.specs.Exact.{State, exact_sum}
use Rattle.model.specs.Passage.{rows_written}
use Rattle.model.specs.Rows.{row_in, rows_in}
use Rattle.model.specs.Step.{Row, no_row}
use Rattle.enclosure.specs.Trust.{LiesWithin, state_after, start_of, SpannedOf}
use Rattle.model.specs.declared.Refusal.{Refusal}
use Rattle.model.specs.declared.Refusal.TheVariants.{OutOfRange, QueryOutOfRange}
use Rattle.model.proofs.RefusalNumbers.{minus_not_natural}
use Rattle.model.specs.declared.Sheet.{Sheet}
use Rattle.model.specs.declared.Term.{Term}
use Rattle.ranges.proofs.Ranges.{length_tabulate, get_or_tabulate}
use Rattle.laws.proofs.Passages.RowPlaces.{Quantities}
use Rattle.clear_rule.specs.Clearance.{certain, found_number, Found}
use Rattle.clear_rule.specs.Claim.{Answers, Clears, ClearsAllTheWay, EachClear, ClearOf, ClearFrom, Wrote, Said, SaidBy, SaidOf}
use Rattle.clear_rule.specs.declared.Query.{Query}
use Rattle.clear_rule.proofs.SumsFit.{length_rows}
use Rattle.clear_rule.proofs.ClearSpans.{Between, clear_spans, clear_from_spans}

wide_rows : (n count : ℕ) (buffer : List ℤ) (j : ℕ) → j < length (rows_in n count buffer) → Quantities n (get_or (rows_in n count buffer) j no_row)
unfolding rows_in row_in
wide_rows n count buffer j h =
    let row : get_or (rows_in n count buffer) j no_row ≡ row_in n buffer j = get_or_tabulate count (row_in n buffer) no_row j (omega (arith, length_rows n count buffer)) in
    record { balls = ap (λ (row : Row). length row.balls) row ∙ length_tabulate n _; spans = ap (λ (row : Row). length row.spans) row ∙ length_tabulate n _ }

module _ (sheet : Sheet) (base : ℤ) (run : ℕ) (found : List ℤ → ℤ → Found) where
  pub said_spans : (n count : ℕ) (buffer : List ℤ) → Wrote sheet n count buffer → ((weights : List ℤ) (need : ℤ) → Said n count buffer (record { weights = weights; base = base; need = need; run = run }) (found weights need)) → Between sheet (rows_in n count buffer)
  said_spans n count buffer wrote said =
      clear_spans sheet (rows_in n count buffer) base run found (rw (← wrote.quantities) (wide_rows n count buffer)) (λ weights need. (said weights need).clear sheet wrote)

  pub said_spans_from : (n count : ℕ) (buffer : List ℤ) → Wrote sheet n count buffer → ((weights : List ℤ) (need : ℤ) → Said n count buffer (record { weights = weights; base = base; need = need; run = run }) (found weights need)) → SpannedOf sheet (rows_in n count buffer)
  said_spans_from n count buffer wrote said =
      clear_from_spans sheet (rows_in n count buffer) base run found (rw (← wrote.quantities) (wide_rows n count buffer)) (λ weights need. (said weights need).clear_from sheet wrote)

  pub said_of_spans : (after : List ℤ) (outcome : Outcome) → ((weights : List ℤ) (need : ℤ) → SaidOf sheet (record { weights = weights; base = base; need = need; run = run }) after outcome (found weights need)) → Between sheet (rows_in sheet.head.n (rows_written sheet outcome) after)
  said_of_spans after outcome said =
      clear_spans sheet (rows_in sheet.head.n (rows_written sheet outcome) after) base run found (wide_rows sheet.head.n (rows_written sheet outcome) after) (λ weights need. (said weights need).clear)

  pub said_of_spans_from : (after : List ℤ) (outcome : Outcome) → ((weights : List ℤ) (need : ℤ) → SaidOf sheet (record { weights = weights; base = base; need = need; run = run }) after outcome (found weights need)) → SpannedOf sheet (rows_in sheet.head.n (rows_written sheet outcome) after)
  said_of_spans_from after outcome said =
      clear_from_spans sheet (rows_in sheet.head.n (rows_written sheet outcome) after) base run found (wide_rows sheet.head.n (rows_written sheet outcome) after) (λ weights need. (said weights need).clear_from)

-- the same of answers that are one number
pub said_by_spans : (sheet : Sheet) (base : ℤ) (run : ℕ) (number : List ℤ → ℤ → ℤ) (n count : ℕ) (buffer : List ℤ) → Wrote sheet n count buffer → ((weights : List ℤ) (need : ℤ) → SaidBy n count buffer (record { weights = weights; base = base; need = need; run = run }) (number weights need)) → Between sheet (rows_in n count buffer)
said_by_spans sheet base run number n count buffer wrote said =
    said_spans sheet base run (λ weights need. (said weights need).found) n count buffer wrote (λ weights need. (said weights need).said)

pub said_by_spans_from : (sheet : Sheet) (base : ℤ) (run : ℕ) (number : List ℤ → ℤ → ℤ) (n count : ℕ) (buffer : List ℤ) → Wrote sheet n count buffer → ((weights : List ℤ) (need : ℤ) → SaidBy n count buffer (record { weights = weights; base = base; need = need; run = run }) (number weights need)) → SpannedOf sheet (rows_in n count buffer)
said_by_spans_from sheet base run number n count buffer wrote said =
    said_spans_from sheet base run (λ weights need. (said weights need).found) n count buffer wrote (λ weights need. (said weights need).said)

-- the premise is about the counted rows alone: a copy of them meets it, whatever stands behind
pub copied_wrote : (sheet : Sheet) (n count : ℕ) (buffer copy : List ℤ) → Wrote sheet n count buffer → rows_in n count copy ≡ rows_in n count buffer → Wrote sheet n count copy
copied_wrote sheet n count buffer copy wrote e = record { places = wrote.places; quantities = wrote.quantities; same = e ∙ wrote.same }

-- ---- refusals

-- of a passage's own rows only 9 and 3 are answered, never 5 or 10
pub own_refusal_number : (sheet : Sheet) (query : Query) (after : List ℤ) (outcome : Outcome) (r : Refusal) → SaidOf sheet query after outcome (Err r) → (number r ≡ 9) ⊎ (number r ≡ 3)
unfolding number
own_refusal_number sheet query after outcome r said = go (said.refusals r refl)
  where
    go : {A : Type 0} → (r ≡ QueryOutOfRange) ⊎ ((r ≡ OutOfRange) × A) → (number r ≡ 9) ⊎ (number r ≡ 3)
    go (inl e) = inl (ap number e)
    go (inr e) = inr (ap number e.0)

-- .. and 3 only where the sheet itself is refused by it
pub own_refusal_3 : (sheet : Sheet) (query : Query) (after : List ℤ) (outcome : Outcome) → SaidOf sheet query after outcome (Err OutOfRange) → outcome ≡ refused_at OutOfRange 0
unfolding number
own_refusal_3 sheet query after outcome said = go (said.refusals OutOfRange refl)
  where
    go : (OutOfRange ≡ QueryOutOfRange) ⊎ ((OutOfRange ≡ OutOfRange) × (outcome ≡ refused_at OutOfRange 0)) → outcome ≡ refused_at OutOfRange 0
    go (inl e) = absurd (let z : 3 ≡ 9 = ap number e in omega arith)
    go (inr e) = e.1

-- a number below 0 is that of a refusal, with a minus
pub said_by_refusal : (n count : ℕ) (buffer : List ℤ) (query : Query) (m : ℕ) → SaidBy n count buffer query (negsuc m) → (r : Refusal) × (number r ≡ suc m)
unfolding found_number
said_by_refusal n count buffer query m said = go said.found said.is
  where
    minus : (k : ℕ) → negsuc m ≡ neg_ℤ (pos k) → k ≡ suc m
    minus zero e = absurd (false≢true (ap non_neg e))
    minus (suc k) e = ap (λ (z : ℤ). nat_abs z) (sym e)

    go : (found : Found) → negsuc m ≡ found_number found → (r : Refusal) × (number r ≡ suc m)
    go (Ok (Some row)) e = absurd (false≢true (ap non_neg e))
    go (Ok None) e = absurd (false≢true (ap non_neg e))
    go (Err r) e = (r, minus (number r) e)

-- ---- what an answer says

-- of an answer to the rows of a buffer, whatever the query is, what it says of these rows holds, and of rows that a passage wrote what a pilot may say ..
module _ (n count : ℕ) (buffer : List ℤ) (query : Query) (found : Found) (said : Said n count buffer query found) where
  pub said_answers : Answers query (rows_in n count buffer) found
  said_answers = said.answers

  pub said_clears : (sheet : Sheet) → Wrote sheet n count buffer → ClearOf sheet query (rows_in n count buffer) found × ClearFrom sheet query (rows_in n count buffer) found
  said_clears sheet wrote = (said.clear sheet wrote, said.clear_from sheet wrote)

-- .. and so it is of a passage's own rows
module _ (sheet : Sheet) (query : Query) (after : List ℤ) (outcome : Outcome) (found : Found) (said : SaidOf sheet query after outcome found) where
  pub own_answers : Answers query (rows_in sheet.head.n (rows_written sheet outcome) after) found
  own_answers = said.answers

  pub own_clears : let rows = rows_in sheet.head.n (rows_written sheet outcome) after in ClearOf sheet query rows found × ClearFrom sheet query rows found
  own_clears = (said.clear, said.clear_from)

-- a number from 1 up is that of the row that is named, and 0 says none
module _ (n count : ℕ) (buffer : List ℤ) (query : Query) where
  pub said_by_row : (j : ℕ) → SaidBy n count buffer query (pos (suc j)) → Said n count buffer query (Ok (Some (suc j)))
  unfolding found_number
  said_by_row j said = go said.found said.is said.said
    where
      go : (found : Found) → pos (suc j) ≡ found_number found → Said n count buffer query found → Said n count buffer query (Ok (Some (suc j)))
      go (Ok (Some row)) e of_row = let same : row ≡ suc j = ap nat_abs (sym e) in subst (λ (row : ℕ). Said n count buffer query (Ok (Some row))) same of_row
      go (Ok None) e of_none = absurd (omega (arith, ap nat_abs e))
      go (Err r) e of-refusal = absurd (minus_not_natural r _ e)

  pub said_by_none : SaidBy n count buffer query (pos 0) → Said n count buffer query (Ok None)
  unfolding found_number Answers
  said_by_none said = go said.found said.is said.said
    where
      go : (found : Found) → pos 0 ≡ found_number found → Said n count buffer query found → Said n count buffer query (Ok None)
      go (Ok (Some zero)) e of_row = absurd of_row.answers
      go (Ok (Some (suc row))) e of_row = absurd (omega (arith, ap nat_abs e))
      go (Ok None) e of_none = of_none
      go (Err r) e of-refusal = absurd (minus_not_natural r _ e)

-- ---- a step that is clear all the way

-- the whole step is its fraction 1 ÷ 1
whole_step : (terms : List Term) (H : ℤ) (K : ℕ) (state : State) → exact_sum terms (H *ℤ pos 1) (scale * 1) K state ≡ exact_sum terms H scale K state
unfolding one
whole_step terms H K state = ap₂ (λ (H : ℤ) (s : ℕ). exact_sum terms H s K state) (*ℤ-one H) (mul-one scale)

module _ (sheet : Sheet) (query : Query) (rows : List Row) (found : Found) (claim : ClearOf sheet query rows found) (state : State) (within : LiesWithin (starts_of sheet) state) (degrees : List ℕ) (each : length degrees ≡ length rows) (lower : (j : ℕ) → j < length rows → (get_or rows j no_row).degree ≤ get_or degrees j 0) where
  claimed : EachClear query rows found (λ j. ClearsAllTheWay query (terms_of sheet) sheet.head.step (get_or rows j no_row).degree (state_after (terms_of sheet) sheet.head.step degrees state j))
  unfolding ClearOf
  claimed = claim state within degrees (record { each = each; lower = lower })

  -- at the end of its step: the exact state of a certain row clears the need
  pub end_clears : (j : ℕ) → j < length rows → certain query (get_or rows j no_row) ≡ true → Clears query (state_after (terms_of sheet) sheet.head.step degrees state (suc j))
  unfolding ClearsAllTheWay state_after
  end_clears j h e =
      rw (← whole_step (terms_of sheet) sheet.head.step (get_or degrees j 0) (state_after (terms_of sheet) sheet.head.step degrees state j)) (claimed.certain_row j h e 1 1 (omega arith) (omega arith) (get_or degrees j 0) (lower j h))

  -- the step of every certain row is clear all the way ..
  pub row_clears : (j : ℕ) → j < length rows → certain query (get_or rows j no_row) ≡ true → (u w : ℕ) → 0 < w → u ≤ w → (K : ℕ) → (get_or rows j no_row).degree ≤ K → Clears query (exact_sum (terms_of sheet) (sheet.head.step *ℤ pos u) (scale * w) K (state_after (terms_of sheet) sheet.head.step degrees state j))
  unfolding ClearsAllTheWay
  row_clears j h e = claimed.certain_row j h e

  -- .. and so is each step of the run that is answered
  pub run_clears : (j : ℕ) → found ≡ Ok (Some (suc j)) → (i : ℕ) → i < query.run → (u w : ℕ) → 0 < w → u ≤ w → (K : ℕ) → (get_or rows (j + i) no_row).degree ≤ K → Clears query (exact_sum (terms_of sheet) (sheet.head.step *ℤ pos u) (scale * w) K (state_after (terms_of sheet) sheet.head.step degrees state (j + i)))
  unfolding ClearsAllTheWay
  run_clears j e i h = claimed.run j i e h

-- so it is from every exact state within the radii that the step starts from, whether or not the passage leads there
module _ (sheet : Sheet) (query : Query) (rows : List Row) (found : Found) (claim : ClearFrom sheet query rows found) where
  pub row_clears_from : (j : ℕ) → j < length rows → certain query (get_or rows j no_row) ≡ true → (state : State) → LiesWithin (start_of (starts_of sheet) rows j) state → (u w : ℕ) → 0 < w → u ≤ w → (K : ℕ) → (get_or rows j no_row).degree ≤ K → Clears query (exact_sum (terms_of sheet) (sheet.head.step *ℤ pos u) (scale * w) K state)
  unfolding ClearFrom ClearsAllTheWay
  row_clears_from j h e = claim.certain_row j h e

  pub run_clears_from : (j : ℕ) → found ≡ Ok (Some (suc j)) → (i : ℕ) → i < query.run → (state : State) → LiesWithin (start_of (starts_of sheet) rows (j + i)) state → (u w : ℕ) → 0 < w → u ≤ w → (K : ℕ) → (get_or rows (j + i) no_row).degree ≤ K → Clears query (exact_sum (terms_of sheet) (sheet.head.step *ℤ pos u) (scale * w) K state)
  unfolding ClearFrom ClearsAllTheWay
  run_clears_from j e i h = claim.run j i e h
