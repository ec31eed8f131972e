-- The rows that a passage has written itself: they are in their ranges and in their places, so that of the questions only those on n and on the
-- query are left; and demand 3 holds of them without a premise.
use Rattle.std.specs.Prelude.{Err}
use Prim.Native.Nat.{ℕ, ◌*◌, ◌≤◌, ◌<◌}
use mathlib.Core.Bool.{Bool, true, false}
use mathlib.Core.List.{List}
use mathlib.Core.Logic.{◌⊎◌, inl, inr, ⊎_elim}
use mathlib.Core.Path.{◌≡◌, refl, sym, ap, ◌∙◌}
use native.Mathlib.Nat.{le_trans, le_refl, mul-le-mul}
use native.Mathlib.Omega.{arith}
use borrow.Author.Tests.{le-leb}
use lib.Dec.{leb}
use lib.IntN.{ℤ, pos}
use lib.ListN.{length, get_or, take}
use lib.Seq.{length-take-le, get_or-take}
use Rattle.ranges.specs.Range.{every}
use Rattle.model.specs.Sheet.{most, most_steps, Verdict, passes, refuses, ask, ◌then◌, within, in_range, n_limits, head_verdict, sheet_verdict_to, Outcome, refused_at}
use Rattle.model.specs.Step.{Row, no_row}
use Rattle.model.specs.Rows.{width, values_part, radii_part, lows_part, highs_part, part_place, written, rows_in}
use Rattle.enclosure.specs.RowRange.{Printable}
use Rattle.model.specs.Passage.{Run, refused, passage, rows_written}
use Rattle.model.specs.declared.Limits.{Limits}
use Rattle.model.specs.declared.Refusal.{Refusal}
use Rattle.model.specs.declared.Refusal.TheVariants.{OutOfRange, TooFewPlaces, QueryOutOfRange, RowOutOfRange}
use Rattle.model.specs.declared.Sheet.{Sheet}
use Rattle.laws.proofs.Passages.RowsOfPassage.{rows_of_passage, passage_refused}
use Rattle.enclosure.proofs.RowRange.{passage_in_range, passage_few, passage_fits}
use Rattle.ranges.proofs.Lists.{each_at}
use Rattle.laws.proofs.Passages.RowPlaces.{Wide, places_length, row_written, written_length, value_written, radius_written, low_written, high_written}
use Rattle.laws.proofs.Passages.UnderWay.{RunInto}
use Rattle.ranges.proofs.Ranges.{tabulate_is}
use Rattle.ranges.proofs.EveryLaws.{every_all}
use Rattle.laws.proofs.Text.Verdicts.{natural_passes, signed_passes}
use Rattle.clear_rule.specs.Clearance.{count_limits, most_place, row_value_limits, row_radius_limits, query_within, row_within, clear_verdict, first_run, first_clear, Found}
use Rattle.clear_rule.specs.Claim.{Wrote, Said, SaidOf}
use Rattle.clear_rule.specs.declared.Query.{Query}
use Rattle.clear_rule.proofs.SumsFit.{part_passes}
use Rattle.clear_rule.proofs.FirstRun.{search_refuses_nothing}
use Rattle.clear_rule.proofs.WholeClaim.{answered}

then_passes : (v : Verdict) → (v then passes) ≡ v
unfolding ◌then◌
then_passes passes = refl
then_passes (refuses r) = refl

-- ---- a passage's rows, as they stand in its buffer

module _ (sheet : Sheet) (before : List ℤ) where
  abbrev rows : List Row
  rows = (passage sheet (length before)).rows

  wide : Wide sheet.head.n rows
  wide = (rows_of_passage sheet (length before)).wide

  in_range_lem : (j : ℕ) → j < length rows → Printable (get_or rows j no_row)
  in_range_lem = each_at no_row (passage_in_range sheet (length before))

  row_passes : (j : ℕ) → j < length rows → row_within sheet.head.n (written rows before) j ≡ true
  unfolding row_within row_value_limits row_radius_limits most
  row_passes j h =
      rw (part_passes row_value_limits n (written rows before) j values_part values, part_passes row_radius_limits n (written rows before) j radii_part radii, part_passes row_value_limits n (written rows before) j lows_part lows, part_passes row_value_limits n (written rows before) j highs_part highs)
    where
      n : ℕ
      n = sheet.head.n

      Passes : Limits → ℕ → ℕ → Type 0
      Passes limits p i = within limits (get_or (written rows before) (part_place n j p i) (pos 0)) ≡ true

      ball : {i : ℕ} → i < n → i < length (get_or rows j no_row).balls
      ball l = rw (each_at no_row wide j h).balls l

      span : {i : ℕ} → i < n → i < length (get_or rows j no_row).spans
      span l = rw (each_at no_row wide j h).spans l

      values : (i : ℕ) → i < n → Passes row_value_limits values_part i
      values i l = rw (value_written wide before j h i l) (signed_passes most_place _ (omega (arith, (in_range_lem j h).values i (ball l))))

      radii : (i : ℕ) → i < n → Passes row_radius_limits radii_part i
      radii i l = rw (radius_written wide before j h i l) (natural_passes _ (omega arith) (omega (arith, (in_range_lem j h).radii i (ball l))))

      lows : (i : ℕ) → i < n → Passes row_value_limits lows_part i
      lows i l = rw (low_written wide before j h i l) (signed_passes most_place _ ((in_range_lem j h).lows i (span l)))

      highs : (i : ℕ) → i < n → Passes row_value_limits highs_part i
      highs i l = rw (high_written wide before j h i l) (signed_passes most_place _ ((in_range_lem j h).highs i (span l)))

  room : length rows * width sheet.head.n ≤ length (written rows before)
  room =
      let fits = passage_fits sheet (length before) in
      rw (written_length rows before (rw (places_length wide) fits)) fits

  -- the passage wrote these rows, and any first so many of them
  pub written_wrote : (count : ℕ) → count ≤ length rows → Wrote sheet sheet.head.n count (written rows before)
  unfolding rows_in
  written_wrote count few =
      record {
        places = length before;
        quantities = refl;
        same = tabulate_is count _ no_row (take count rows) (length-take-le count rows few) (λ j h. row_written wide before j (omega arith) ∙ sym (get_or-take count rows j no_row h));
      }

  -- of the questions, those on n and on the query are left
  own_verdict : (query : Query) (count : ℕ) → count ≤ length rows → clear_verdict sheet.head.n count (written rows before) query ≡ (in_range n_limits (pos sheet.head.n) then ask (query_within sheet.head.n query) QueryOutOfRange)
  unfolding clear_verdict
  own_verdict query count few = ap (λ (later : Verdict). in_range n_limits (pos sheet.head.n) then later) (after_n (ask (query_within sheet.head.n query) QueryOutOfRange) counted placed ranged)
    where
      after_n : {a b c : Verdict} (v : Verdict) → a ≡ passes → b ≡ passes → c ≡ passes → (a then b then v then c) ≡ v
      after_n v e f g = unfold ◌then◌ in rw (e, f, g) (then_passes v)

      counted : in_range count_limits (pos count) ≡ passes
      counted = unfold count_limits in_range ask in rw (natural_passes {low = 0} {high = most_steps} count (omega arith) (le_trans few (passage_few sheet (length before))))

      placed : ask (leb (count * width sheet.head.n) (length (written rows before))) TooFewPlaces ≡ passes
      placed = unfold ask in rw (le-leb _ _ (le_trans (mul-le-mul few (le_refl (width sheet.head.n))) room))

      ranged : ask (every count (row_within sheet.head.n (written rows before))) RowOutOfRange ≡ passes
      ranged = unfold ask in rw (every_all _ count (λ j h. row_passes j (omega arith)))

  -- so that only these two can refuse: 10 is never met, nor is 5
  pub written_refusals : (query : Query) (count : ℕ) → count ≤ length rows → (r : Refusal) → first_clear sheet.head.n count (written rows before) query ≡ Err r → (r ≡ QueryOutOfRange) ⊎ ((r ≡ OutOfRange) × (within n_limits (pos sheet.head.n) ≡ false))
  written_refusals query count few r f = go (within n_limits (pos sheet.head.n)) (query_within sheet.head.n query) refl refl
    where
      -- the answer, by the two questions
      told : (v : Verdict) → (in_range n_limits (pos sheet.head.n) then ask (query_within sheet.head.n query) QueryOutOfRange) ≡ v → ◌≡◌ {A = Found} (elim v [ refuses r ↦ Err r | passes ↦ first_run query (rows_in sheet.head.n count (written rows before)) ]) (Err r)
      told v asked = sym (answered sheet.head.n count (written rows before) query {v = v} (own_verdict query count few ∙ asked)) ∙ f

      go : (n-passes query-passes : Bool) → within n_limits (pos sheet.head.n) ≡ n-passes → query_within sheet.head.n query ≡ query-passes → (r ≡ QueryOutOfRange) ⊎ ((r ≡ OutOfRange) × (within n_limits (pos sheet.head.n) ≡ false))
      go false b p q = let is = told (refuses OutOfRange) (unfold in_range ask ◌then◌ in rw p) in inr (cc is, p)
      go true false p q = let is = told (refuses QueryOutOfRange) (unfold in_range ask ◌then◌ in rw (p, q)) in inl (cc is)
      go true true p q = absurd (search_refuses_nothing query _ (told passes (unfold in_range ask ◌then◌ in rw (p, q))))

-- ---- what comes of them

module _ (sheet : Sheet) (before : List ℤ) {after : List ℤ} {outcome : Outcome} (into : RunInto (passage sheet (length before)) before after outcome) where
  count_is : rows_written sheet outcome ≡ length (rows sheet before)
  count_is = ap (rows_written sheet) into.0 ∙ sym (rows_of_passage sheet (length before)).count

  pub own_wrote : (count : ℕ) → count ≤ rows_written sheet outcome → Wrote sheet sheet.head.n count after
  own_wrote count few = rw into.1 (written_wrote sheet before count (omega (arith, count_is)))

  -- a sheet whose n is refused is refused by it
  n_decides : within n_limits (pos sheet.head.n) ≡ false → outcome ≡ refused_at OutOfRange 0
  unfolding refused
  n_decides e = into.0 ∙ ap (λ (run : Run). run.outcome) (passage_refused sheet (length before) (unfold sheet_verdict_to head_verdict in_range ask ◌then◌ in rw e))

  pub own_refusals : (query : Query) {found : Found} → found ≡ first_clear sheet.head.n (rows_written sheet outcome) after query → (r : Refusal) → found ≡ Err r → (r ≡ QueryOutOfRange) ⊎ ((r ≡ OutOfRange) × (outcome ≡ refused_at OutOfRange 0))
  own_refusals query e r f =
      ⊎_elim (λ (q : r ≡ QueryOutOfRange). inl q) (λ (p : (r ≡ OutOfRange) × (within n_limits (pos sheet.head.n) ≡ false)). inr (p.0, n_decides p.1)) (written_refusals sheet before query (rows_written sheet outcome) (omega (arith, count_is)) r (rw (← into.1) (sym e ∙ f)))

  pub own_said : (query : Query) {found : Found} → found ≡ first_clear sheet.head.n (rows_written sheet outcome) after query → Said sheet.head.n (rows_written sheet outcome) after query found → SaidOf sheet query after outcome found
  own_said query e said = let wrote = own_wrote (rows_written sheet outcome) (omega arith) in record { answers = said.answers; clear = said.clear sheet wrote; clear_from = said.clear_from sheet wrote; refusals = own_refusals query e }
