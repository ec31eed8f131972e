-- What reading gives: an accepted sheet is in range in every field and holds 0 past its counts; a refused one is the sheet of zeros, with
-- one of the first four refusals and no step.
use Rattle.std.specs.Prelude.{Option, Some, None}
use Rattle.model.proofs.Outcomes.{same_refusal, same_step}
use Prim.Native.Nat.{ℕ, zero, suc, ◌-◌, ◌≤◌, ◌<◌}
use mathlib.Core.Path.{◌≡◌, refl, sym, ap, ◌∙◌}
use mathlib.Core.Bool.{Bool, true, false}
use mathlib.Core.List.{List, [], ◌∷◌, ◌++◌}
use mathlib.Core.Logic.{⊎_elim}
use native.Mathlib.Omega.{arith}
use lib.Seq.{take_all, take_at, length-take-le}
use lib.Signed.{le_z}
use lib.IntN.{ℤ, pos}
use lib.Dec.{leb}
use lib.ListN.{length, get_or, take, replicate, length-append, length-replicate, get_or-append}
use borrow.Author.Tests.{lt-leb, eq-eqb}
use Rattle.ranges.specs.Range.{bytes}
use Rattle.model.specs.Reading.{Parsed, parsed, fault, return, ◌>>=◌, signed_field, start, quantity, term, head, quantities, terms, body, sheet, accepted, read_sheet_to, after}
use Rattle.model.specs.Sheet.{not_refused, refused_at, most_bytes, most_quantities, most_steps, most_terms, number, Verdict, passes, ◌then◌, in_order, head_verdict, quantity_verdict, quantities_verdict, start_verdict, term_verdict, terms_verdict, sheet_verdict_to, sheet_verdict, no_quantity, no_term, no_sheet, start_value, start_ball, starts_of, padded, quantities_held, terms_held, n_limits, steps_limits, tail_limits, tol_limits, start_limits, radius_limits, terms_limits, to_limits, coef_limits, first_limits, second_limits, from◌to◌}
use Rattle.model.specs.Step.{no_ball}
use Rattle.laws.specs.ReadingMeans.{ZeroPastCounts}
use Rattle.model.specs.declared.Refusal.{Refusal}
use Rattle.model.specs.declared.Refusal.TheVariants.{Oversized, NoReading}
use Rattle.model.specs.declared.Ball.{Ball}
use Rattle.model.specs.declared.Quantity.{Quantity}
use Rattle.model.specs.declared.Term.{Term}
use Rattle.model.specs.declared.Terms.{Terms}
use Rattle.model.specs.declared.Sheet.{Sheet}
use Rattle.laws.proofs.Text.Verdicts.{refusal_not_passes, in_range_lem, few_quantities, sheet_in_range, both_pass}
use Rattle.ranges.proofs.Ranges.{below, before_or_past, get_or_tabulate}
use Rattle.laws.proofs.Text.Parsers.{Delivers, delivers, faulty, Yields, Each, yields_return, yields_then, yields_times, yields_end, yields_field, yields_signed, yields_step}

-- ---- the parts of a sheet

pub after_itself : (key rest : List ℕ) → after key (key ++ rest) ≡ Some rest
unfolding after
after_itself [] rest = refl
after_itself (k ∷ key) rest = rw (eq-eqb k k refl, after) (after_itself key rest)

-- a missing reading is refused, and never a number
pub none_is_no_reading : (rest : List ℕ) → start (bytes "start=none\n" ++ rest) ≡ fault NoReading
unfolding start
none_is_no_reading rest = rw (after_itself (bytes "start=none\n") rest, start)

yields_start : Yields (λ x. start_verdict x ≡ passes) start
unfolding start start_verdict number
yields_start = record { on = λ text. go text (after (bytes "start=none\n") text) }
  where
    reading : Yields (λ x. start_verdict x ≡ passes) (signed_field "start" start_limits >>= λ z. return (Some z))
    reading = yields_then (yields_signed "start" start_limits) (λ z w. yields_return (Some z) w)

    go : (text : List ℕ) (x : Option (List ℕ)) → Delivers (λ x. start_verdict x ≡ passes) (elim x [ Some rest ↦ fault NoReading | None ↦ (signed_field "start" start_limits >>= λ z. return (Some z)) text ])
    go text (Some rest) = faulty NoReading (omega arith)
    go text None = reading.on text

then_passes : {a b : Verdict} → a ≡ passes → b ≡ passes → a then b ≡ passes
unfolding ◌then◌
then_passes h k = rw h k

yields_quantity : Yields (λ x. quantity_verdict x ≡ passes) quantity
unfolding quantity quantity_verdict radius_limits from◌to◌
yields_quantity = yields_then yields_start (λ reading s. yields_then (yields_field "radius" radius_limits refl) (λ radius w. yields_return (record { start = reading; radius = radius }) (then_passes s w)))

yields_term : (n : ℕ) → Yields (λ x. term_verdict n x ≡ passes) (term n)
unfolding term term_verdict to_limits first_limits second_limits from◌to◌
yields_term n =
    yields_then (yields_field "to" (to_limits n) refl) (λ target t.
    yields_then (yields_signed "coef" coef_limits) (λ coef a.
    yields_then (yields_field "first" (first_limits n) refl) (λ first f.
    yields_then (yields_field "second" (second_limits n first) (natural_second n first)) (λ second g.
    yields_return (record { to = target; coef = coef; first = first; second = second }) (then_passes t (then_passes a (then_passes f g)))))))
  where
    natural_second : (n first : ℕ) → le_z (pos 0) (second_limits n first).low ≡ true
    natural_second n zero = refl
    natural_second n (suc first) = refl

-- so many with the property, made up to a length
record Filled {A : Type 0} (P : A → Type 0) (size count : ℕ) (last : A) (xs : List A) : Type 0 where
  size_is : length xs ≡ size
  past : xs ≡ padded size last (take count xs)
  each : (i : ℕ) → i < count → P (get_or xs i last)

each_padded : {A : Type 0} {P : A → Type 0} {count : ℕ} {xs : List A} (size : ℕ) (last : A) → count ≤ size → Each P count xs → Filled P size count last (padded size last xs)
unfolding padded
each_padded {A} {P} {count} {xs} size last fits e =
    record {
      size_is = simp (length-append, length-replicate) (omega (arith, e.count));
      past = ap (padded size last) (sym (take_at xs (replicate (size - length xs) last) count e.count));
      each = λ i h. rw (get_or-append xs (replicate (size - length xs) last) last i (omega (arith, e.count))) (e.each last i h);
    }

-- ---- a sheet

all_pass : (n : ℕ) {f : ℕ → Verdict} → ((i : ℕ) → i < n → f i ≡ passes) → in_order n f ≡ passes
unfolding in_order
all_pass zero h = refl
all_pass (suc n) h = then_passes (all_pass n (below n h)) (h n (omega arith))

-- an accepted sheet of at most so many steps: every field in its range, every start a number, its lists as long as they are declared, and 0
-- past its counts
pub record Acceptable (high : ℕ) (sheet : Sheet) : Type 0 where
  pub verdict : sheet_verdict_to high sheet ≡ passes
  pub quantities : length sheet.quantities ≡ most_quantities
  pub terms : length sheet.terms.list ≡ most_terms
  pub zeros : ZeroPastCounts sheet

-- what a head that is read passes
pub yields_head : (high : ℕ) → Yields (λ x. head_verdict high x ≡ passes) (head high)
unfolding head head_verdict n_limits steps_limits tail_limits tol_limits from◌to◌
yields_head high =
    yields_then (yields_field "n" n_limits refl) (λ n a.
    yields_then (yields_field "steps" (steps_limits high) refl) (λ steps b.
    yields_then yields_step (λ step c.
    yields_then (yields_field "tail" tail_limits refl) (λ tail d.
    yields_then (yields_field "tol" tol_limits refl) (λ tol e.
    yields_return _ (then_passes a (then_passes b (then_passes c (then_passes d e)))))))))

record QuantitiesRead (n : ℕ) (quantities : List Quantity) : Type 0 where
  verdict : quantities_verdict n quantities ≡ passes
  size_is : length quantities ≡ most_quantities
  past : quantities ≡ quantities_held (take n quantities)

yields_quantities : {n : ℕ} → n ≤ most_quantities → Yields (QuantitiesRead n) (quantities n)
unfolding quantities quantities_verdict quantities_held
yields_quantities {n} fits =
    yields_then (yields_times n yields_quantity) (λ list f.
    let q = each_padded most_quantities no_quantity fits f in
    yields_return _ (record { verdict = all_pass n q.each; size_is = q.size_is; past = q.past }))

record TermsRead (n : ℕ) (terms : Terms) : Type 0 where
  verdict : terms_verdict n terms ≡ passes
  size_is : length terms.list ≡ most_terms
  past : terms ≡ terms_held terms.count (take terms.count terms.list)

yields_terms : (n : ℕ) → Yields (TermsRead n) (terms n)
unfolding terms terms_verdict terms_held terms_limits from◌to◌
yields_terms n =
    yields_then (yields_field "terms" terms_limits refl) (λ count g.
    yields_then (yields_times count (yields_term n)) (λ list h.
    let t = each_padded most_terms no_term (in_range_lem count g).1 h in
    yields_return _ (record {
      verdict = then_passes g (all_pass count t.each);
      size_is = t.size_is;
      past = ap (λ (list : List Term). record { count = count; list = list }) t.past;
    })))

yields_sheet : (high : ℕ) → Yields (Acceptable high) (sheet high)
unfolding sheet body sheet_verdict_to
yields_sheet high =
    yields_then (yields_head high) (λ head a.
    yields_then (yields_quantities (few_quantities high head a)) (λ quantities q.
    yields_then (yields_terms head.n) (λ terms t.
    yields_end _
    (record {
      verdict = then_passes a (then_passes q.verdict t.verdict);
      quantities = q.size_is;
      terms = t.size_is;
      zeros = record { quantities = q.past; terms = t.past };
    }))))

-- ---- the theorems

pub record RefusedSheet (r : Refusal) (step : ℕ) (sheet : Sheet) : Type 0 where
  pub zeros : sheet ≡ no_sheet
  pub before_steps : step ≡ 0
  pub first_four : number r ≤ 4

-- for every most of steps
module _ (high : ℕ) where
  delivers_sheet : (text : List ℕ) (short : Bool) → Delivers (Acceptable high) (elim short [ true ↦ sheet high text | false ↦ fault Oversized ])
  unfolding number
  delivers_sheet text true = (yields_sheet high).on text
  delivers_sheet text false = faulty Oversized (omega arith)

  pub accepted_is_acceptable : (text : List ℕ) → (read_sheet_to high text).outcome ≡ not_refused → Acceptable high (read_sheet_to high text).sheet
  unfolding read_sheet_to accepted
  accepted_is_acceptable text = go (elim (leb (length text) most_bytes) [ true ↦ sheet high text | false ↦ fault Oversized ]) (delivers_sheet text (leb (length text) most_bytes))
    where
      go : (x : Parsed Sheet) → Delivers (Acceptable high) x → (accepted x).outcome ≡ not_refused → Acceptable high (accepted x).sheet
      go (parsed x rest) (delivers g) h = g
      go (fault r) (faulty _ g) h = absurd (let z : ◌≡◌ {A = ℕ} 0 1 = cc in omega arith)

  pub refused_is_zeros : (text : List ℕ) {r : Refusal} {step : ℕ} → (read_sheet_to high text).outcome ≡ refused_at r step → RefusedSheet r step (read_sheet_to high text).sheet
  unfolding read_sheet_to accepted
  refused_is_zeros text {r} {step} = go (elim (leb (length text) most_bytes) [ true ↦ sheet high text | false ↦ fault Oversized ]) (delivers_sheet text (leb (length text) most_bytes))
    where
      go : (x : Parsed Sheet) → Delivers (Acceptable high) x → (accepted x).outcome ≡ refused_at r step → RefusedSheet r step (accepted x).sheet
      go (parsed x rest) (delivers g) h = absurd (let z : ◌≡◌ {A = ℕ} 0 1 = cc in omega arith)
      go (fault found) (faulty _ g) h = record { zeros = refl; before_steps = sym (same_step h); first_four = rw (same_refusal h) at g }

  -- refusal 1
  oversized : (text : List ℕ) → most_bytes < length text → read_sheet_to high text ≡ accepted (fault Oversized)
  unfolding read_sheet_to
  oversized text h = rw (lt-leb (length text) most_bytes h)

  pub long_text_is_oversized : (text : List ℕ) → most_bytes < length text → (read_sheet_to high text).outcome ≡ refused_at Oversized 0
  unfolding accepted
  long_text_is_oversized text h = rw (oversized text h)

  -- a text is read as its front is, if that has room for a byte more than a sheet may have: where there are more, both are too long
  pub read_from_front : (room : ℕ) (text : List ℕ) → most_bytes < room → read_sheet_to high (take room text) ≡ read_sheet_to high text
  read_from_front room text enough = ⊎_elim long short (before_or_past room (length text))
    where
      long : room < length text → read_sheet_to high (take room text) ≡ read_sheet_to high text
      long h = oversized (take room text) (rw (length-take-le room text (omega arith)) enough) ∙ sym (oversized text (omega arith))

      short : length text ≤ room → read_sheet_to high (take room text) ≡ read_sheet_to high text
      short h = ap (read_sheet_to high) (take_all room text h)

-- refusal 4
pub starts_are_readings : (sheet : Sheet) → sheet_verdict sheet ≡ passes → (i : ℕ) → i < sheet.head.n → (z : ℤ) × ((get_or sheet.quantities i no_quantity).start ≡ Some z)
unfolding quantity_verdict start_verdict
starts_are_readings sheet h i l = reading (get_or sheet.quantities i no_quantity).start (both_pass _ _ ((sheet_in_range most_steps sheet h).quantity i l)).0
  where
    reading : (x : Option ℤ) → start_verdict x ≡ passes → (z : ℤ) × (x ≡ Some z)
    reading (Some z) e = (z, refl)
    reading None e = absurd (refusal_not_passes e)

-- so that the value which a passage starts from is the number that the sheet has there, and never the 0 of a missing one
pub start_is_read : (sheet : Sheet) → sheet_verdict sheet ≡ passes → (i : ℕ) → i < sheet.head.n →
    (z : ℤ) × ((get_or sheet.quantities i no_quantity).start ≡ Some z) × ((get_or (starts_of sheet) i no_ball).value ≡ z)
unfolding starts_of start_ball start_value
start_is_read sheet h i l =
    let read = starts_are_readings sheet h i l in
    (read.0, read.1, ap (λ (ball : Ball). ball.value) (get_or_tabulate sheet.head.n (λ i. start_ball (get_or sheet.quantities i no_quantity)) no_ball i l) ∙ ap start_value read.1)
