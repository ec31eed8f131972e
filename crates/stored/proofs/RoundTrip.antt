-- A sheet's text is read back as the sheet: a number by its digits, a line, the fields one after another, and few enough bytes in all.
use Rattle.std.specs.Prelude.{Option, Some, None}
use Prim.Native.Nat.{ℕ, zero, suc, ◌+◌, ◌-◌, ◌*◌, ◌^◌, ◌≤◌, ◌<◌}
use Prim.Native.Char.{code}
use Prim.Native.String.{String}
use mathlib.Core.Path.{◌≡◌, refl, sym, ap, ◌∙◌}
use mathlib.Core.Bool.{true, false, false≢true}
use mathlib.Core.List.{List, [], ◌∷◌, ◌++◌, flatten, append_assoc, append-nil}
use native.Mathlib.Nat.{zero-add, suc-mul}
use native.Mathlib.Omega.{arith}
use borrow.Author.Tests.{le-leb, ne_eqb}
use lib.IntN.{ℤ, pos, negsuc, nat_abs}
use lib.ListN.{length, get_or, take, length-append, length-replicate, replicate}
use lib.Seq.{length-take-le, get_or-take}
use Rattle.ranges.specs.Range.{bytes, tabulate}
use Rattle.model.specs.Sheet.{not_refused, most, scale, most_bytes, most_digits, most_quantities, most_terms, most_coef, Verdict, passes, in_range, step_verdict, start_verdict, quantity_verdict, sheet_verdict_to, no_quantity, no_term, padded, quantities_held, terms_held, n_limits, steps_limits, tail_limits, tol_limits, start_limits, radius_limits, terms_limits, to_limits, coef_limits, first_limits, second_limits}
use Rattle.laws.specs.ReadingMeans.{ZeroPastCounts}
use Rattle.model.specs.declared.Limits.{Limits}
use Rattle.model.specs.Reading.{Spelled, spelled, is_digit, digits, natural, negated, signed, after, ended, line, Parsed, parsed, fault, Parser, return, ◌>>=◌, times, field, signed_field, end, body, accepted, read_sheet_to}
use Rattle.model.specs.Reading as reading
use Rattle.model.specs.Answer.{digit, decimal_by, decimal, printed}
use Rattle.stored.specs.Conversion.{head_text, start_text, quantity_text, term_text, sheet_text}
use Rattle.model.specs.declared.Head.{Head}
use Rattle.model.specs.declared.Quantity.{Quantity}
use Rattle.model.specs.declared.Term.{Term}
use Rattle.model.specs.declared.Sheet.{Sheet}
use Rattle.ranges.proofs.Ranges.{below, tabulate_is}
use Rattle.laws.proofs.Text.DecimalText.{spells, Digits, text_spells_number, text_is_digits, length_below, length_signed, length_printed}
use Rattle.laws.proofs.Text.Verdicts.{refusal_not_passes, both_pass, in_range_lem, signed_magnitude, step_in_range, TermInRange, HeadInRange, SheetInRange, sheet_in_range}
use Rattle.laws.proofs.Bounds.SheetBounds.{second_at_most}
use Rattle.laws.proofs.Text.Parsers.{answers, field_asked_alike, signed_asked_alike, step_asked_alike}
use Rattle.laws.proofs.Text.Readings.{after_itself}

-- ---- a number

digits_read : (more value : ℕ) (text : List ℕ) {b : ℕ} (rest : List ℕ) → ((i : ℕ) → i < length text → is_digit (get_or text i 0) ≡ true) → length text ≤ more → is_digit b ≡ false → digits more value (text ++ (b ∷ rest)) ≡ spelled (pos (spells value text)) (b ∷ rest)
unfolding digits spells
digits_read zero value [] rest each few other = refl
digits_read (suc more) value [] rest each few other = rw (other, digits)
digits_read zero value (d ∷ text) rest each few other = absurd (omega arith)
digits_read (suc more) value (d ∷ text) rest each few other =
    rw (each 0 (omega arith), digits) (digits_read more (value * 10 + (d - code "0")) text rest (λ i h. each (suc i) (omega arith)) (omega arith) other)

-- a digit is no other byte
differs : {d b : ℕ} → is_digit d ≡ true → is_digit b ≡ false → d ≡ b → ⊥
differs is other same = false≢true (sym other ∙ ap is_digit (sym same) ∙ is)

-- what its digits spell is the number
pub natural_read_lem : (n : ℕ) {b : ℕ} (rest : List ℕ) → n < 10 ^ most_digits → is_digit b ≡ false → natural (decimal (pos n) ++ (b ∷ rest)) ≡ spelled (pos n) (b ∷ rest)
unfolding natural decimal decimal_by digit is_digit
natural_read_lem zero rest few other = refl
natural_read_lem (suc n) {b} rest few other =
    go (decimal (pos (suc n))) (text_is_digits (suc n) (suc n) (omega arith)) (text_spells_number (suc n) (suc n) (omega arith)) (length_below most_digits (suc n) (omega arith) few)
  where
    go : (text : List ℕ) → Digits (suc n) text → spells 0 text ≡ suc n → length text ≤ most_digits → natural (text ++ (b ∷ rest)) ≡ spelled (pos (suc n)) (b ∷ rest)
    go [] are e l = absurd (omega (arith, are.some))
    go (d ∷ text) are e l =
        unfold natural in rw (are.digits 0 (omega arith), ne_eqb d (code "0") (are.no_leading_zero (omega arith)), natural)
        (digits_read (most_digits - 1) (d - code "0") text rest (λ i h. are.digits (suc i) (omega arith)) (omega arith) other ∙ ap (λ (m : ℕ). spelled (pos m) (b ∷ rest)) (unfold spells in rw zero-add at e))

-- the same with its sign
pub signed_read : (z : ℤ) {b : ℕ} (rest : List ℕ) → nat_abs z < 10 ^ most_digits → is_digit b ≡ false → signed (decimal z ++ (b ∷ rest)) ≡ spelled z (b ∷ rest)
unfolding signed negated decimal
signed_read (pos n) {b} rest few other = go (decimal (pos n)) (text_is_digits n n (omega arith)) ∙ natural_read_lem n rest few other
  where
    go : (text : List ℕ) → Digits n text → signed (text ++ (b ∷ rest)) ≡ natural (text ++ (b ∷ rest))
    go [] are = absurd (omega (arith, are.some))
    go (d ∷ text) are = unfold signed is_digit in rw (ne_eqb d (code "-") (differs (are.digits 0 (omega arith)) refl), signed)
signed_read (negsuc n) rest few other = ap negated (natural_read_lem (suc n) rest few other)

-- no number begins as `none` does
no_number_none : (z : ℤ) (rest : List ℕ) → after (bytes "none\n") (decimal z ++ rest) ≡ None
unfolding after bytes decimal
no_number_none (pos n) rest = go (decimal (pos n)) (text_is_digits n n (omega arith))
  where
    go : (text : List ℕ) → Digits n text → after (bytes "none\n") (text ++ rest) ≡ None
    go [] are = absurd (omega (arith, are.some))
    go (d ∷ text) are = unfold after bytes is_digit in rw (ne_eqb (code "n") d (λ same. differs (are.digits 0 (omega arith)) refl (sym same)), after)
no_number_none (negsuc n) rest = refl

-- ---- a line

-- a line, its key apart
pub key_apart : (key : String) (z : ℤ) (rest : List ℕ) → printed key z ++ rest ≡ bytes key ++ bytes "=" ++ (decimal z ++ (code "\n" ∷ rest))
unfolding printed bytes
key_apart key z rest = append_assoc (bytes key ++ bytes "=" ++ decimal z) (bytes "\n") rest ∙ append_assoc (bytes key ++ bytes "=") (decimal z) (code "\n" ∷ rest)

line_read : (key : String) (spelling : List ℕ → Spelled) (z : ℤ) (rest : List ℕ) → spelling (decimal z ++ (code "\n" ∷ rest)) ≡ spelled z (code "\n" ∷ rest) → line key spelling (printed key z ++ rest) ≡ spelled z rest
unfolding line ended
line_read key spelling z rest e =
    rw (key_apart key z rest, after_itself (bytes key ++ bytes "=") (decimal z ++ (code "\n" ∷ rest)), line, e)

-- ---- what is read back

-- Before any other bytes a text is read as this result, and it is no longer than this.
pub record Reads {A : Type 0} (p : Parser A) (long : ℕ) (text : List ℕ) (a : A) : Type 0 where
  pub on : (rest : List ℕ) → p (text ++ rest) ≡ parsed a rest
  pub short : length text ≤ long

then_on : {A B : Type 0} (p : Parser A) (f : A → Parser B) (text : List ℕ) {a : A} {rest : List ℕ} → p text ≡ parsed a rest → (p >>= f) text ≡ f a rest
unfolding ◌>>=◌
then_on {A} p f text e = ap (λ (x : Parsed A). elim x [ parsed a rest ↦ f a rest | fault r ↦ fault r ]) e

reads_then : {A B : Type 0} {p : Parser A} (f : A → Parser B) {m k : ℕ} {s t : List ℕ} {a : A} {b : B} → Reads p m s a → Reads (f a) k t b → Reads (p >>= f) (m + k) (s ++ t) b
reads_then {p = p} f {s = s} {t = t} first second =
    record {
      on = λ rest. rw (append_assoc s t rest) (then_on p f (s ++ (t ++ rest)) (first.on (t ++ rest)) ∙ second.on rest);
      short = omega (arith, length-append s t, first.short, second.short);
    }

reads_last : {A B : Type 0} {p : Parser A} {m : ℕ} {s : List ℕ} {a : A} (f : A → B) → Reads p m s a → Reads (p >>= λ a. return (f a)) m s (f a)
unfolding return
reads_last {p = p} {s = s} f only = record { on = λ rest. then_on p (λ a. return (f a)) (s ++ rest) (only.on rest); short = only.short }

pub flatten_more : {A : Type 0} (all : List (List A)) (last : List A) → flatten (all ++ (last ∷ [])) ≡ flatten all ++ last
unfolding flatten
flatten_more [] last = append-nil last
flatten_more (first ∷ all) last = ap (λ (later : List _). first ++ later) (flatten_more all last) ∙ sym (append_assoc first (flatten all) last)

reads_times : {A : Type 0} {p : Parser A} {k : ℕ} (n : ℕ) (f : ℕ → List ℕ) (g : ℕ → A) → ((i : ℕ) → i < n → Reads p k (f i) (g i)) → Reads (times n p) (n * k) (flatten (tabulate n f)) (tabulate n g)
unfolding times tabulate flatten return
reads_times zero f g each = record { on = λ rest. refl; short = omega arith }
reads_times {k = k} (suc n) f g each =
    rw (flatten_more (tabulate n f) (f n), suc-mul n k) (reads_then _ (reads_times n f g (below n each)) (reads_last _ (each n (omega arith))))

-- ---- the fields

-- the most bytes of a line with a key of so many: `=`, a sign, the digits and the line feed
abbrev line_most : ℕ → ℕ
line_most key = key + suc most_digits + 2

-- a line whose number passes is read as what it is asked for
line_reads : {A : Type 0} {p : Parser A} (key : String) (z : ℤ) {a : A} {verdict : Verdict} → nat_abs z < 10 ^ most_digits → verdict ≡ passes → ((rest : List ℕ) → p (printed key z ++ rest) ≡ answers verdict a rest) → Reads p (line_most (length (bytes key))) (printed key z) a
unfolding answers
line_reads key z {a} few passed asked =
    record {
      on = λ rest. asked rest ∙ ap (λ (verdict : Verdict). answers verdict a rest) passed;
      short = omega (arith, length_printed key z, length_signed most_digits z (omega arith) few);
    }

module _ (key : String) (limits : Limits) where
  field_read : (n : ℕ) → n < 10 ^ most_digits → in_range limits (pos n) ≡ passes → Reads (field key limits) (line_most (length (bytes key))) (printed key (pos n)) n
  unfolding is_digit
  field_read n few passed =
      line_reads key (pos n) few passed (λ rest. field_asked_alike key limits (printed key (pos n) ++ rest) (line_read key natural (pos n) rest (natural_read_lem n rest few refl)))

  signed_field_read : (z : ℤ) → nat_abs z < 10 ^ most_digits → in_range limits z ≡ passes → Reads (signed_field key limits) (line_most (length (bytes key))) (printed key z) z
  unfolding is_digit
  signed_field_read z few passed =
      line_reads key z few passed (λ rest. signed_asked_alike key limits (printed key z ++ rest) (line_read key signed z rest (signed_read z rest few refl)))

step_read : (H : ℤ) → nat_abs H < 10 ^ most_digits → step_verdict H ≡ passes → Reads reading.step (line_most (length (bytes "step"))) (printed "step" H) H
unfolding is_digit
step_read H few passed =
    line_reads "step" H few passed (λ rest. step_asked_alike (printed "step" H ++ rest) (line_read "step" signed H rest (signed_read H rest few refl)))

-- ---- the parts of a sheet, each with its most bytes

head_read : (high : ℕ) (head : Head) → high < 10 ^ most_digits → HeadInRange high head → Reads (reading.head high) 77 (head_text head) head
unfolding reading.head head_text n_limits steps_limits tail_limits tol_limits scale most bytes
head_read high head few range =
    simp append_assoc
    (reads_then _ (field_read "n" n_limits head.n (omega (arith, in_range_lem head.n range.n)) range.n)
    (reads_then _ (field_read "steps" (steps_limits high) head.steps (omega (arith, in_range_lem head.steps range.steps)) range.steps)
    (reads_then _ (step_read head.step (omega (arith, step_in_range head.step range.step)) range.step)
    (reads_then _ (field_read "tail" tail_limits head.tail (omega (arith, in_range_lem head.tail range.tail)) range.tail)
    (reads_last _ (field_read "tol" tol_limits head.tol (omega (arith, in_range_lem head.tol range.tol)) range.tol))))))

start_read : (start : Option ℤ) → start_verdict start ≡ passes → Reads reading.start 17 (start_text start) start
unfolding start_verdict start_text
start_read (Some z) passed = record { on = on; short = read.short }
  where
    read : Reads (signed_field "start" start_limits >>= λ z. return (Some z)) 17 (printed "start" z) (Some z)
    read = unfold start_limits most bytes in reads_last _ (signed_field_read "start" start_limits z (omega (arith, signed_magnitude most z passed)) passed)

    no_none : (rest : List ℕ) → after (bytes "start=none\n") (printed "start" z ++ rest) ≡ None
    no_none rest = rw (key_apart "start" z rest) (unfold after bytes in no_number_none z (code "\n" ∷ rest))

    on : (rest : List ℕ) → reading.start (printed "start" z ++ rest) ≡ parsed (Some z) rest
    on rest = unfold reading.start in rw (no_none rest, reading.start) (read.on rest)
start_read None passed = absurd (refusal_not_passes passed)

quantity_read : (quantity : Quantity) → quantity_verdict quantity ≡ passes → Reads reading.quantity 35 (quantity_text quantity) quantity
unfolding reading.quantity quantity_text quantity_verdict radius_limits most bytes
quantity_read quantity passed =
    let both = both_pass (start_verdict quantity.start) _ passed in
    reads_then _ (start_read quantity.start both.0) (reads_last _ (field_read "radius" radius_limits quantity.radius (omega (arith, in_range_lem quantity.radius both.1)) both.1))

term_read : (n : ℕ) (term : Term) → n ≤ most_quantities → TermInRange n term → Reads (reading.term n) 65 (term_text term) term
unfolding reading.term term_text to_limits coef_limits first_limits bytes
term_read n term few range =
    simp append_assoc
    (reads_then _ (field_read "to" (to_limits n) term.to (omega (arith, in_range_lem term.to range.target)) range.target)
    (reads_then _ (signed_field_read "coef" coef_limits term.coef (omega (arith, signed_magnitude most_coef term.coef range.coefficient)) range.coefficient)
    (reads_then _ (field_read "first" (first_limits n) term.first (omega (arith, in_range_lem term.first range.first)) range.first)
    (reads_last _ (field_read "second" (second_limits n term.first) term.second (omega (arith, second_at_most n term.first term.second range.second)) range.second)))))

-- ---- a sheet

-- the front of a list that is made up to a length is what stands at its places
front_is : {A : Type 0} (size n : ℕ) (last : A) (xs : List A) → n ≤ size → xs ≡ padded size last (take n xs) → tabulate n (λ i. get_or xs i last) ≡ take n xs
unfolding padded
front_is size n last xs few past = tabulate_is n (λ i. get_or xs i last) last (take n xs) (length-take-le n xs long) (λ i h. sym (get_or-take n xs i last h))
  where
    long : n ≤ length xs
    long = omega (arith, ap length past, length-append (take n xs) (replicate (size - length (take n xs)) last), length-replicate (size - length (take n xs)) last)

reads_as : {A : Type 0} {p : Parser A} {m : ℕ} {text : List ℕ} {a b : A} → a ≡ b → Reads p m text a → Reads p m text b
reads_as same read = rw same at read

module _ (high : ℕ) (sheet : Sheet) (few : high < 10 ^ most_digits) (passed : sheet_verdict_to high sheet ≡ passes) (zeros : ZeroPastCounts sheet) where
  ranges : SheetInRange high sheet
  ranges = sheet_in_range high sheet passed

  n_high : sheet.head.n ≤ most_quantities
  unfolding n_limits
  n_high = (in_range_lem sheet.head.n ranges.head.n).1

  count_high : sheet.terms.count ≤ most_terms
  unfolding terms_limits
  count_high = (in_range_lem sheet.terms.count ranges.terms).1

  quantities_read : Reads (reading.quantities sheet.head.n) (sheet.head.n * 35) (flatten (tabulate sheet.head.n (λ i. quantity_text (get_or sheet.quantities i no_quantity)))) sheet.quantities
  unfolding reading.quantities quantities_held
  quantities_read =
      reads_as (ap quantities_held (front_is most_quantities sheet.head.n no_quantity sheet.quantities n_high zeros.quantities) ∙ sym zeros.quantities)
      (reads_last quantities_held (reads_times sheet.head.n _ _ (λ i h. quantity_read (get_or sheet.quantities i no_quantity) (ranges.quantity i h))))

  terms_read : Reads (reading.terms sheet.head.n) (17 + sheet.terms.count * 65) (printed "terms" (pos sheet.terms.count) ++ flatten (tabulate sheet.terms.count (λ j. term_text (get_or sheet.terms.list j no_term)))) sheet.terms
  unfolding reading.terms terms_held terms_limits bytes
  terms_read =
      reads_as (ap (terms_held sheet.terms.count) (front_is most_terms sheet.terms.count no_term sheet.terms.list count_high (ap (λ terms. terms.list) zeros.terms)) ∙ sym zeros.terms)
      (reads_then _ (field_read "terms" terms_limits sheet.terms.count (omega (arith, count_high)) ranges.terms)
      (reads_last (terms_held sheet.terms.count) (reads_times sheet.terms.count _ _ (λ j h. term_read sheet.head.n (get_or sheet.terms.list j no_term) n_high (ranges.term j h)))))

  -- the texts of the parts, one after another; the last two are those of the terms
  parts_read : (a b c d : List ℕ) → Reads (reading.head high) 77 a sheet.head → Reads (reading.quantities sheet.head.n) (sheet.head.n * 35) b sheet.quantities → Reads (reading.terms sheet.head.n) (17 + sheet.terms.count * 65) (c ++ d) sheet.terms → read_sheet_to high (a ++ b ++ c ++ d) ≡ record { outcome = not_refused; sheet = sheet }
  unfolding read_sheet_to accepted reading.sheet body end
  parts_read a b c d head quantities terms =
      rw (le-leb (length (a ++ b ++ c ++ d)) most_bytes short, together, ← append-nil (c ++ d)) (ap accepted (then_on _ _ (a ++ (b ++ (c ++ d ++ []))) (head.on _) ∙ then_on _ _ (b ++ (c ++ d ++ [])) (quantities.on _) ∙ then_on _ _ (c ++ d ++ []) (terms.on [])))
    where
      together : a ++ b ++ c ++ d ≡ a ++ (b ++ (c ++ d))
      together = append_assoc (a ++ b) c d ∙ append_assoc a b (c ++ d)

      short : length (a ++ b ++ c ++ d) ≤ most_bytes
      short = omega (arith, ap length together, length-append a (b ++ (c ++ d)), length-append b (c ++ d), head.short, quantities.short, terms.short, n_high, count_high)

  -- what is printed for a sheet is read as the sheet
  pub read_printed : read_sheet_to high (sheet_text sheet) ≡ record { outcome = not_refused; sheet = sheet }
  unfolding sheet_text
  read_printed = parts_read _ _ _ _ (head_read high sheet.head few ranges.head) quantities_read terms_read
