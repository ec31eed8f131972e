-- A text that is read is the text of the sheet that it is read as, byte by byte: so each sheet has one text, and the reader takes no other. With `read_printed`
-- this says which texts are accepted.
use Rattle.std.specs.Prelude.{Option, Some, None}
use Prim.Native.Nat.{ℕ, zero, suc, ◌+◌, ◌-◌, ◌*◌, ◌/◌, ◌%◌, ◌<◌}
use Prim.Native.Char.{code}
use Prim.Native.String.{String}
use mathlib.Core.Path.{◌≡◌, refl, sym, ap, ap₂, ◌∙◌}
use mathlib.Core.Bool.{Bool, true, false}
use mathlib.Core.List.{List, [], ◌∷◌, ◌++◌, map, flatten, append_assoc, append-nil}
use native.Mathlib.Omega.{arith}
use borrow.Author.Tests.{eqb-true, eqb-false}
use lib.Dec.{leb, eqb}
use lib.IntN.{ℤ, pos, negsuc, nat_abs}
use lib.ListN.{length, get_or, replicate, length-append, length-map, get_or-append, get_or-map}
use Rattle.ranges.specs.Range.{bytes, tabulate}
use Rattle.model.specs.Sheet.{not_refused, most_bytes, most_digits, most_quantities, most_terms, padded, quantities_held, terms_held, no_quantity, no_term, n_limits, steps_limits, tail_limits, tol_limits, start_limits, radius_limits, terms_limits, to_limits, coef_limits, first_limits, second_limits}
use Rattle.model.specs.Reading.{Spelled, spelled, wrong, is_digit, digits, natural, negated, signed, after, line, Parsed, parsed, fault, Parser, return, ◌>>=◌, times, ranged, field, signed_field, end, body, accepted, read_sheet_to}
use Rattle.model.specs.Reading as reading
use Rattle.model.specs.Answer.{digit, decimal, printed}
use Rattle.stored.specs.Conversion.{head_text, start_text, quantity_text, term_text, sheet_text}
use Rattle.model.specs.declared.Limits.{Limits}
use Rattle.model.specs.declared.Sheet.{Sheet}
use Rattle.model.specs.declared.Refusal.TheVariants.{Oversized, OutOfRange, NoReading}
use Rattle.ranges.proofs.Ranges.{tabulate_is}
use Rattle.laws.proofs.Text.DecimalText.{decimal_digit, decimal_digits, digit_range}
use Rattle.laws.proofs.Text.LinesInWords.{line_says, end_says}
use Rattle.stored.proofs.RoundTrip.{key_apart, flatten_more}

-- ---- a number

-- a digit more
digit_more : (value b : ℕ) (text : List ℕ) → 0 < value → is_digit b ≡ true → decimal (pos value) ++ (b ∷ text) ≡ decimal (pos (value * 10 + (b - code "0"))) ++ text
unfolding digit
digit_more value b text positive is =
    let range = digit_range is in
    let front : (value * 10 + (b - code "0")) / 10 ≡ value = omega arith in
    let last : digit ((value * 10 + (b - code "0")) % 10) ≡ b = omega arith in
    sym (ap (λ (front : List ℕ). front ++ text) (decimal_digits (value * 10 + (b - code "0")) (omega arith) ∙ ap₂ (λ (n d : ℕ). decimal (pos n) ++ (d ∷ [])) front last) ∙ append_assoc (decimal (pos value)) (b ∷ []) text)

-- what digits after some spell, the number of those in front
record Spells (front text : List ℕ) (z : ℤ) (rest : List ℕ) : Type 0 where
  natural_number : pos (nat_abs z) ≡ z
  text_is : front ++ text ≡ decimal z ++ rest

ends_here : (value : ℕ) (text : List ℕ) {z : ℤ} {rest : List ℕ} → spelled (pos value) text ≡ spelled z rest → Spells (decimal (pos value)) text z rest
ends_here value text {z} {rest} e =
    let number : pos value ≡ z = cc in
    let left : text ≡ rest = cc in
    record { natural_number = ap (λ (z : ℤ). pos (nat_abs z)) (sym number) ∙ number; text_is = ap₂ (λ (z : ℤ) (text : List ℕ). decimal z ++ text) number left }

digits_come : (more value : ℕ) (text : List ℕ) {z : ℤ} {rest : List ℕ} → 0 < value → digits more value text ≡ spelled z rest → Spells (decimal (pos value)) text z rest
unfolding digits
digits_come zero value text positive e = ends_here value text e
digits_come (suc more) value [] positive e = ends_here value [] e
digits_come (suc more) value (b ∷ text) {z} {rest} positive e = go (is_digit b) refl e (λ e. digits_come more (value * 10 + (b - code "0")) text (omega arith) e)
  where
    go : (t : Bool) → is_digit b ≡ t → elim t [ true ↦ digits more (value * 10 + (b - code "0")) text | false ↦ spelled (pos value) (b ∷ text) ] ≡ spelled z rest → (digits more (value * 10 + (b - code "0")) text ≡ spelled z rest → Spells (decimal (pos (value * 10 + (b - code "0")))) text z rest) → Spells (decimal (pos value)) (b ∷ text) z rest
    go true is e later = record { natural_number = (later e).natural_number; text_is = digit_more value b text positive is ∙ (later e).text_is }
    go false is e later = ends_here value (b ∷ text) e

natural_comes : (text : List ℕ) {z : ℤ} {rest : List ℕ} → natural text ≡ spelled z rest → Spells [] text z rest
unfolding natural digit
natural_comes [] e = absurd (let z : ◌≡◌ {A = ℕ} 0 1 = cc in omega arith)
natural_comes (b ∷ text) {z} {rest} e = go (is_digit b) refl e
  where
    by_zero : is_digit b ≡ true → (t : Bool) → eqb b (code "0") ≡ t → elim t [ true ↦ spelled (pos 0) text | false ↦ digits (most_digits - 1) (b - code "0") text ] ≡ spelled z rest → Spells [] (b ∷ text) z rest
    by_zero is true nought e =
        let here = ends_here 0 text e in
        record { natural_number = here.natural_number; text_is = ap (λ (b : ℕ). b ∷ text) (eqb-true b (code "0") nought) ∙ sym (ap (λ (front : List ℕ). front ++ text) (decimal_digit 0 (omega arith))) ∙ here.text_is }
    by_zero is false nought e =
        let range = digit_range is in
        let other = eqb-false b (code "0") nought in
        let positive : 0 < b - code "0" = omega (arith, other) in
        let later = digits_come (most_digits - 1) (b - code "0") text positive e in
        let first : digit (b - code "0") ≡ b = omega arith in
        record { natural_number = later.natural_number; text_is = sym (ap (λ (front : List ℕ). front ++ text) (decimal_digit (b - code "0") (omega arith) ∙ ap (λ (d : ℕ). d ∷ []) first)) ∙ later.text_is }

    go : (t : Bool) → is_digit b ≡ t → elim t [ true ↦ elim (eqb b (code "0")) [ true ↦ spelled (pos 0) text | false ↦ digits (most_digits - 1) (b - code "0") text ] | false ↦ wrong ] ≡ spelled z rest → Spells [] (b ∷ text) z rest
    go true is e = by_zero is (eqb b (code "0")) refl e
    go false is e = absurd (let z : ◌≡◌ {A = ℕ} 0 1 = cc in omega arith)

signed_comes : (text : List ℕ) {z : ℤ} {rest : List ℕ} → signed text ≡ spelled z rest → text ≡ decimal z ++ rest
unfolding signed negated decimal
signed_comes [] e = absurd (let z : ◌≡◌ {A = ℕ} 0 1 = cc in omega arith)
signed_comes (b ∷ text) {z} {rest} e = go (eqb b (code "-")) refl e
  where
    minus : b ≡ code "-" → (x : Spelled) → natural text ≡ x → negated x ≡ spelled z rest → b ∷ text ≡ decimal z ++ rest
    minus is (spelled (pos zero) left) came e = absurd (let z : ◌≡◌ {A = ℕ} 0 1 = cc in omega arith)
    minus is (spelled (pos (suc n)) left) came e =
        let number : negsuc n ≡ z = cc in
        let same : left ≡ rest = cc in
        let digits : text ≡ decimal (pos (suc n)) ++ left = (natural_comes text came).text_is in
        ap₂ (λ (b : ℕ) (text : List ℕ). b ∷ text) is digits ∙ ap₂ (λ (z : ℤ) (rest : List ℕ). decimal z ++ rest) number same
    minus is (spelled (negsuc n) left) came e = absurd (let z : ◌≡◌ {A = ℕ} 0 1 = cc in omega arith)
    minus is wrong came e = absurd (let z : ◌≡◌ {A = ℕ} 0 1 = cc in omega arith)

    go : (t : Bool) → eqb b (code "-") ≡ t → elim t [ true ↦ negated (natural text) | false ↦ natural (b ∷ text) ] ≡ spelled z rest → b ∷ text ≡ decimal z ++ rest
    go true is e = minus (eqb-true b (code "-") is) (natural text) refl e
    go false is e = (natural_comes (b ∷ text) e).text_is

-- ---- a text at the front of another

record Front (text front rest : List ℕ) : Type 0 where
  is : text ≡ front ++ rest

both : {t a u b v : List ℕ} → Front t a u → Front u b v → Front t (a ++ b) v
both {a = a} {b = b} {v = v} first second = record { is = first.is ∙ ap (λ (left : List ℕ). a ++ left) second.is ∙ sym (append_assoc a b v) }

-- ---- a line

spells_front : (spelling : List ℕ → Spelled) (key : String) (text : List ℕ) (z : ℤ) (rest : List ℕ) → ((number : List ℕ) (z : ℤ) (rest : List ℕ) → spelling number ≡ spelled z rest → number ≡ decimal z ++ rest) → line key spelling text ≡ spelled z rest → Front text (printed key z) rest
spells_front spelling key text z rest spells e =
    let says = line_says key spelling text e in
    record { is = says.1.0 ∙ ap (λ (number : List ℕ). (bytes key ++ bytes "=") ++ number) (spells says.0 z (code "\n" ∷ rest) says.1.1) ∙ sym (key_apart key z rest) }

ranged_comes : (range : ℤ → Bool) (x : Spelled) {z : ℤ} {rest : List ℕ} → ranged range x ≡ parsed z rest → x ≡ spelled z rest
unfolding ranged
ranged_comes range wrong e = absurd (let z : ◌≡◌ {A = ℕ} 0 1 = cc in omega arith)
ranged_comes range (spelled y left) {z} {rest} e = go (range y) e
  where
    go : (t : Bool) → elim t [ true ↦ parsed y left | false ↦ fault OutOfRange ] ≡ parsed z rest → spelled y left ≡ spelled z rest
    go true e = let number : y ≡ z = cc in let same : left ≡ rest = cc in ap₂ spelled number same
    go false e = absurd (let z : ◌≡◌ {A = ℕ} 0 1 = cc in omega arith)

-- ---- one after the other

-- a parser that leaves, of every text that it takes, what stands behind the text of its result
abbrev Prints : {A : Type 0} → Parser A → (A → List ℕ) → Type 0
Prints {A} p print = (text : List ℕ) (a : A) (rest : List ℕ) → p text ≡ parsed a rest → Front text (print a) rest

-- what was read first, and then by what follows it
record Then {A B : Type 0} (p : Parser A) (f : A → Parser B) (text : List ℕ) (b : B) (rest : List ℕ) : Type 0 where
  a : A
  left : List ℕ
  first : p text ≡ parsed a left
  second : f a left ≡ parsed b rest

then_comes : {A B : Type 0} (p : Parser A) (f : A → Parser B) (text : List ℕ) {b : B} {rest : List ℕ} → (p >>= f) text ≡ parsed b rest → Then p f text b rest
unfolding ◌>>=◌
then_comes {A} p f text {b} {rest} e = go (p text) refl e
  where
    go : (x : Parsed A) → p text ≡ x → elim x [ parsed a rest ↦ f a rest | fault r ↦ fault r ] ≡ parsed b rest → Then p f text b rest
    go (parsed a left) came e = record { a = a; left = left; first = came; second = e }
    go (fault r) came e = absurd (let z : ◌≡◌ {A = ℕ} 0 1 = cc in omega arith)

return_comes : {A : Type 0} (a : A) (text : List ℕ) {b : A} {rest : List ℕ} → return a text ≡ parsed b rest → (a ≡ b) × (text ≡ rest)
unfolding return
return_comes a text {b} {rest} e =
    let value : a ≡ b = cc in
    let left : text ≡ rest = cc in
    (value, left)

-- the text of a result is that of what is returned
returned : {A : Type 0} (print : A → List ℕ) {text left rest : List ℕ} {a b : A} → (a ≡ b) × (left ≡ rest) → Front text (print a) left → Front text (print b) rest
returned {A} print same front = record { is = front.is ∙ ap₂ (λ (a : A) (rest : List ℕ). print a ++ rest) same.0 same.1 }

-- ---- the fields

field_comes : (key : String) (limits : Limits) → Prints (field key limits) (λ n. printed key (pos n))
unfolding field
field_comes key limits text n rest e =
    let part = then_comes _ _ text e in
    let last = return_comes _ _ part.second in
    let read = ranged_comes _ _ part.first in
    let number : part.a ≡ pos n = sym (natural_number_of read) ∙ ap pos last.0 in
    record { is = (spells_front natural key text part.a part.left (λ number z rest e. (natural_comes number e).text_is) read).is ∙ ap₂ (λ (z : ℤ) (rest : List ℕ). printed key z ++ rest) number last.1 }
  where
    natural_number_of : {z : ℤ} {rest : List ℕ} → line key natural text ≡ spelled z rest → pos (nat_abs z) ≡ z
    natural_number_of e = let says = line_says key natural text e in (natural_comes says.0 says.1.1).natural_number

signed_field_comes : (key : String) (limits : Limits) → Prints (signed_field key limits) (printed key)
unfolding signed_field
signed_field_comes key limits text z rest e = spells_front signed key text z rest (λ number z rest e. signed_comes number e) (ranged_comes _ _ e)

step_comes : Prints reading.step (printed "step")
unfolding reading.step
step_comes text z rest e = spells_front signed "step" text z rest (λ number z rest e. signed_comes number e) (ranged_comes _ _ e)

-- ---- the parts of a sheet

head_comes : (high : ℕ) → Prints (reading.head high) head_text
unfolding reading.head head_text
head_comes high text head rest e =
    let n = then_comes _ _ text e in
    let steps = then_comes _ _ n.left n.second in
    let H = then_comes _ _ steps.left steps.second in
    let tail = then_comes _ _ H.left H.second in
    let tol = then_comes _ _ tail.left tail.second in
    let last = return_comes _ _ tol.second in
    returned head_text last (both (both (both (both (field_comes "n" n_limits text _ _ n.first) (field_comes "steps" (steps_limits high) n.left _ _ steps.first)) (step_comes steps.left _ _ H.first)) (field_comes "tail" tail_limits H.left _ _ tail.first)) (field_comes "tol" tol_limits tail.left _ _ tol.first))

start_comes : Prints reading.start start_text
unfolding reading.start
start_comes text start rest e = go (after (bytes "start=none\n") text) e
  where
    go : (x : Option (List ℕ)) → elim x [ Some rest ↦ fault NoReading | None ↦ (signed_field "start" start_limits >>= λ z. return (Some z)) text ] ≡ parsed start rest → Front text (start_text start) rest
    go (Some left) e = absurd (let z : ◌≡◌ {A = ℕ} 0 1 = cc in omega arith)
    go None e =
        let z = then_comes _ _ text e in
        let last = return_comes _ _ z.second in
        returned start_text last (unfold start_text in signed_field_comes "start" start_limits text _ _ z.first)

quantity_comes : Prints reading.quantity quantity_text
unfolding reading.quantity quantity_text
quantity_comes text quantity rest e =
    let start = then_comes _ _ text e in
    let radius = then_comes _ _ start.left start.second in
    let last = return_comes _ _ radius.second in
    returned quantity_text last (both (start_comes text _ _ start.first) (field_comes "radius" radius_limits start.left _ _ radius.first))

term_comes : (n : ℕ) → Prints (reading.term n) term_text
unfolding reading.term term_text
term_comes n text term rest e =
    let to = then_comes _ _ text e in
    let coef = then_comes _ _ to.left to.second in
    let first = then_comes _ _ coef.left coef.second in
    let second = then_comes _ _ first.left first.second in
    let last = return_comes _ _ second.second in
    returned term_text last (both (both (both (field_comes "to" (to_limits n) text _ _ to.first) (signed_field_comes "coef" coef_limits to.left _ _ coef.first)) (field_comes "first" (first_limits n) coef.left _ _ first.first)) (field_comes "second" (second_limits n first.a) first.left _ _ second.first))

-- so many, one after the other
record Times {A : Type 0} (print : A → List ℕ) (n : ℕ) (text : List ℕ) (xs : List A) (rest : List ℕ) : Type 0 where
  front : Front text (flatten (map print xs)) rest
  count : length xs ≡ n

map_more : {A : Type 0} (f : A → List ℕ) (xs : List A) (x : A) → map f (xs ++ (x ∷ [])) ≡ map f xs ++ (f x ∷ [])
map_more f [] x = refl
map_more f (y ∷ xs) x = ap (λ (later : List (List ℕ)). f y ∷ later) (map_more f xs x)

times_come : {A : Type 0} (p : Parser A) (print : A → List ℕ) → Prints p print → (n : ℕ) (text : List ℕ) {xs : List A} {rest : List ℕ} → times n p text ≡ parsed xs rest → Times print n text xs rest
unfolding times
times_come p print prints zero text {xs} {rest} e =
    let last = return_comes [] text e in
    record { front = returned (λ xs. flatten (map print xs)) last (record { is = unfold flatten in refl }); count = ap length (sym last.0) }
times_come p print prints (suc n) text {xs} {rest} e =
    let before = then_comes _ _ text e in
    let one = then_comes _ _ before.left before.second in
    let last = return_comes _ _ one.second in
    let earlier = times_come p print prints n text before.first in
    record {
      front = returned (λ xs. flatten (map print xs)) last (rw (map_more print before.a one.a, flatten_more (map print before.a) (print one.a)) (both earlier.front (prints before.left _ _ one.first)));
      count = omega (arith, ap length last.0, length-append before.a (one.a ∷ []), earlier.count);
    }

-- the texts of a list that was made up to a length, by the number of its entries
held_texts : {A : Type 0} (print : A → List ℕ) (size n : ℕ) (last : A) (xs : List A) → length xs ≡ n → tabulate n (λ i. print (get_or (padded size last xs) i last)) ≡ map print xs
unfolding padded
held_texts print size n last xs count =
    tabulate_is n (λ i. print (get_or (xs ++ replicate (size - length xs) last) i last)) (print last) (map print xs) (length-map xs print ∙ count) (λ i h. ap print (get_or-append xs _ last i (omega (arith, count))) ∙ sym (get_or-map print xs i last))

quantities_come : (n : ℕ) → Prints (reading.quantities n) (λ held. flatten (tabulate n (λ i. quantity_text (get_or held i no_quantity))))
unfolding reading.quantities quantities_held
quantities_come n text held rest e =
    let list = then_comes _ _ text e in
    let last = return_comes _ _ list.second in
    let all = times_come reading.quantity quantity_text quantity_comes n text list.first in
    returned (λ held. flatten (tabulate n (λ i. quantity_text (get_or held i no_quantity)))) last (rw (held_texts quantity_text most_quantities n no_quantity list.a all.count) all.front)

terms_come : (n : ℕ) → Prints (reading.terms n) (λ terms. printed "terms" (pos terms.count) ++ flatten (tabulate terms.count (λ j. term_text (get_or terms.list j no_term))))
unfolding reading.terms terms_held
terms_come n text terms rest e =
    let count = then_comes _ _ text e in
    let list = then_comes _ _ count.left count.second in
    let last = return_comes _ _ list.second in
    let all = times_come (reading.term n) term_text (term_comes n) count.a count.left list.first in
    returned (λ terms. printed "terms" (pos terms.count) ++ flatten (tabulate terms.count (λ j. term_text (get_or terms.list j no_term)))) last (rw (held_texts term_text most_terms count.a no_term list.a all.count) (both (field_comes "terms" terms_limits text _ _ count.first) all.front))

-- ---- a sheet

end_comes : {A : Type 0} (a : A) (text : List ℕ) {b : A} {rest : List ℕ} → end a text ≡ parsed b rest → a ≡ b
unfolding end
end_comes a [] e = cc
end_comes a (c ∷ text) e = absurd (let z : ◌≡◌ {A = ℕ} 0 1 = cc in omega arith)

-- the texts of the three parts, one after the other, and nothing behind them
module _ (sheet : Sheet) where
  abbrev quantities_text : List ℕ
  quantities_text = flatten (tabulate sheet.head.n (λ i. quantity_text (get_or sheet.quantities i no_quantity)))

  abbrev count_text : List ℕ
  count_text = printed "terms" (pos sheet.terms.count)

  abbrev terms_text : List ℕ
  terms_text = flatten (tabulate sheet.terms.count (λ j. term_text (get_or sheet.terms.list j no_term)))

  parts_come : {t u : List ℕ} → u ≡ [] → Front t (head_text sheet.head ++ quantities_text ++ (count_text ++ terms_text)) u → t ≡ sheet_text sheet
  unfolding sheet_text
  parts_come behind front =
      front.is ∙ ap (λ (left : List ℕ). head_text sheet.head ++ quantities_text ++ (count_text ++ terms_text) ++ left) behind ∙ append-nil (head_text sheet.head ++ quantities_text ++ (count_text ++ terms_text)) ∙ sym (append_assoc (head_text sheet.head ++ quantities_text) count_text terms_text)

sheet_comes : (high : ℕ) (text : List ℕ) {sheet : Sheet} {rest : List ℕ} → reading.sheet high text ≡ parsed sheet rest → text ≡ sheet_text sheet
unfolding reading.sheet body
sheet_comes high text {sheet} {rest} e =
    let head = then_comes _ _ text e in
    let quantities = then_comes _ _ head.left head.second in
    let terms = then_comes _ _ quantities.left quantities.second in
    let behind = end_says _ terms.left terms.second in
    parts_come (record { head = head.a; quantities = quantities.a; terms = terms.a }) behind (both (both (head_comes high text _ _ head.first) (quantities_come _ head.left _ _ quantities.first)) (terms_come _ quantities.left _ _ terms.first)) ∙ ap sheet_text (end_comes _ terms.left terms.second)

-- what is read as a sheet is the sheet's text
pub text_is_printed : (high : ℕ) (text : List ℕ) → (read_sheet_to high text).outcome ≡ not_refused → text ≡ sheet_text (read_sheet_to high text).sheet
unfolding read_sheet_to accepted
text_is_printed high text = go (leb (length text) most_bytes) (reading.sheet high text) refl
  where
    go : (fits : Bool) (x : Parsed Sheet) → reading.sheet high text ≡ x → (accepted (elim fits [ true ↦ x | false ↦ fault Oversized ])).outcome ≡ not_refused → text ≡ sheet_text (accepted (elim fits [ true ↦ x | false ↦ fault Oversized ])).sheet
    go true (parsed sheet rest) came e = sheet_comes high text came
    go true (fault r) came e = absurd (let z : ◌≡◌ {A = ℕ} 0 1 = cc in omega arith)
    go false x came e = absurd (let z : ◌≡◌ {A = ℕ} 0 1 = cc in omega arith)

-- so two texts that are read as one sheet are one text
pub one_text : (high : ℕ) (text other : List ℕ) → (read_sheet_to high text).outcome ≡ not_refused → (read_sheet_to high other).outcome ≡ not_refused → (read_sheet_to high text).sheet ≡ (read_sheet_to high other).sheet → text ≡ other
one_text high text other e f same = text_is_printed high text e ∙ ap sheet_text same ∙ sym (text_is_printed high other f)
