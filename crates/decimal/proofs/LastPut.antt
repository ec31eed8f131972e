-- `put_digits` puts a number's digits from the last to the first, two in each turn.
use Prim.Native.Nat.{ℕ, ◌+◌, ◌-◌, ◌^◌, ◌/◌, ◌%◌, ◌≤◌, ◌<◌}
use mathlib.Core.Path.{◌≡◌, sym, ap, ◌∙◌}
use mathlib.Core.List.{List, [], ◌∷◌, ◌++◌, append-nil, append_assoc}
use native.Mathlib.Omega.{arith}
use borrow.Rule.Slice.PartMut.{put_mid}
use lib.IntN.{pos}
use lib.ListN.{length, take, drop, set, length-append}
use lib.Seq.{drop-length, drop-append_seam, length-take-le}
use Rattle.std.proofs.lemmas.List.{drop-drop, length-drop, drop-set}
use Rattle.model.specs.Answer.{digit, decimal}
use Rattle.laws.proofs.Text.DecimalText.{decimal_digit}
use Rattle.printing.specs.Pieces.{pair}
use Rattle.printing.proofs.Decimal.{decimal_pair, decimal_pairs, length_from}

-- The last digits stand from `end` on. What is left of the number is to stand before them.
pub record LastPut (number : ℕ) (text : List ℕ) (end left : ℕ) : Type 0 where
  pub within : end ≤ length text
  pub place : end ≡ length (decimal (pos left))
  pub spelled : decimal (pos number) ≡ decimal (pos left) ++ drop end text

pub none_put : {number : ℕ} {text : List ℕ} → length text ≡ length (decimal (pos number)) → LastPut number text (length text) number
none_put {number} {text} e =
    record { within = omega arith; place = e; spelled = rw (drop-length text) (sym (append-nil (decimal (pos number)))) }

length-mid : (a k : ℕ) (text part : List ℕ) → a ≤ length text → length (put_mid a k text part) ≡ a + length part + (length text - a - k)
length-mid a k text part h = simp (length-append, length-drop) (omega (arith, length-take-le a text h))

-- what stands from the place of a part on, once the part is put
from_part : (a k : ℕ) (text part : List ℕ) → a ≤ length text → drop a (put_mid a k text part) ≡ part ++ drop (a + k) text
from_part a k text part h =
    ap (λ (i : ℕ). drop i (put_mid a k text part)) (sym (length-take-le a text h))
    ∙ drop-append_seam (take a text) (part ++ drop k (drop a text))
    ∙ ap (λ (rest : List ℕ). part ++ rest) (drop-drop k a text)

module _ {number end left : ℕ} {text : List ℕ} (before : LastPut number text end left) {hundred : ℕ} (is : hundred ≡ 10 ^ 2) where
  -- two places are left before them
  pub two_places : hundred ≤ left → 2 ≤ end
  two_places h = omega (arith, before.place, length_from 2 left (rw is at h))

  -- two digits more
  pub pair_put : {part : List ℕ} {k : ℕ} → hundred ≤ left → k ≡ 2 → part ≡ pair (left % hundred) → LastPut number (put_mid (end - 2) k text part) (end - 2) (left / hundred)
  pair_put {part} {k} h two e =
      let counted = ap length (decimal_pairs left (rw is at h)) in
      let split = length-append (decimal (pos (left / 100))) (pair (left % 100)) in
      let enough = two_places h in
      record {
        within = rw (length-mid (end - 2) k text part (omega arith)) (omega (arith, ap length e));
        place = rw is (omega (arith, before.place, counted, split));
        spelled = before.spelled ∙ (rw (decimal_pairs left (rw is at h), from_part (end - 2) k text part (omega (arith, before.within)), e, is) (ap (λ (i : ℕ). decimal (pos (left / 100)) ++ pair (left % 100) ++ drop i text) (omega (arith, two, enough)) ∙ append_assoc (decimal (pos (left / 100))) (pair (left % 100)) (drop (end - 2 + k) text)));
      }

-- ---- the first digits: less than 100 is left

module _ {number end left : ℕ} {text : List ℕ} (before : LastPut number text end left) where
  -- two of them ..
  module _ {ten hundred : ℕ} (is : ten ≡ 10 ^ 1) (hundred_is : hundred ≡ 10 ^ 2) (long : ten ≤ left) (short : left < hundred) where
    two_left : decimal (pos left) ≡ pair left
    two_left = decimal_pair left (omega (arith, is)) (omega (arith, hundred_is))

    pub two_places_left : end ≡ 2
    two_places_left = before.place ∙ ap length two_left

    pub two_put : {two : List ℕ} → two ≡ pair left → two ++ drop end text ≡ decimal (pos number)
    two_put e = ap (λ (digits : List ℕ). digits ++ drop end text) (e ∙ sym two_left) ∙ sym before.spelled

  -- .. or one
  module _ {ten d : ℕ} (is : ten ≡ 10 ^ 1) (short : left < ten) (e : d ≡ digit left) where
    one_left : decimal (pos left) ≡ d ∷ []
    one_left = decimal_digit left (omega (arith, is)) ∙ ap (λ (d : ℕ). d ∷ []) (sym e)

    pub one_place : end ≡ 1
    one_place = before.place ∙ ap length one_left

    pub one_put : set text 0 d ≡ decimal (pos number)
    one_put =
        drop-set text 0 d (omega (arith, one_place, before.within))
        ∙ ap (λ (i : ℕ). d ∷ drop i text) (sym one_place)
        ∙ ap (λ (digits : List ℕ). digits ++ drop end text) (sym one_left)
        ∙ sym before.spelled
