-- Text that is put piece after piece: what nothing, one byte and two pieces come to.
use Prim.Native.Nat.{ℕ, suc, ◌+◌, ◌≤◌, ◌<◌}
use mathlib.Core.Path.{◌≡◌, refl, sym, ap, ◌∙◌}
use mathlib.Core.List.{List, [], ◌∷◌, ◌++◌, append-nil, append_assoc}
use mathlib.Core.Logic.{⊎_elim}
use native.Mathlib.Nat.{zero-add}
use native.Mathlib.Numerals.{add-one}
use native.Mathlib.Omega.{arith}
use lib.ListN.{length, set, take, drop, length-append, take-append-drop, drop_of_length-le}
use borrow.Rule.Slice.PartMut.{put_mid}
use lib.Seq.{sets, set_out, set_comm, sets-eq, length-sets, take_all, take-length, length-take-le, drop-length, take-append_seam, drop-append_seam}
use Rattle.std.proofs.lemmas.Slice.{put_mid-paste}
use Rattle.ranges.proofs.Ranges.{before_or_past}
use Rattle.ranges.proofs.Stores.{sets_append}
use Rattle.printing.specs.Pieces.{Put, Printed}

pub put_nothing : (l : List ℕ) (i : ℕ) → Put l i [] i l
put_nothing l i = record { counted = omega arith; stored = refl }

pub put_then : {a b c x y : List ℕ} {i j k : ℕ} → Put a i x j b → Put b j y k c → Put a i (x ++ y) k c
put_then {a} {b} {c} {x} {y} {i} {j} {k} p q =
    record {
      counted = omega (arith, p.counted, q.counted, length-append x y);
      stored = rw (q.stored, p.stored, p.counted, sets_append a i x y);
    }

-- a buffer keeps its length
pub put_keeps_length : {a b x : List ℕ} {i j : ℕ} → Put a i x j b → length b ≡ length a
put_keeps_length {a} {x = x} {i = i} p = rw p.stored (length-sets a i x)

pub put_same : {a b x y : List ℕ} {i j : ℕ} → x ≡ y → Put a i x j b → Put a i y j b
put_same e p = rw e at p

-- ---- a text of which only the front fits

sets_past : (l : List ℕ) (i : ℕ) (x : List ℕ) → length l ≤ i → sets l i x ≡ l
sets_past l i [] h = refl
sets_past l i (a ∷ x) h = ap (λ (k : List ℕ). sets k (suc i) x) (set_out l i a h) ∙ sets_past l (suc i) x (omega arith)

-- the front that fits, and nothing of the rest
sets_front : (l : List ℕ) (i k : ℕ) (x : List ℕ) → length l ≤ i + k → k ≤ length x → sets l i x ≡ sets l i (take k x)
sets_front l i k x e h =
    ap (λ (y : List ℕ). sets l i y) (sym (take-append-drop k x))
    ∙ sets_append l i (take k x) (drop k x)
    ∙ sets_past (sets l i (take k x)) (i + length (take k x)) (drop k x) (rw (length-sets, length-take-le k x h) (omega arith))

pub put_front : {a b x : List ℕ} {i j : ℕ} (k : ℕ) → length a ≤ i + k → k ≤ length x → Put a i (take k x) j b → Put a i x (i + length x) b
put_front {a} {x = x} {i = i} k e h p = record { counted = refl; stored = p.stored ∙ sym (sets_front a i k x e h) }

-- a part of the text that holds the bytes now, as `copy_from_slice` leaves it
pub put_part : {text part x : List ℕ} {at k : ℕ} → part ≡ x → k ≡ length x → at + length x ≤ length text → Put text at x (at + length x) (put_mid at k text part)
put_part {text} {x = x} {at = at} {k = k} e n h =
    record { counted = refl; stored = put_mid-paste at k text _ x k e refl n ∙ rw (n, take-length x) (sym (sets-eq x text at h)) }

pub put_past : {a x : List ℕ} {i : ℕ} → length a ≤ i → Put a i x (i + length x) a
put_past {a} {x} {i} h = record { counted = refl; stored = sym (sets_past a i x h) }

-- ---- what a text that was printed says

module _ {before text after : List ℕ} {count : ℕ} (p : Printed before text count after) where
  -- where it does not fit, as much of it stands there as there is room for
  pub printed_cut : length before ≤ length text → after ≡ take (length before) text
  printed_cut h =
      p.held ∙ ap (λ (l : List ℕ). take (length before) text ++ l) (drop_of_length-le before h) ∙ append-nil (take (length before) text)

  -- where it fits, what stood behind it stands there still ..
  pub printed_rest : length text ≤ length before → drop count after ≡ drop count before
  printed_rest h =
      ap (λ (l : List ℕ). drop count l) p.held ∙ rw (p.counted, take_all (length before) text h) (drop-append_seam text (drop (length text) before))

  -- .. and it stands at the start
  pub printed_whole : length text ≤ length before → take count after ≡ text
  printed_whole h =
      ap (λ (l : List ℕ). take count l) p.held ∙ rw (p.counted, take_all (length before) text h) (take-append_seam text (drop (length text) before))

  -- these are the one count and the one buffer
  pub printed_once : {other : List ℕ} {length : ℕ} → Printed before text length other → (count ≡ length) × (after ≡ other)
  printed_once q = (p.counted ∙ sym q.counted, p.held ∙ sym q.held)

-- ---- a text that is put from the start on

sets_fitting : (l x : List ℕ) → length x ≤ length l → sets l 0 x ≡ x ++ drop (length x) l
sets_fitting l x h = sets-eq x l 0 (omega arith) ∙ ap (λ (k : ℕ). x ++ drop k l) (zero-add (length x))

sets_held : (l x : List ℕ) → sets l 0 x ≡ take (length l) x ++ drop (length x) l
sets_held l x = ⊎_elim fitting longer (before_or_past (length x) (length l))
  where
    fitting : length x < length l → sets l 0 x ≡ take (length l) x ++ drop (length x) l
    fitting h = rw (take_all (length l) x (omega arith)) (sets_fitting l x (omega arith))

    longer : length l ≤ length x → sets l 0 x ≡ take (length l) x ++ drop (length x) l
    longer h =
        sets_front l 0 (length l) x (omega arith) h
        ∙ sets_fitting l (take (length l) x) (rw (length-take-le (length l) x h) (omega arith))
        ∙ rw (length-take-le (length l) x h, drop-length l, drop_of_length-le l h)

-- what was put is what stands there
pub put_taken : {a b x : List ℕ} {j : ℕ} → Put a 0 x j b → length x ≤ length a → take j b ≡ x
put_taken {a} {x = x} p h = rw (p.counted, p.stored, sets_fitting a x h, zero-add) (take-append_seam x (drop (length x) a))

pub put_printed : {before after text : List ℕ} {count : ℕ} → Put before 0 text count after → Printed before text count after
put_printed {before} {text = text} p = record { counted = omega (arith, p.counted); held = p.stored ∙ sets_held before text }

-- ---- a text that is put before another

set_before : (l : List ℕ) (i j a : ℕ) (y : List ℕ) → i < j → set (sets l j y) i a ≡ sets (set l i a) j y
set_before l i j a [] h = refl
set_before l i j a (b ∷ y) h =
    set_before (set l j b) i (suc j) a y (omega arith)
    ∙ ap (λ (k : List ℕ). sets k (suc j) y) (set_comm l j i b a (λ e. omega arith))

sets_before : (l : List ℕ) (i j : ℕ) (x y : List ℕ) → i + length x ≤ j → sets (sets l j y) i x ≡ sets (sets l i x) j y
sets_before l i j [] y h = refl
sets_before l i j (a ∷ x) y h =
    ap (λ (k : List ℕ). sets k (suc i) x) (set_before l i j a y (omega arith)) ∙ sets_before (set l i a) (suc i) j x y (omega arith)

-- `y` is put first, and then `x` up to where it begins
pub put_before : {a b c x y : List ℕ} {i j k m : ℕ} → j ≡ i + length x → Put a j y k b → Put b i x m c → Put a i (x ++ y) k c
put_before {a} {x = x} {y = y} {i = i} {j = j} e p q =
    record {
      counted = omega (arith, e, p.counted, length-append x y);
      stored = q.stored ∙ rw (p.stored, sets_before a i j x y (omega (arith, e)), e, sets_append a i x y);
    }

-- ---- a text that grows by a piece

pub added_then : (a x y : List ℕ) {b c : List ℕ} → b ≡ a ++ x → c ≡ b ++ y → c ≡ a ++ (x ++ y)
added_then a x y e f = f ∙ ap (λ (text : List ℕ). text ++ y) e ∙ append_assoc a x y

-- with each turn of a loop

abbrev pub Grows : (ℕ → List ℕ) → (ℕ → List ℕ) → Type 0
Grows text piece = (i : ℕ) → text (suc i) ≡ text i ++ piece i

pub put_turn : (text piece : ℕ → List ℕ) → Grows text piece → {a b c : List ℕ} {at next end : ℕ} (i : ℕ) → Put a at (text i) next b → Put b next (piece i) end c → Put a at (text (i + 1)) end c
put_turn text piece grows i p q = rw (add-one i, grows i) (put_then p q)

pub added_turn : (text piece : ℕ → List ℕ) → Grows text piece → (a : List ℕ) {b c : List ℕ} (i : ℕ) → b ≡ a ++ text i → c ≡ b ++ piece i → c ≡ a ++ text (i + 1)
added_turn text piece grows a i e f = rw (add-one i, grows i) (added_then a (text i) (piece i) e f)
