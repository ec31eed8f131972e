-- What a parser yields, whatever the bytes: a result with a property, or one of the first four refusals. Laws for each way that the parsers
-- of a sheet are put together, and for one line.
use Prim.Native.String.{String}
use Prim.Native.Nat.{ℕ, zero, suc, ◌+◌, ◌≤◌, ◌<◌}
use mathlib.Core.Path.{◌≡◌, refl, ap, ◌∙◌}
use mathlib.Core.Bool.{Bool, true, false, ◌&&◌, false≢true}
use mathlib.Core.List.{List, [], ◌∷◌, ◌++◌}
use mathlib.Core.Logic.{⊎_elim}
use native.Mathlib.Numerals.{add-one}
use native.Mathlib.Nat.{eq-or-lt_of_le}
use native.Mathlib.Omega.{arith}
use lib.Seq.{get_or_at}
use lib.Signed.{le_z}
use lib.IntN.{ℤ, pos, negsuc, nat_abs}
use lib.ListN.{length, get_or, length-append, get_or-append}
use Rattle.model.specs.Reading.{Parsed, parsed, fault, Parser, return, ◌>>=◌, times, Spelled, spelled, wrong, line, natural, signed, ranged, field, signed_field, step, end}
use Rattle.model.specs.Sheet.{number, Verdict, passes, refuses, ask, within, in_range, step_within, step_verdict}
use Rattle.model.specs.declared.Limits.{Limits}
use Rattle.model.specs.declared.Refusal.{Refusal}
use Rattle.model.specs.declared.Refusal.TheVariants.{Misspelt, OutOfRange}
use Rattle.laws.proofs.Text.Verdicts.{refusal_not_passes}

-- a result has the property, or the fault is one of the first four refusals
pub data Delivers {A : Type 0} (P : A → Type 0) : Parsed A → Type 0 where
  delivers : {a : A} {rest : List ℕ} → P a → Delivers P (parsed a rest)
  faulty : (r : Refusal) → number r ≤ 4 → Delivers P (fault r)

pub record Yields {A : Type 0} (P : A → Type 0) (p : Parser A) : Type 0 where
  pub on : (text : List ℕ) → Delivers P (p text)

pub yields_return : {A : Type 0} {P : A → Type 0} (a : A) → P a → Yields P (return a)
unfolding return
yields_return a h = record { on = λ text. delivers h }

pub yields_then : {A B : Type 0} {P : A → Type 0} {Q : B → Type 0} {p : Parser A} {f : A → Parser B} → Yields P p → ((a : A) → P a → Yields Q (f a)) → Yields Q (p >>= f)
unfolding ◌>>=◌
yields_then {A} {B} {P} {Q} {p} {f} h k = record { on = λ text. go (p text) (h.on text) }
  where
    go : (x : Parsed A) → Delivers P x → Delivers Q (elim x [ parsed a rest ↦ f a rest | fault r ↦ fault r ])
    go (parsed a rest) (delivers h) = (k a h).on rest
    go (fault r) (faulty _ h) = faulty r h

-- so many with the property
pub record Each {A : Type 0} (P : A → Type 0) (n : ℕ) (xs : List A) : Type 0 where
  pub count : length xs ≡ n
  pub each : (default : A) (i : ℕ) → i < n → P (get_or xs i default)

each_one_more : {A : Type 0} {P : A → Type 0} {n : ℕ} {xs : List A} {x : A} → Each P n xs → P x → Each P (suc n) (xs ++ (x ∷ []))
each_one_more {A} {P} {n} {xs} {x} e h = record { count = length-append xs (x ∷ []) ∙ ap (λ (m : ℕ). m + 1) e.count ∙ add-one n; each = at }
  where
    at : (default : A) (i : ℕ) → i < suc n → P (get_or (xs ++ (x ∷ [])) i default)
    at default i l = ⊎_elim last earlier (eq-or-lt_of_le {n = i} {m = n} (omega arith))
      where
        last : i ≡ n → P (get_or (xs ++ (x ∷ [])) i default)
        last same = rw (same, get_or_at xs x [] default n e.count) h

        earlier : i < n → P (get_or (xs ++ (x ∷ [])) i default)
        earlier l = rw (get_or-append xs (x ∷ []) default i (omega (arith, e.count))) (e.each default i l)

pub yields_times : {A : Type 0} {P : A → Type 0} (n : ℕ) {p : Parser A} → Yields P p → Yields (Each P n) (times n p)
unfolding times
yields_times zero h = yields_return [] (record { count = refl; each = λ default i h. absurd (omega arith) })
yields_times (suc n) h = yields_then (yields_times n h) (λ xs e. yields_then h (λ x p. yields_return (xs ++ (x ∷ [])) (each_one_more e p)))

pub yields_end : {A : Type 0} {P : A → Type 0} (a : A) → P a → Yields P (end a)
unfolding end number
yields_end {P = P} a h = record { on = go }
  where
    go : (text : List ℕ) → Delivers P (end a text)
    go [] = delivers h
    go (b ∷ text) = faulty Misspelt (omega arith)

-- ---- the fields

-- a line whose number is asked about: a number that is read passes the question
pub yields_ranged : (range : ℤ → Bool) (read : List ℕ → Spelled) → Yields (λ z. ask (range z) OutOfRange ≡ passes) (λ text. ranged range (read text))
unfolding ranged number ask
yields_ranged range read = record { on = λ text. go (read text) }
  where
    tested : (z : ℤ) (rest : List ℕ) (b : Bool) → range z ≡ b → Delivers (λ z. ask (range z) OutOfRange ≡ passes) (elim b [ true ↦ parsed z rest | false ↦ fault OutOfRange ])
    tested z rest true h = delivers {a = z} (rw h)
    tested z rest false h = faulty OutOfRange (omega arith)

    go : (x : Spelled) → Delivers (λ z. ask (range z) OutOfRange ≡ passes) (ranged range x)
    go (spelled z rest) = tested z rest (range z) refl
    go wrong = faulty Misspelt (omega arith)

in_range_natural : (limits : Limits) (z : ℤ) → le_z (pos 0) limits.low ≡ true → in_range limits z ≡ passes → z ≡ pos (nat_abs z)
unfolding within in_range ask
in_range_natural limits (pos n) h w = refl
in_range_natural limits (negsuc n) h w = absurd (go limits.low h w)
  where
    go : (low : ℤ) → le_z (pos 0) low ≡ true → ask (le_z low (negsuc n) && le_z (negsuc n) limits.high) OutOfRange ≡ passes → ⊥
    go (pos a) h w = refusal_not_passes w
    go (negsuc a) h w = false≢true h

pub yields_field : (key : String) (limits : Limits) → le_z (pos 0) limits.low ≡ true → Yields (λ n. in_range limits (pos n) ≡ passes) (field key limits)
unfolding field in_range
yields_field key limits h = yields_then (yields_ranged (within limits) (line key natural)) (λ z w. yields_return (nat_abs z) (rw (← in_range_natural limits z h w) w))

pub yields_signed : (key : String) (limits : Limits) → Yields (λ z. in_range limits z ≡ passes) (signed_field key limits)
unfolding signed_field in_range
yields_signed key limits = yields_ranged (within limits) (line key signed)

pub yields_step : Yields (λ H. step_verdict H ≡ passes) step
unfolding step step_verdict
yields_step = yields_ranged step_within (line "step" signed)

-- ---- a line of a text is asked what numbers are asked, and nothing else

-- what a line comes to whose number has this verdict
unfoldable pub answers : {A : Type 0} → Verdict → A → List ℕ → Parsed A
answers passes a rest = parsed a rest
answers (refuses r) a rest = fault r

ranged_asks : (range : ℤ → Bool) (z : ℤ) (rest : List ℕ) → ranged range (spelled z rest) ≡ answers (ask (range z) OutOfRange) z rest
unfolding ranged answers ask
ranged_asks range z rest = go (range z)
  where
    go : (b : Bool) → elim b [ true ↦ parsed z rest | false ↦ fault OutOfRange ] ≡ answers (ask b OutOfRange) z rest
    go true = refl
    go false = refl

then_answers : {A B : Type 0} (v : Verdict) (p : Parser A) (f : A → B) (text : List ℕ) (a : A) (rest : List ℕ) → p text ≡ answers v a rest → (p >>= λ a. return (f a)) text ≡ answers v (f a) rest
unfolding ◌>>=◌ return answers
then_answers {A} {B} v p f text a rest e = ap (λ (x : Parsed A). elim x [ parsed a rest ↦ return (f a) rest | fault r ↦ fault r ]) e ∙ go v
  where
    go : (v : Verdict) → elim (answers v a rest) [ parsed a rest ↦ return (f a) rest | fault r ↦ fault r ] ≡ answers v (f a) rest
    go passes = refl
    go (refuses r) = refl

module _ (key : String) (limits : Limits) (text : List ℕ) {z : ℤ} {rest : List ℕ} where
  pub signed_asked_alike : line key signed text ≡ spelled z rest → signed_field key limits text ≡ answers (in_range limits z) z rest
  unfolding signed_field in_range
  signed_asked_alike e = rw e (ranged_asks (within limits) z rest)

  pub field_asked_alike : line key natural text ≡ spelled z rest → field key limits text ≡ answers (in_range limits z) (nat_abs z) rest
  unfolding field in_range
  field_asked_alike e = then_answers (in_range limits z) (λ text. ranged (within limits) (line key natural text)) nat_abs text z rest (rw e (ranged_asks (within limits) z rest))

pub step_asked_alike : (text : List ℕ) {H : ℤ} {rest : List ℕ} → line "step" signed text ≡ spelled H rest → step text ≡ answers (step_verdict H) H rest
unfolding step step_verdict
step_asked_alike text {H} {rest} e = rw e (ranged_asks step_within H rest)
