-- What is asked of each number of a list, and one question after the other.
use Prim.Native.Nat.{ℕ, zero, suc, ◌≤◌, ◌<◌}
use mathlib.Core.Bool.{Bool, true, false, ◌&&◌, and-true}
use mathlib.Core.List.{List}
use mathlib.Core.Path.{◌≡◌, refl, sym, ap, ◌∙◌}
use native.Mathlib.Omega.{arith}
use lib.IntN.{ℤ, pos}
use lib.ListN.{length, get_or, take, length-take}
use Rattle.std.specs.List.{list_all}
use Rattle.std.proofs.lemmas.List.{get_or-take}
use Rattle.std.proofs.lemmas.List.Folds.{list_all-append}
use Rattle.ranges.specs.Range.{every, tabulate}
use Rattle.model.specs.Sheet.{within}
use Rattle.model.specs.Rows.{parts, values_part, radii_part, lows_part, highs_part}
use Rattle.model.specs.declared.Limits.{Limits}
use Rattle.rows.specs.View.{places_of, part_in, Stands}
use Rattle.rows.specs.declared.view.Row.{Row}
use Rattle.ranges.proofs.Ranges.{tabulate_is}
use Rattle.clear_rule.specs.Clearance.{row_value_limits, row_radius_limits, part_within, row_within}

-- each of the numbers f 0, f 1, ..
pub all_tabulated : {A : Type 0} (test : A → Bool) (n : ℕ) (f : ℕ → A) → list_all test (tabulate n f) ≡ every n (λ i. test (f i))
unfolding tabulate every
all_tabulated test zero f = refl
all_tabulated test (suc n) f = rw (list_all-append, all_tabulated test n f, and-true)

-- the first n of a list
pub front_asked : (limits : Limits) (n : ℕ) (all : List ℤ) {numbers : List ℤ} {answer : Bool} → n ≤ length all → answer ≡ list_all (within limits) numbers → numbers ≡ take n all → answer ≡ every n (λ i. within limits (get_or all i (pos 0)))
front_asked limits n all few asked e =
    let front : tabulate n (λ i. get_or all i (pos 0)) ≡ take n all = tabulate_is n (λ i. get_or all i (pos 0)) (pos 0) (take n all) (rw length-take (omega arith)) (λ i h. sym (get_or-take n all i (pos 0) h)) in
    asked ∙ ap (list_all (within limits)) (e ∙ sym front) ∙ all_tabulated (within limits) n (λ i. get_or all i (pos 0))

-- they are no more than n
pub front_few : (n : ℕ) (numbers : List ℤ) → length (take n numbers) ≤ n
front_few n numbers = rw length-take (omega arith)

-- the n numbers of part p of row j
part_is : (limits : Limits) (n j p : ℕ) (buffer : List ℤ) → list_all (within limits) (part_in n buffer j p) ≡ part_within limits n buffer j p
unfolding part_in part_within
part_is limits n j p buffer = all_tabulated (within limits) n _

pub part_asked : (limits : Limits) (n j p : ℕ) (buffer : List ℤ) {numbers : List ℤ} {answer : Bool} → numbers ≡ part_in n buffer j p → answer ≡ list_all (within limits) numbers → answer ≡ part_within limits n buffer j p
part_asked limits n j p buffer e asked = asked ∙ ap (list_all (within limits)) e ∙ part_is limits n j p buffer

-- one question after another: where the answer so far is yes the next decides ..
pub next_decides : {a b both first second : Bool} → a ≡ first → a ≡ true → b ≡ second → both ≡ b → both ≡ (first && second)
next_decides e passed f is = rw (sym e ∙ passed) (is ∙ f)

-- .. and a no decides by itself
pub no_decides : {a both first : Bool} (second : Bool) → a ≡ first → a ≡ false → both ≡ a → both ≡ (first && second)
no_decides second e failed is = rw (sym e ∙ failed) (is ∙ failed)

-- ---- a row by its own places

module _ (n j : ℕ) (buffer : List ℤ) (row : Row) (stands : Stands n j buffer row) where
  part_led : (limits : Limits) (p : ℕ) → p < parts → part_within limits row.n (places_of row) 0 p ≡ part_within limits n buffer j p
  part_led limits p h =
      sym (part_is limits row.n 0 p (places_of row)) ∙ ap (list_all (within limits)) (stands.parts_are p h) ∙ part_is limits n j p buffer

  -- it is in its ranges as it is in a buffer of which it is row j
  pub row_led : row_within row.n (places_of row) 0 ≡ row_within n buffer j
  unfolding row_within
  row_led =
      λ t. part_led row_value_limits values_part (omega arith) t
      && part_led row_radius_limits radii_part (omega arith) t
      && part_led row_value_limits lows_part (omega arith) t
      && part_led row_value_limits highs_part (omega arith) t
