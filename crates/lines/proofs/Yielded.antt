-- What is read has the property that its parser yields; a field is in its range.
use Rattle.std.proofs.Common.{◌≡◌, ℕ, ◌≤◌, List, subst, arith}
use Prim.Native.String.{String}
use borrow.Author.Tests.{le-leb}
use Rattle.model.specs.Sheet.{from◌to◌}
use Rattle.model.specs.Reading.{Parsed, parsed, fault, Parser, field}
use Rattle.laws.proofs.Text.Verdicts.{in_range_lem}
use Rattle.laws.proofs.Text.Parsers.{Delivers, delivers, faulty, Yields, yields_field}

pub yielded : {A : Type 0} {P : A → Type 0} {p : Parser A} → Yields P p → (l : List ℕ) {a : A} {m : List ℕ} → parsed a m ≡ p l → P a
yielded {A} {P} {p} yields l {a} {m} e = go (p l) (yields.on l) e
  where
    go : (q : Parsed A) → Delivers P q → parsed a m ≡ q → P a
    go (parsed b next) (delivers h) e = let same : b ≡ a = cc in subst P same h
    go (fault r) (faulty _ h) e = absurd cc

pub field_at_most : (key : String) (low high : ℕ) (l : List ℕ) {v : ℕ} {m : List ℕ} → parsed v m ≡ field key (from low to high) l → v ≤ high
unfolding from◌to◌
field_at_most key low high l {v} e = (in_range_lem {low = low} {high = high} v (yielded (yields_field key (from low to high) (le-leb 0 low (omega arith))) l e)).1
