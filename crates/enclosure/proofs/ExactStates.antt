-- Exact states within radii of values: the values themselves are one, so that demand 3 speaks of something; and whether a state is one
-- depends on its numbers alone, not on their denominator.
use Prim.Native.Nat.{ℕ, ◌<◌}
use mathlib.Core.Path.{◌≡◌, sym, ap, ◌∙◌}
use mathlib.Core.List.{List, map}
use native.Mathlib.Omega.{arith}
use native.Mathlib.Nat.{mul_comm}
use lib.IntN.{ℤ, pos, ◌*ℤ◌, *ℤ_comm}
use lib.ListN.{length, get_or, length-map, get_or-map}
use Rattle.rounding.specs.Enclosure.{Within}
use Rattle.rounding.proofs.Integers.{ringℤ}
use Rattle.rounding.proofs.Enclosure.{within_exact, within_wider, within_scaled, within_unscaled}
use Rattle.model.specs.Sheet.{scale}
use Rattle.enclosure.specs.Exact.{State}
use Rattle.model.specs.Step.{no_ball}
use Rattle.model.specs.declared.Ball.{Ball}
use Rattle.enclosure.specs.Trust.{LiesWithin}
use Rattle.laws.proofs.Bounds.Reach.{scale_positive}
use Rattle.enclosure.proofs.Denominators.{number, SameNumbers}

-- each value, in wholes: its units ÷ s
unfoldable pub state_of_values : List Ball → State
state_of_values balls = record { denominator = scale; numerators = map (λ ball. ball.value) balls }

pub values_lie_within : (balls : List Ball) → LiesWithin balls (state_of_values balls)
unfolding state_of_values no_ball
values_lie_within balls =
    record {
      rational = scale_positive;
      quantities = length-map balls (λ ball. ball.value);
      near = λ i h. rw (get_or-map (λ ball. ball.value) balls i no_ball, *ℤ_comm (pos scale) (get_or balls i no_ball).value) (within_wider (omega arith) (within_exact (get_or balls i no_ball).value scale));
    }

pub same_numbers_lie_within : (balls : List Ball) {a b : State} → 0 < b.denominator → SameNumbers a b → LiesWithin balls a → LiesWithin balls b
unfolding number
same_numbers_lie_within balls {a} {b} positive same within =
    record {
      rational = positive;
      quantities = sym same.quantities ∙ within.quantities;
      near = moved;
    }
  where
    front : (d s x : ℤ) → d *ℤ (s *ℤ x) ≡ s *ℤ (x *ℤ d)
    front d s x = simp ringℤ

    crossed : (i : ℕ) → i < length balls → pos a.denominator *ℤ (pos scale *ℤ get_or b.numerators i (pos 0)) ≡ pos b.denominator *ℤ (pos scale *ℤ get_or a.numerators i (pos 0))
    crossed i h =
        front (pos a.denominator) (pos scale) (get_or b.numerators i (pos 0)) ∙ ap (λ (z : ℤ). pos scale *ℤ z) (sym (same.each i (omega (arith, within.quantities))).cross) ∙ sym (front (pos b.denominator) (pos scale) (get_or a.numerators i (pos 0)))

    moved : (i : ℕ) → i < length balls → Within (pos scale *ℤ get_or b.numerators i (pos 0)) b.denominator (get_or balls i no_ball).value (get_or balls i no_ball).radius
    moved i h =
        within_unscaled a.denominator b.denominator within.rational (rw (crossed i h, mul_comm a.denominator b.denominator) (within_scaled b.denominator (within.near i h)))
