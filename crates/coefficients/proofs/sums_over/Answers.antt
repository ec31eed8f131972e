-- `coefficients::sums_over` meets its contract. The loop's invariant: the sums are those over the terms passed.
use Prim.Native.Nat.{ℕ, ◌+◌, ◌-◌, ◌^◌, ◌<◌}
use mathlib.Core.List.{List}
use mathlib.Core.Path.{◌≡◌, refl, sym, ◌∙◌}
use native.Mathlib.Numerals.{add-one}
use native.Mathlib.Omega.{arith}
use borrow.Author.Rules.{rules}
use lib.IntN.{ℤ, nat_abs, ◌+ℤ◌}
use lib.ListN.{length, get_or}
use mir.Syntax.{w64}
use mir.Val.{SFits, to_z, of_z}
use mir.Facts.{to_z-of_z}
use Rattle.rounding.proofs.Machine.{sfits_abs}
use Rattle.model.specs.Sheet.{most_quantities, no_term}
use Rattle.model.specs.Step.{no_ball}
use Rattle.model.specs.declared.Ball.{Ball}
use Rattle.model.specs.declared.Term.{Term}
use Rattle.products.specs.declared.table.Table.{Table}
use Rattle.coefficients.specs.Orders.{CanSum}
use Rattle.products.proofs.Kept.{get_or_replicated}
use Rattle.coefficients.proofs.TermByTerm.{no_shares, with_share, sums_reach, one_share_more}
use Rattle.coefficients.proofs.sums_over.Goals as goal

-- the step is a number of 64 bits
asked : {terms : List Term} {H : ℤ} {k : ℕ} {table : Table} → SFits w64 H → CanSum terms H k table → CanSum terms (to_z w64 (of_z w64 H)) k table
asked fits can = rw (to_z-of_z fits) can

-- what is stored is the sum, by its bits
added : (sum brought : Ball) → SFits w64 brought.value → SFits w64 sum.value → nat_abs (sum.value +ℤ brought.value) < 2 ^ 63 →
    record { value = to_z w64 (of_z w64 (to_z w64 (of_z w64 sum.value) +ℤ to_z w64 (of_z w64 brought.value))); radius = sum.radius + brought.radius } ≡ with_share sum brought
added sum brought f g h = rw (to_z-of_z g, to_z-of_z f, to_z-of_z (sfits_abs {w = w64} h))

pub loop-term-init : goal.loop-term-init
unfolding no_ball
loop-term-init c = record { all = refl {a = most_quantities}; held = λ i h. get_or_replicated most_quantities i no_ball ∙ sym (no_shares _ _ _ _ i) }

pub share-brought-requires : goal.share-brought-requires
unfolding no_term
share-brought-requires c = (asked c.ranges.step c.requires).shares c.loop-term.term-index c.loop-term-test.true

pub overflow_add-sum : goal.overflow_add-sum
unfolding no_ball no_term
overflow_add-sum c =
    let f : SFits w64 c.share-brought.result.value = search rules in
    let g : SFits w64 (get_or c.loop-term.sums ((get_or c.args.terms.now c.loop-term.term-index no_term).to - 1) no_ball).value = search rules in
    rw (to_z-of_z g, to_z-of_z f) (sfits_abs (omega (arith, sums_reach (asked c.ranges.step c.requires) c.loop-term-test.true c.loop-term.invariant c.share-brought.ensures)))

pub overflow_add-sum-in-loop-term : goal.overflow_add-sum-in-loop-term
unfolding no_ball no_term
overflow_add-sum-in-loop-term c =
    let h = sums_reach (asked c.ranges.step c.requires) c.loop-term-test.true c.loop-term.invariant c.share-brought.ensures in
    let g : (get_or c.loop-term.sums ((get_or c.args.terms.now c.loop-term.term-index no_term).to - 1) no_ball).radius + c.share-brought.result.radius < 2 ^ 64 = omega (arith, h) in
    search rules

pub loop-term-preserved : goal.loop-term-preserved
unfolding no_ball no_term
loop-term-preserved c =
    let f : SFits w64 c.share-brought.result.value = search rules in
    let g : SFits w64 (get_or c.loop-term.sums ((get_or c.args.terms.now c.loop-term.term-index no_term).to - 1) no_ball).value = search rules in
    let h = sums_reach (asked c.ranges.step c.requires) c.loop-term-test.true c.loop-term.invariant c.share-brought.ensures in
    rw (add-one c.loop-term.term-index) (one_share_more (asked c.ranges.step c.requires) c.loop-term-test.true c.loop-term.invariant c.share-brought.ensures (added _ _ f g (omega (arith, h))))

pub returns : goal.returns
returns c =
    let all : c.loop-term.term-index ≡ length c.args.terms.now = omega (arith, c.loop-term-test.false) in
    rw (all, to_z-of_z c.ranges.step) at c.loop-term.invariant.held
