-- `ratio::sizes::coefs` meets its contract. The loop forms the sum over the terms passed.
use Prim.Native.Nat.{ℕ, ◌+◌, ◌≤◌}
use mathlib.Core.Path.{◌≡◌, refl, ap, ◌∙◌}
use mathlib.Core.List.{List}
use native.Mathlib.Numerals.{add-one}
use native.Mathlib.Omega.{arith}
use lib.ListN.{length, get_or}
use Rattle.ranges.specs.Range as range
use Rattle.model.specs.Sheet.{no_term}
use Rattle.model.specs.Step as rule
use Rattle.model.specs.declared.Term.{Term}
use Rattle.ranges.proofs.Ranges.{sum_suc}
use Rattle.laws.proofs.Bounds.RatioNumbers.{coefs_fit}
use Rattle.laws.specs.Bounds.{total, most_total}
use Rattle.ratio.proofs.sizes.coefs.Invariants.{partial}
use Rattle.ratio.proofs.sizes.coefs.Goals as goal

-- one term more
one_more : (target count : ℕ) (terms : List Term) (j : ℕ) {sum r : ℕ} → sum ≡ partial target count terms j → r ≡ rule.brings target (get_or terms j no_term) (rule.coef_of count (get_or terms j no_term)) → sum + r ≡ partial target count terms (j + 1)
unfolding partial
one_more target count terms j e h =
    rw (add-one j, sum_suc j (λ j. rule.brings target (get_or terms j no_term) (rule.coef_of count (get_or terms j no_term))), e, h)

-- the sum over the first j terms is at most that over all
partial_fits : (target count : ℕ) (terms : List Term) → total terms ≤ most_total → (j : ℕ) → j ≤ length terms → partial target count terms j ≤ most_total
unfolding partial
partial_fits target count terms h j l = coefs_fit terms h target count j l

pub loop-term-init : goal.loop-term-init
unfolding range.sum partial
loop-term-init c = refl

pub overflow_add-sum : goal.overflow_add-sum
unfolding no_term most_total
overflow_add-sum c =
    let terms = c.args.terms.now in
    let j = c.loop-term.term-index in
    omega (arith, one_more c.args.target c.args.count terms j c.loop-term.invariant c.coef_of-sum.ensures, partial_fits c.args.target c.args.count terms c.requires.total (j + 1) (omega (arith, c.loop-term-test.true)))

pub loop-term-preserved : goal.loop-term-preserved
unfolding no_term
loop-term-preserved c = one_more c.args.target c.args.count c.args.terms.now c.loop-term.term-index c.loop-term.invariant c.coef_of-sum.ensures

pub returns : goal.returns
unfolding partial rule.coefs
returns c =
    let terms = c.args.terms.now in
    let done : c.loop-term.term-index ≡ length terms = omega (arith, c.loop-term-test.false) in
    c.loop-term.invariant ∙ ap (partial c.args.target c.args.count terms) done
