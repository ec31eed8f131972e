-- `terms::sum_like` meets its contract. The loop forms the sums of the terms passed: the next term is added to the first that it is like, or stands
-- behind them all.
use Prim.Native.Nat.{ℕ, ◌+◌, ◌^◌, ◌≤◌, ◌<◌}
use mathlib.Core.List.{List}
use mathlib.Core.Path.{◌≡◌, ap, ◌∙◌}
use native.Mathlib.Omega.{arith}
use lib.IntN.{nat_abs, ◌+ℤ◌}
use lib.ListN.{length, get_or, set, take}
use Rattle.std.proofs.Common.{Some, None}
use Rattle.std.specs.List.{position}
use Rattle.model.specs.Sheet.{most_terms, no_term}
use Rattle.model.specs.LikeTerms.{like, summed}
use Rattle.laws.specs.Bounds.{Summable, most_total}
use Rattle.model.specs.declared.Term.{Term}
use Rattle.laws.proofs.Gathering.Gathered.{with_coef}
use Rattle.laws.proofs.Gathering.GatheredBounds.{coef_le_total, total_take, total_summed}
use Rattle.terms.proofs.Built.{Built, taken, taken_more, built_none, built_length, built_at, built_set, built_more}
use Rattle.terms.proofs.Added.{added, found_below, added_found, added_none, summed_more}
use Rattle.terms.proofs.sum_like.Goals.{in-Some, in-None}
use Rattle.terms.proofs.sum_like.Goals as goal

-- one term more: it is like one of the sums, or like none
module _ (terms : List Term) (j count : ℕ) (sums : List Term) (there : j < length terms) (summable : Summable terms) (fewer : count ≤ j) (built : Built (summed (take j terms)) count sums) where
  abbrev term : Term
  term = get_or terms j no_term

  -- the sums of those before it
  abbrev before : List Term
  before = summed (take j terms)

  few : count ≤ most_terms
  few = omega (arith, summable.count)

  more : summed (take (j + 1) terms) ≡ added before term
  more = ap summed (taken_more terms j there) ∙ summed_more (take j terms) term

  module _ (i : ℕ) (found : Some i ≡ position (λ sum. like sum term) (take count sums)) where
    found_before : Some i ≡ position (λ sum. like sum term) before
    found_before = rw (taken few built) at found

    below : i < count
    below = omega (arith, found_below before term i found_before, built_length few built)

    joined : (sum : Term) → sum ≡ with_coef (get_or sums i no_term) ((get_or sums i no_term).coef +ℤ term.coef) → Built (summed (take (j + 1) terms)) count (set sums i sum)
    joined sum e =
        rw (e, more, added_found before term i found_before, built_at few built i below) (built_set few built i _ below)

    -- no coefficient is above the sum of all |A|
    small : nat_abs (get_or sums i no_term).coef + nat_abs term.coef < 2 ^ 63
    unfolding most_total
    small =
        rw (built_at few built i below)
        (omega (arith, coef_le_total before i (omega (arith, below, built_length few built)), total_summed (take j terms), total_take j terms, coef_le_total terms j there, summable.total))

  behind : None ≡ position (λ sum. like sum term) (take count sums) → Built (summed (take (j + 1) terms)) (count + 1) (set sums count term)
  behind none =
      rw (more, added_none before term (rw (taken few built) at none)) (built_more few built term (omega (arith, summable.count)))

pub loop-term-init : goal.loop-term-init
unfolding summed
loop-term-init c = (built_none _, omega arith)

pub plus-requires : goal.plus-requires
unfolding no_term
plus-requires c =
    let kept = c.loop-term.invariant in
    small c.args.terms.now c.loop-term.term-index c.loop-term.count c.loop-term.sums c.loop-term-test.true c.requires kept.1 kept.0 c.in-Some.i c.in-Some.ensures

pub loop-term-preserved : goal.loop-term-preserved
unfolding no_term
loop-term-preserved c =
    let kept = c.loop-term.invariant in
    elim c.match-place_of.branch [
      | in-Some w ↦ rw (w.sums-is, w.count-is) (joined c.args.terms.now c.loop-term.term-index c.loop-term.count c.loop-term.sums c.loop-term-test.true c.requires kept.1 kept.0 w.in-Some.i w.in-Some.ensures w.plus.result w.plus.ensures, omega arith)
      | in-None w ↦ rw (w.sums-is, w.count-is) (behind c.args.terms.now c.loop-term.term-index c.loop-term.count c.loop-term.sums c.loop-term-test.true c.requires kept.1 kept.0 w.in-None.ensures, omega arith)
    ]
