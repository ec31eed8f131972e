-- `terms::drop_zeros` meets its contract. The loop forms the list of those that are not 0.
use Prim.Native.Nat.{ℕ, ◌+◌, ◌≤◌, ◌<◌}
use mathlib.Core.Bool.{true, false}
use mathlib.Core.List.{List, append-nil}
use mathlib.Core.Path.{◌≡◌, sym, ◌∙◌}
use native.Mathlib.Omega.{arith}
use lib.ListN.{length, get_or, set, take}
use Rattle.model.specs.Sheet.{most_terms, no_term}
use Rattle.model.specs.LikeTerms.{nonzero, filter}
use Rattle.model.specs.declared.Term.{Term}
use Rattle.laws.proofs.Gathering.Filters.{filter_behind}
use Rattle.terms.proofs.Built.{Built, taken_more, built_none, built_more}
use Rattle.terms.proofs.drop_zeros.Goals.{then-nonzero, else-nonzero}
use Rattle.terms.proofs.drop_zeros.Goals as goal

-- one term more: it stands behind them, or drops out
module _ (terms : List Term) (j count : ℕ) (list : List Term) (there : j < length terms) (few : length terms ≤ most_terms) (kept : count ≤ j) (left : Built (filter nonzero (take j terms)) count list) where
  stands : nonzero (get_or terms j no_term) ≡ true → Built (filter nonzero (take (j + 1) terms)) (count + 1) (set list count (get_or terms j no_term))
  stands e = rw (taken_more terms j there, filter_behind nonzero true (get_or terms j no_term) e) (built_more (omega arith) left _ (omega arith))

  drops : nonzero (get_or terms j no_term) ≡ false → Built (filter nonzero (take (j + 1) terms)) count list
  drops e = rw (taken_more terms j there, filter_behind nonzero false (get_or terms j no_term) e, append-nil) left

pub loop-sum-init : goal.loop-sum-init
unfolding filter
loop-sum-init c = (built_none _, omega arith)

pub loop-sum-preserved : goal.loop-sum-preserved
unfolding no_term
loop-sum-preserved c =
    let kept = c.loop-sum.invariant in
    elim c.if-nonzero.branch [
      | then-nonzero w ↦ rw (w.left-is, w.kept-is) (stands c.args.sums.now c.loop-sum.sum-index c.loop-sum.kept c.loop-sum.left c.loop-sum-test.true c.requires kept.1 kept.0 (sym c.nonzero.ensures ∙ w.if-nonzero.true), omega arith)
      | else-nonzero w ↦ rw (w.left-is, w.kept-is) (drops c.args.sums.now c.loop-sum.sum-index c.loop-sum.kept c.loop-sum.left c.loop-sum-test.true c.requires kept.1 kept.0 (sym c.nonzero.ensures ∙ w.if-nonzero.false), omega arith)
    ]
