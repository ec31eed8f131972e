-- `clear_search::questions::query_within` meets its contract: each answer is that of its question, and the first no decides.
use Prim.Native.Nat.{ℕ, ◌≤◌}
use mathlib.Core.Bool.{Bool, ◌&&◌}
use mathlib.Core.Path.{◌≡◌, refl}
use borrow.Author.Rules.{rules}
use lib.ListN.{length}
use mir.Syntax.{w64}
use Rattle.rounding.proofs.Machine.{of_number}
use Rattle.ranges.specs.Range.{every}
use Rattle.model.specs.Sheet.{most, within, from◌to◌, ±◌}
use Rattle.clear_rule.specs.Clearance.{weight, weight_limits, depth_limits, run_limits, query_within}
use Rattle.clear_rule.specs.declared.Query.{Query}
use Rattle.clear_search.proofs.Asked.{front_asked, next_decides, no_decides}
use Rattle.clear_search.proofs.questions.query_within.Goals.{then-all_within, else-all_within, then-within, else-within}
use Rattle.clear_search.proofs.questions.query_within.Goals as goal

-- the questions
abbrev weights_within : ℕ → Query → Bool
weights_within n query = every n (λ i. within weight_limits (weight query i))

abbrev base_within : Query → Bool
base_within query = within depth_limits query.base

abbrev need_within : Query → Bool
need_within query = within depth_limits query.need

pub returns-then-within-2 : goal.returns-then-within-2
unfolding weight_limits depth_limits ±◌ most run_limits from◌to◌ weight query_within
returns-then-within-2 c =
    let room : c.args.n ≤ length c.args.query.now.weights = search rules in
    let weights : c.all_within.result ≡ weights_within c.args.n c.args.query.now = front_asked weight_limits c.args.n c.args.query.now.weights room c.all_within.ensures refl in
    let base : c.if-all_within.value ≡ (weights_within c.args.n c.args.query.now && base_within c.args.query.now) = elim c.if-all_within.branch [ then-all_within w ↦ next_decides weights w.if-all_within.true (of_number {w = w64} (within depth_limits) (search rules) w.within.ensures) w.value-is | else-all_within w ↦ no_decides _ weights w.if-all_within.false w.value-is ] in
    let need : c.if-within.value ≡ (weights_within c.args.n c.args.query.now && base_within c.args.query.now && need_within c.args.query.now) = elim c.if-within.branch [ then-within w ↦ next_decides base w.if-within.true (of_number {w = w64} (within depth_limits) (search rules) w.within-then-within.ensures) w.value-is | else-within w ↦ no_decides _ base w.if-within.false w.value-is ] in
    next_decides need c.if-within-2.true c.natural_within.ensures refl

pub returns-else-within-2 : goal.returns-else-within-2
unfolding weight_limits depth_limits ±◌ most run_limits from◌to◌ weight query_within
returns-else-within-2 c =
    let room : c.args.n ≤ length c.args.query.now.weights = search rules in
    let weights : c.all_within.result ≡ weights_within c.args.n c.args.query.now = front_asked weight_limits c.args.n c.args.query.now.weights room c.all_within.ensures refl in
    let base : c.if-all_within.value ≡ (weights_within c.args.n c.args.query.now && base_within c.args.query.now) = elim c.if-all_within.branch [ then-all_within w ↦ next_decides weights w.if-all_within.true (of_number {w = w64} (within depth_limits) (search rules) w.within.ensures) w.value-is | else-all_within w ↦ no_decides _ weights w.if-all_within.false w.value-is ] in
    let need : c.if-within.value ≡ (weights_within c.args.n c.args.query.now && base_within c.args.query.now && need_within c.args.query.now) = elim c.if-within.branch [ then-within w ↦ next_decides base w.if-within.true (of_number {w = w64} (within depth_limits) (search rules) w.within-then-within.ensures) w.value-is | else-within w ↦ no_decides _ base w.if-within.false w.value-is ] in
    no_decides _ need c.if-within-2.false refl
