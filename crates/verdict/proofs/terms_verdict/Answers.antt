-- `verdict::terms_verdict` meets its contract. The loop passes the terms that pass.
use Prim.Native.Nat.{ℕ, ◌≤◌}
use mathlib.Core.List.{List}
use mathlib.Core.Path.{◌≡◌, refl, ap, ◌∙◌}
use mathlib.Core.Bool.{Bool, true, false}
use native.Mathlib.Omega.{arith}
use lib.IntN.{pos}
use lib.ListN.{length, get_or}
use Rattle.std.proofs.Common.{Ok}
use Rattle.model.specs.Sheet.{most_terms, Outcome, Verdict, passes, verdict_outcome, ask, in_order, from◌to◌, terms_limits, in_range, term_verdict, terms_verdict, no_term, listed}
use Rattle.model.specs.declared.Refusal.TheVariants.{OutOfRange}
use Rattle.model.specs.declared.Term.{Term}
use Rattle.model.specs.declared.Terms.{Terms}
use Rattle.laws.proofs.Text.Verdicts.{natural_within, in_order_equal}
use Rattle.laws.proofs.Bounds.CountedTerms.{length_listed, get_or_listed}
use Rattle.verdict.proofs.Outcomes.{passes_as, refused_first, passed_first, one_more, refused_at}
use Rattle.verdict.proofs.terms_verdict.Goals as goal

-- a count that passes is in its range, which is at most most_terms
answered : (b : Bool) → ask b OutOfRange ≡ passes → b ≡ true
unfolding ask
answered true e = refl
answered false e = cc

count_fits : {count : ℕ} {u : Unit {0}} → Ok u ≡ verdict_outcome (in_range terms_limits (pos count)) → count ≤ most_terms
unfolding in_range terms_limits
count_fits {count} passed = (natural_within {low = 0} {high = most_terms} (pos count) (answered _ (passes_as (in_range terms_limits (pos count)) passed))).1

-- the verdict on each of the terms that are counted
abbrev each : ℕ → List Term → ℕ → Verdict
each n terms j = term_verdict n (get_or terms j no_term)

in_order_listed : (n : ℕ) (terms : Terms) {items : List Term} → items ≡ listed terms → in_order (length items) (each n items) ≡ in_order terms.count (each n terms.list)
in_order_listed n terms same =
    rw (same, length_listed terms) (in_order_equal terms.count (each n (listed terms)) (each n terms.list) (λ j h. ap (term_verdict n) (get_or_listed terms j h)))

module _ (n : ℕ) (terms : Terms) {items : List Term} (same : terms.count ≤ most_terms → items ≡ listed terms) {u : Unit {0}} (counted : Ok u ≡ verdict_outcome (in_range terms_limits (pos terms.count))) where
  whole : {o : Outcome} → o ≡ verdict_outcome (in_order (length items) (each n items)) → o ≡ verdict_outcome (terms_verdict n terms)
  unfolding terms_verdict
  whole e = passed_first _ _ counted (e ∙ ap verdict_outcome (in_order_listed n terms (same (count_fits counted))))

pub returns-in_err-natural_in_range : goal.returns-in_err-natural_in_range
unfolding terms_verdict terms_limits from◌to◌
returns-in_err-natural_in_range c = refused_first _ _ c.in_err-natural_in_range.ensures c.from_residual.ensures.1

pub loop-term-init : goal.loop-term-init
unfolding in_order
loop-term-init c = refl

pub returns-in_err-term_verdict : goal.returns-in_err-term_verdict
unfolding terms_limits from◌to◌ no_term
returns-in_err-term_verdict c =
    let items = c.listed-term-items.result.now in
    whole c.args.n c.args.terms.now c.listed-term-items.ensures c.in_ok-natural_in_range.ensures (refused_at (each c.args.n items) (length items) c.loop-term-test.true c.loop-term.invariant c.in_err-term_verdict.ensures c.from_residual-in_err-term_verdict.ensures.1)

pub loop-term-preserved : goal.loop-term-preserved
unfolding no_term
loop-term-preserved c =
    one_more (each c.args.n c.listed-term-items.result.now) c.loop-term.term-index c.loop-term.invariant c.in_ok-term_verdict.ensures

pub returns : goal.returns
unfolding terms_limits from◌to◌ verdict_outcome
returns c =
    let items = c.listed-term-items.result.now in
    let all : length items ≡ c.loop-term.term-index = omega (arith, c.loop-term-test.false) in
    whole c.args.n c.args.terms.now c.listed-term-items.ensures c.in_ok-natural_in_range.ensures (rw (all, c.loop-term.invariant) refl)
