-- `single_step::step` meets its contract.
use Prim.Native.Nat.{◌≤◌}
use mathlib.Core.Path.{◌≡◌, sym, ap, ◌∙◌}
use Rattle.std.specs.Prelude.{Ok}
use Rattle.model.specs.Sheet.{most_terms, sheet_verdict, verdict_outcome, listed, terms_of}
use Rattle.coefficients.proofs.Filling.{blank_usable}
use Rattle.taylor.specs.StepAnswers.{CanStep, answered}
use Rattle.laws.proofs.Bounds.CountedTerms.{few_listed}
use Rattle.model.specs.LikeTerms.{gathered}
use Rattle.model.specs.declared.Sheet.{Sheet}
use Rattle.model.specs.declared.Term.{Term}
use Rattle.model.specs.declared.Terms.{Terms}
use mathlib.Core.List.{List}
use Rattle.single_step.proofs.AcceptedSheet.{passed, refuses_as, can_step, can_gather}
use Rattle.laws.proofs.Passages.SingleSteps.{step_of_refused, step_of_passing}
use Rattle.single_step.proofs.StepPromised.{step_promised}
use Rattle.single_step.proofs.step.Goals as goal

-- the gathered terms may be stepped by, where the verdict is not a refusal
can_step_by : (sheet : Sheet) (terms : Terms) {u : Unit {0}} → Ok u ≡ verdict_outcome (sheet_verdict sheet) → listed terms ≡ gathered (listed sheet.terms) → CanStep sheet.head (listed terms)
can_step_by sheet terms accepted is = let p = passed sheet accepted in can_step sheet p.0 p.1 terms is

pub returns-in-Err : goal.returns-in-Err
returns-in-Err c =
    let refused = refuses_as (sheet_verdict c.args.sheet.now) c.in-Err.ensures.whole in
    step_promised c.args.sheet.now c.args.start.now (c.stopped.ensures ∙ ap (answered c.args.start.now) (sym (step_of_refused c.args.sheet.now _ refused)))

pub gather-gathered-requires : goal.gather-gathered-requires
gather-gathered-requires c = can_gather c.args.sheet.now (passed c.args.sheet.now c.in_default.ensures.whole).1

-- the same of the slice that holds them
slice_is : (sheet : Sheet) (terms : Terms) {slice : List Term} {u : Unit {0}} → Ok u ≡ verdict_outcome (sheet_verdict sheet) → listed terms ≡ gathered (listed sheet.terms) → (terms.count ≤ most_terms → slice ≡ listed terms) → slice ≡ listed terms
slice_is sheet terms accepted is same = same (few_listed terms (can_step_by sheet terms accepted is).bounds.summable)

slice_can : (sheet : Sheet) (terms : Terms) {slice : List Term} {u : Unit {0}} → Ok u ≡ verdict_outcome (sheet_verdict sheet) → listed terms ≡ gathered (listed sheet.terms) → (terms.count ≤ most_terms → slice ≡ listed terms) → CanStep sheet.head slice
slice_can sheet terms accepted is same = rw (slice_is sheet terms accepted is same) (can_step_by sheet terms accepted is)

pub sums_of-sums-requires : goal.sums_of-sums-requires
sums_of-sums-requires c =
    let can = slice_can c.args.sheet.now c.gather-gathered.result c.in_default.ensures.whole c.gather-gathered.ensures c.listed-terms.ensures in
    record { n_le_most_quantities = can.room; summable = can.bounds.summable }

pub take_step-requires : goal.take_step-requires
take_step-requires c =
    record {
      can_step = slice_can c.args.sheet.now c.gather-gathered.result c.in_default.ensures.whole c.gather-gathered.ensures c.listed-terms.ensures;
      sums_of = c.sums_of-sums.ensures;
      usable_before = blank_usable _ _ c.new-table.ensures;
    }

pub returns : goal.returns
unfolding terms_of
returns c =
    step_promised c.args.sheet.now c.args.start.now (rw (step_of_passing c.args.sheet.now _ (passed c.args.sheet.now c.in_default.ensures.whole).1, ← c.gather-gathered.ensures, ← (slice_is c.args.sheet.now c.gather-gathered.result c.in_default.ensures.whole c.gather-gathered.ensures c.listed-terms.ensures)) c.take_step.ensures.stepped)
