-- `verdict::verdict` meets its contract: the parts of the sheet's verdict, one after the other.
use Prim.Native.Nat.{ℕ}
use mathlib.Core.List.{List}
use mathlib.Core.Path.{◌≡◌, ap, ◌∙◌}
use lib.ListN.{length, take}
use native.Mathlib.Omega.{arith}
use Rattle.std.proofs.lemmas.List.{get_or-take}
use Rattle.model.specs.Sheet.{Outcome, most_steps, verdict_outcome, quantity_verdict, quantities_verdict, sheet_verdict_to, sheet_verdict, no_quantity}
use Rattle.model.specs.declared.Quantity.{Quantity}
use Rattle.laws.proofs.Text.Verdicts.{few_quantities, in_order_equal}
use Rattle.verdict.proofs.Outcomes.{passes_as, refused_first, passed_first, verdict_numbered}
use Rattle.verdict.proofs.verdict.Goals as goal

-- the first n quantities alone are looked at
first_alone : (n : ℕ) (quantities : List Quantity) {o : Outcome} → length (take n quantities) ≡ n → o ≡ verdict_outcome (quantities_verdict (length (take n quantities)) (take n quantities)) → o ≡ verdict_outcome (quantities_verdict n quantities)
unfolding quantities_verdict
first_alone n quantities long e =
    (rw long at e) ∙ ap verdict_outcome (in_order_equal n _ _ (λ i l. ap quantity_verdict (get_or-take n quantities i no_quantity l)))

pub returns-in_err-head_verdict-clause-whole : goal.returns-in_err-head_verdict-clause-whole
unfolding sheet_verdict_to
returns-in_err-head_verdict-clause-whole c = refused_first _ _ c.in_err-head_verdict.ensures c.from_residual.ensures.1

pub returns-in_err-head_verdict-clause-numbered : goal.returns-in_err-head_verdict-clause-numbered
returns-in_err-head_verdict-clause-numbered c = verdict_numbered (sheet_verdict c.args.sheet.now) (returns-in_err-head_verdict-clause-whole c)

pub shared_ref_as_front-quantities_verdict : goal.shared_ref_as_front-quantities_verdict
shared_ref_as_front-quantities_verdict c = omega (arith, few_quantities most_steps _ (passes_as _ c.in_ok-head_verdict.ensures))

pub returns-in_err-quantities_verdict-clause-whole : goal.returns-in_err-quantities_verdict-clause-whole
unfolding sheet_verdict_to
returns-in_err-quantities_verdict-clause-whole c =
    let sheet = c.args.sheet.now in
    let refused = first_alone sheet.head.n sheet.quantities (omega arith) c.in_err-quantities_verdict.ensures in
    passed_first _ _ c.in_ok-head_verdict.ensures (refused_first _ _ refused c.from_residual-in_err-quantities_verdict.ensures.1)

pub returns-in_err-quantities_verdict-clause-numbered : goal.returns-in_err-quantities_verdict-clause-numbered
returns-in_err-quantities_verdict-clause-numbered c = verdict_numbered (sheet_verdict c.args.sheet.now) (returns-in_err-quantities_verdict-clause-whole c)

pub terms_verdict-requires : goal.terms_verdict-requires
terms_verdict-requires c = few_quantities most_steps _ (passes_as _ c.in_ok-head_verdict.ensures)

pub returns-clause-whole : goal.returns-clause-whole
unfolding sheet_verdict_to
returns-clause-whole c =
    let sheet = c.args.sheet.now in
    let passed = first_alone sheet.head.n sheet.quantities (omega arith) c.in_ok-quantities_verdict.ensures in
    passed_first _ _ c.in_ok-head_verdict.ensures (passed_first _ _ passed c.terms_verdict.ensures)

pub returns-clause-numbered : goal.returns-clause-numbered
returns-clause-numbered c = verdict_numbered (sheet_verdict c.args.sheet.now) (returns-clause-whole c)
