-- What an accepted verdict gives the steps of a passage.
use Prim.Native.Nat.{ℕ}
use mathlib.Core.Path.{◌≡◌, sym, ap}
use native.Mathlib.Omega.{arith}
use Rattle.model.specs.Sheet.{scale, most_steps, passes, Verdict, refuses, sheet_verdict, verdict_outcome, listed, terms_of}
use Rattle.model.specs.LikeTerms.{gathered}
use Rattle.laws.specs.Bounds.{Summable}
use Rattle.model.specs.declared.Sheet.{Sheet}
use Rattle.model.specs.declared.Terms.{Terms}
use Rattle.model.specs.declared.Refused.{Refused}
use Rattle.std.specs.Prelude.{Ok, Err}
use Rattle.model.proofs.Outcomes.{same_refusal}
use Rattle.laws.proofs.Bounds.SheetBounds.{Counts, counts_of_sheet, bounds_of_sheet}
use Rattle.laws.proofs.Gathering.GatheredBounds.{bounds_of_gathered}
use Rattle.taylor.specs.StepAnswers.{CanStep}
use Rattle.verdict.proofs.Outcomes.{passes_as}

-- the verdict passes where its outcome is not a refusal
pub passed : (sheet : Sheet) {u : Unit {0}} → Ok u ≡ verdict_outcome (sheet_verdict sheet) → Counts sheet × (sheet_verdict sheet ≡ passes)
passed sheet is = let p = passes_as (sheet_verdict sheet) is in (counts_of_sheet sheet p, p)

-- .. and refuses by the refusal where it is one
pub refuses_as : (v : Verdict) {refused : Refused} → Err refused ≡ verdict_outcome v → v ≡ refuses refused.refusal
unfolding verdict_outcome
refuses_as passes e = absurd (let z : ◌≡◌ {A = ℕ} 0 1 = cc in omega arith)
refuses_as (refuses r) e = ap refuses (sym (same_refusal e))

-- what each of its steps asks
pub can_step : (sheet : Sheet) → Counts sheet → sheet_verdict sheet ≡ passes → (terms : Terms) → listed terms ≡ gathered (listed sheet.terms) → CanStep sheet.head (listed terms)
unfolding terms_of scale
can_step sheet counts p terms is =
    record {
      bounds = rw is (bounds_of_gathered most_steps sheet p);
      room = counts.n_high;
      tail_low = counts.tail_low;
      tail_high = omega (arith, counts.tail_high);
    }

-- and what gathering asks
pub can_gather : (sheet : Sheet) → sheet_verdict sheet ≡ passes → Summable (listed sheet.terms)
unfolding terms_of
can_gather sheet p = (bounds_of_sheet most_steps sheet p).summable
