-- `conversion::split` meets its contract: the first part's refusal, or the two parts by its last row.
use mathlib.Core.List.{List}
use mathlib.Core.Path.{◌≡◌, ap, ◌∙◌}
use native.Mathlib.Omega.{arith}
use lib.IntN.{ℤ}
use lib.ListN.{length}
use Rattle.model.specs.declared.Sheet.{Sheet}
use Rattle.model.specs.Passage.{passage}
use Rattle.model.specs.Rows.{laid_out, written}
use Rattle.model.specs.Step.{Row}
use Rattle.model.specs.Sheet.{stored_steps, Outcome}
use Rattle.printing.proofs.Pieces.{put_same}
use Rattle.laws.proofs.Text.Verdicts.{few_in_sheet as few}
use Rattle.laws.proofs.Passages.LaidOut.{row_laid_out}
use Rattle.laws.proofs.Passages.UnderWay.{RunInto}
use Rattle.conversion.proofs.Converted.{kept_written, kept_early, kept_refused, kept_last, kept_accepted, length_refused}
use Rattle.conversion.proofs.split.Goals as goal

-- the run of the first part, into the rows
ran_into : (first : Sheet) (before : List ℤ) {after : List ℤ} {outcome : Outcome} → outcome ≡ (passage first (length before)).outcome → after ≡ written (passage first (length before)).rows before → RunInto (passage first (length before)) before after outcome
ran_into first before e f = (e, f)

pub put_outcome-requires : goal.put_outcome-requires
put_outcome-requires c =
    let ran = ran_into c.first_part.result c.args.rows.now c.run-outcome.ensures.ended c.run-outcome.ensures.leaves.buffer in
    record { outcome_bound = kept_early c.args.sheet.now c.first_part.ensures c.args.rows.now ran; at_bound = omega arith }

pub returns-in-Err : goal.returns-in-Err
returns-in-Err c =
    let sheet = c.args.sheet.now in
    let is = c.first_part.ensures in
    let rows = c.args.rows.now in
    let ran = ran_into c.first_part.result c.args.rows.now c.run-outcome.ensures.ended c.run-outcome.ensures.leaves.buffer in
    let put = c.put_outcome.ensures in
    record {
      put = put_same (kept_refused sheet is rows ran c.in-Err.is) put;
      written = kept_written sheet is rows ran;
      bounded = omega (arith, put.counted, length_refused _ (kept_early sheet is rows ran));
    }

pub at-last-requires : goal.at-last-requires
at-last-requires c =
    let ran = ran_into c.first_part.result c.args.rows.now c.run-outcome.ensures.ended c.run-outcome.ensures.leaves.buffer in
    kept_last c.args.sheet.now c.first_part.ensures c.args.rows.now ran c.in_default.is (few stored_steps c.args.sheet.now c.requires.sheet_value)

pub returns : goal.returns
returns c =
    let sheet = c.args.sheet.now in
    let is = c.first_part.ensures in
    let rows = c.args.rows.now in
    let ran = ran_into c.first_part.result c.args.rows.now c.run-outcome.ensures.ended c.run-outcome.ensures.leaves.buffer in
    let put = c.put_parts.ensures in
    record {
      put = put_same (kept_accepted sheet is rows ran c.in_default.is (row_laid_out _ _ _ (c.balls_of.ensures ∙ ap (λ (row : Row). laid_out row.balls) c.at-last.ensures.row_is))) put.put;
      written = kept_written sheet is rows ran;
      bounded = put.bounded;
    }
