-- `conversion::planner_convert` meets its contract: a refused sheet, a short one, and one of more steps.
use native.Mathlib.Omega.{arith}
use lib.ListN.{length}
use Rattle.printing.proofs.Pieces.{put_same, put_printed}
use Rattle.conversion.proofs.Converted.{length_refused, refused_printed, refused_unwritten, refused_early, read_passes, read_fits, short_printed, short_unwritten, long_printed, long_written, split_leaves, lent_comes_out}
use Rattle.conversion.proofs.planner_convert.Goals as goal

pub put_outcome-requires : goal.put_outcome-requires
put_outcome-requires c =
    record { outcome_bound = refused_early c.args.sheet.now c.read-reading.ensures.whole c.args.rows.now c.in-Err.is; at_bound = omega arith }

pub returns-in-Err : goal.returns-in-Err
returns-in-Err c =
    let sheet = c.args.sheet.now in
    let rows = c.args.rows.now in
    let is = c.read-reading.ensures.whole in
    let refused = c.in-Err.is in
    let put = c.put_outcome.ensures in
    record {
      printed = put_printed (put_same (refused_printed sheet is rows refused) put);
      bounded = omega (arith, put.counted, length_refused _ (refused_early sheet is rows refused));
      leaves = split_leaves sheet rows (refused_unwritten sheet is rows refused);
      comes_out = lent_comes_out (length rows) sheet;
    }

pub returns-then-reading-le-MOST_STEPS : goal.returns-then-reading-le-MOST_STEPS
returns-then-reading-le-MOST_STEPS c =
    let sheet = c.args.sheet.now in
    let rows = c.args.rows.now in
    let is = c.read-reading.ensures.whole in
    let accepted = c.in_default.is in
    let short = c.if-reading-le-MOST_STEPS.true in
    let put = c.put_front.ensures in
    record {
      printed = put_printed (put_same (short_printed sheet is rows accepted (omega (arith, short))) put);
      bounded = omega (arith, put.counted, read_fits sheet is rows accepted);
      leaves = split_leaves sheet rows (short_unwritten sheet is rows accepted (omega (arith, short)));
      comes_out = lent_comes_out (length rows) sheet;
    }

pub split-requires : goal.split-requires
split-requires c =
    record {
      sheet_value = read_passes c.args.sheet.now c.read-reading.ensures.whole c.args.rows.now c.in_default.is;
      most_steps_lt_steps = c.if-reading-le-MOST_STEPS.false;
    }

pub returns : goal.returns
returns c =
    let sheet = c.args.sheet.now in
    let rows = c.args.rows.now in
    let is = c.read-reading.ensures.whole in
    let accepted = c.in_default.is in
    let long = c.if-reading-le-MOST_STEPS.false in
    let put = c.split.ensures in
    record {
      printed = put_printed (put_same (long_printed sheet is rows accepted long) put.put);
      bounded = put.bounded;
      leaves = split_leaves sheet rows (long_written sheet is rows accepted long put.written);
      comes_out = lent_comes_out (length rows) sheet;
    }
