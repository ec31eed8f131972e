-- `conversion::put_parts` meets its contract: by question 4 the two sheets, or refusal 6.
use Prim.Native.Nat.{ℕ, suc, ◌≤◌}
use mathlib.Core.Bool.{Bool, true, false}
use mathlib.Core.List.{List}
use mathlib.Core.Path.{◌≡◌, sym, ap, ◌∙◌}
use native.Mathlib.Omega.{arith}
use borrow.Author.Rules.{rules}
use Rattle.ranges.specs.Range.{bytes}
use Rattle.model.specs.Sheet.{most_quantities, most_steps, stored_steps, refused_step, refused_at}
use Rattle.model.specs.Passage.{small}
use Rattle.model.specs.Rows.{balls_of}
use Rattle.stored.specs.Conversion.{sheet_text, first_part, second_part, parts_text}
use Rattle.model.specs.declared.Ball.{Ball}
use Rattle.model.specs.declared.Sheet.{Sheet}
use Rattle.model.specs.declared.Refusal.TheVariants.{TooLarge}
use Rattle.laws.proofs.Passages.RowPlaces.{length_balls}
use Rattle.printing.specs.Pieces.{Put}
use Rattle.printing.proofs.Pieces.{put_then, put_same}
use Rattle.taylor.proofs.Answers.{front_is}
use lib.ListN.{length, take}
use Rattle.stored.proofs.Conversion.{first_passes, second_passes}
use Rattle.laws.proofs.Text.Verdicts.{few_in_sheet as few}
use Rattle.conversion.proofs.Converted.{parts_refused, parts_printed, length_refused}
use Rattle.conversion.proofs.put_parts.Goals as goal

-- the first sheet, the line feed and the second are the two parts
put_all : (sheet : Sheet) (balls : List Ball) {first second : Sheet} {text one two three : List ℕ} {i j k : ℕ} → small balls ≡ true → first ≡ first_part most_steps sheet → second ≡ second_part most_steps sheet balls → Put text 0 (sheet_text first) i one → Put one i (bytes "\n") j two → Put two j (sheet_text second) k three → Put text 0 (parts_text most_steps sheet balls) k three
put_all sheet balls is_small first second p q r =
    put_same (sym (parts_printed sheet balls is_small)) (put_then (put_then (rw first at p) q) (rw second at r))

-- question 4 of the front of the balls' array is that of the balls
asked : (n : ℕ) (balls : List Ball) {b : Bool} → length balls ≡ most_quantities → n ≤ most_quantities → b ≡ small (take n balls) → small (balls_of n balls) ≡ b
asked n balls whole few e = ap small (front_is n balls (omega (arith, whole))) ∙ sym e

pub shared_ref_as_front-small : goal.shared_ref_as_front-small
shared_ref_as_front-small c = few stored_steps c.args.sheet.now c.requires.sheet_value

pub put_outcome-requires : goal.put_outcome-requires
unfolding refused_step
put_outcome-requires c = record { outcome_bound = omega arith; at_bound = omega arith }

pub returns-then-not-small : goal.returns-then-not-small
unfolding refused_step
returns-then-not-small c =
    let balls = balls_of c.args.sheet.now.head.n c.args.balls.now in
    let put = c.put_outcome.ensures in
    let large : small balls ≡ false = asked _ _ (search rules) (few stored_steps c.args.sheet.now c.requires.sheet_value) c.small.ensures ∙ c.if-not-small.true in
    record {
      put = put_same (sym (parts_refused c.args.sheet.now balls large)) put;
      bounded = omega (arith, put.counted, length_refused (refused_at TooLarge (suc most_steps)) (omega arith));
    }

pub put_sheet-first-requires-clause-sheet_value : goal.put_sheet-first-requires-clause-sheet_value
put_sheet-first-requires-clause-sheet_value c =
    rw c.first_part.ensures (first_passes stored_steps stored_steps most_steps c.args.sheet.now c.requires.sheet_value (omega arith) (omega arith))

pub second_part-requires-clause-n_le_most_quantities : goal.second_part-requires-clause-n_le_most_quantities
second_part-requires-clause-n_le_most_quantities c = few stored_steps c.args.sheet.now c.requires.sheet_value

pub put_sheet-requires-clause-sheet_value : goal.put_sheet-requires-clause-sheet_value
put_sheet-requires-clause-sheet_value c =
    let balls = balls_of c.args.sheet.now.head.n c.args.balls.now in
    let is_small : small balls ≡ true = asked _ _ (search rules) (few stored_steps c.args.sheet.now c.requires.sheet_value) c.small.ensures ∙ c.if-not-small.false in
    rw c.second_part.ensures (second_passes stored_steps stored_steps most_steps c.args.sheet.now c.requires.sheet_value balls c.requires.most_steps_lt_steps (omega arith) (length_balls _ _) is_small)

pub returns-clause-put : goal.returns-clause-put
unfolding bytes
returns-clause-put c =
    let balls = balls_of c.args.sheet.now.head.n c.args.balls.now in
    let is_small : small balls ≡ true = asked _ _ (search rules) (few stored_steps c.args.sheet.now c.requires.sheet_value) c.small.ensures ∙ c.if-not-small.false in
    put_all c.args.sheet.now balls is_small c.first_part.ensures c.second_part.ensures c.put_sheet-first.ensures.put c.put_front-parted.ensures c.put_sheet.ensures.put
