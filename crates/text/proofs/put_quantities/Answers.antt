-- `text::put_quantities` meets its contract.
use Prim.Native.Nat.{ℕ, ◌+◌, ◌<◌}
use mathlib.Core.Path.{◌≡◌, sym, ap, ap₂, ◌∙◌}
use mathlib.Core.List.{List, ◌++◌, append-nil}
use native.Mathlib.Omega.{arith}
use lib.IntN.{pos}
use lib.ListN.{length, get_or}
use Rattle.ranges.specs.Range.{tabulate}
use Rattle.model.specs.Step.{no_ball, no_span}
use Rattle.model.specs.Answer.{printed, quantities_text}
use Rattle.model.specs.declared.Ball.{Ball}
use Rattle.model.specs.declared.Span.{Span}
use Rattle.rows.specs.View.{row_of}
use Rattle.rows.specs.declared.view.Row.{Row}
use Rattle.printing.proofs.Pieces.{added_then, added_turn}
use Rattle.printing.proofs.Lines.{quantity_lines, quantities_grow}
use Rattle.laws.proofs.Passages.RowRead.{length_row_balls, length_row_spans, all_balls, all_spans}
use Rattle.text.proofs.put_quantities.Invariants.{first}
use Rattle.text.proofs.put_quantities.Goals as goal

-- each of the n quantities of a row is there
ball_held : (row : Row) {i : ℕ} → i < row.n → i < length (row_of row).balls
ball_held row h = rw (length_row_balls row.n row.places.now 0) h

span_held : (row : Row) {i : ℕ} → i < row.n → i < length (row_of row).spans
span_held row h = rw (length_row_spans row.n row.places.now 0) h

-- the lines of the next one
ball_then_span : (before : List ℕ) (ball : Ball) (span : Span) {balls both : List ℕ} → balls ≡ before ++ (printed "value" ball.value ++ printed "radius" (pos ball.radius)) → both ≡ balls ++ (printed "low" span.low ++ printed "high" span.high) → both ≡ before ++ quantity_lines ball span
ball_then_span before ball span e f = added_then before _ _ e f

next : (before : List ℕ) (row : Row) (i : ℕ) {now after : List ℕ} → now ≡ before ++ first (row_of row) i → after ≡ now ++ quantity_lines (get_or (row_of row).balls i no_ball) (get_or (row_of row).spans i no_span) → after ≡ before ++ first (row_of row) (i + 1)
next before row i e f =
    added_turn (first (row_of row)) _ (quantities_grow (λ k. get_or (row_of row).balls k no_ball) (λ k. get_or (row_of row).spans k no_span)) before i e f

-- those of the first n are all
all_first : (row : Row) {i : ℕ} → i ≡ row.n → first (row_of row) i ≡ quantities_text (row_of row).balls (row_of row).spans
all_first row e =
    ap (first (row_of row)) e ∙ ap₂ quantities_text (all_balls row.n row.places.now 0) (all_spans row.n row.places.now 0)

pub loop-i-init : goal.loop-i-init
unfolding tabulate quantities_text
loop-i-init c = record { put = sym (append-nil _); bounded = omega arith }

pub put_ball-requires-clause-value_bound : goal.put_ball-requires-clause-value_bound
put_ball-requires-clause-value_bound c =
    rw c.ball.ensures (c.requires.printable.values c.loop-i.i (ball_held c.args.row (omega arith)))

pub put_ball-requires-clause-radius_le_most : goal.put_ball-requires-clause-radius_le_most
put_ball-requires-clause-radius_le_most c =
    rw c.ball.ensures (c.requires.printable.radii c.loop-i.i (ball_held c.args.row (omega arith)))

pub put_ball-requires-clause-value_digits_in_bounds : goal.put_ball-requires-clause-value_digits_in_bounds
put_ball-requires-clause-value_digits_in_bounds c = omega (arith, c.requires.value_digits_in_bounds, c.loop-i.invariant.bounded)

pub put_span-requires-clause-low_bound : goal.put_span-requires-clause-low_bound
put_span-requires-clause-low_bound c =
    rw c.span.ensures (c.requires.printable.lows c.loop-i.i (span_held c.args.row (omega arith)))

pub put_span-requires-clause-high_bound : goal.put_span-requires-clause-high_bound
put_span-requires-clause-high_bound c =
    rw c.span.ensures (c.requires.printable.highs c.loop-i.i (span_held c.args.row (omega arith)))

pub put_span-requires-clause-most_span_lines_in_bounds : goal.put_span-requires-clause-most_span_lines_in_bounds
put_span-requires-clause-most_span_lines_in_bounds c =
    omega (arith, c.requires.value_digits_in_bounds, c.loop-i.invariant.bounded, c.put_ball.ensures.bounded)

pub loop-i-preserved : goal.loop-i-preserved
loop-i-preserved c =
    record {
      put = next _ c.args.row c.loop-i.i c.loop-i.invariant.put (rw (c.ball.ensures, c.span.ensures) at (ball_then_span _ c.ball.result c.span.result c.put_ball.ensures.put c.put_span.ensures.put));
      bounded = omega (arith, c.loop-i.invariant.bounded, c.put_ball.ensures.bounded, c.put_span.ensures.bounded);
    }

pub returns : goal.returns
returns c =
    let all = all_first c.args.row {i = c.loop-i.i} (omega arith) in
    record { put = c.loop-i.invariant.put ∙ ap (λ (text : List ℕ). c.args.lines.now ++ text) all; bounded = omega (arith, c.loop-i.invariant.bounded) }
