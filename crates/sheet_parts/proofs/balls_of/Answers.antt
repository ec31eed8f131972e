-- `sheet_parts::balls_of` meets its contract.
use Prim.Native.Nat.{ℕ}
use mathlib.Core.Path.{◌≡◌, refl, ap, ◌∙◌}
use native.Mathlib.Omega.{arith}
use lib.ListN.{replicate}
use lib.Seq.{sets}
use Rattle.ranges.specs.Range.{tabulate}
use Rattle.model.specs.Sheet.{most_quantities}
use Rattle.model.specs.Step.{no_ball}
use Rattle.model.specs.Rows.{laid_out}
use Rattle.rows.specs.View.{places_of}
use Rattle.ranges.proofs.Stores.{stored_in_front}
use Rattle.laws.proofs.Passages.RowRead.{ball_at, all_balls}
use Rattle.laws.proofs.Passages.LaidOut.{stored_laid_out}
use Rattle.sheet_parts.proofs.balls_of.Goals as goal

pub loop-i-init : goal.loop-i-init
unfolding tabulate no_ball
loop-i-init c = refl

pub loop-i-preserved : goal.loop-i-preserved
loop-i-preserved c =
    rw c.ball.ensures (stored_in_front _ c.loop-i.i (ball_at c.args.row.n (places_of c.args.row) 0) c.loop-i.invariant)

pub returns : goal.returns
returns c =
    let all : c.loop-i.i ≡ c.args.row.n = omega arith in
    let ball = ball_at c.args.row.n (places_of c.args.row) 0 in
    stored_laid_out c.args.row.n ball c.args.row.few (c.loop-i.invariant ∙ ap (λ (k : ℕ). sets (replicate most_quantities no_ball) 0 (tabulate k ball)) all)
    ∙ ap laid_out (all_balls c.args.row.n (places_of c.args.row) 0)
