-- `decimal::put_front` meets its contract: all of the bytes, the front that fits, or none.
use Prim.Native.Nat.{◌+◌, ◌≤◌, ◌<◌}
use mathlib.Core.Logic.{⊎_elim}
use mathlib.Core.Path.{◌≡◌, refl}
use native.Mathlib.Numerals.{add-one}
use native.Mathlib.Omega.{arith}
use lib.ListN.{length}
use lib.Seq.{take_all, take-suc}
use Rattle.ranges.proofs.Ranges.{before_or_past}
use Rattle.printing.specs.Pieces.{Put}
use Rattle.printing.proofs.Pieces.{put_then, put_same, put_front}
use Rattle.decimal.proofs.put_front.Goals as goal

pub loop-i-preserved : goal.loop-i-preserved
loop-i-preserved c =
    rw (add-one c.loop-i.i, take-suc c.args.bytes.now c.loop-i.i 0 (omega arith)) (put_then c.loop-i.invariant (record { counted = omega arith; stored = refl }))

-- all bytes are put, or up to the text's end
pub returns : goal.returns
returns c = ⊎_elim cut whole (before_or_past c.loop-i.i (length c.args.bytes.now))
  where
    cut : c.loop-i.i < length c.args.bytes.now → Put c.args.text.now c.args.at c.args.bytes.now (c.args.at + length c.args.bytes.now) c.loop-i.text
    cut h = put_front c.loop-i.i (omega arith) (omega arith) c.loop-i.invariant

    whole : length c.args.bytes.now ≤ c.loop-i.i → Put c.args.text.now c.args.at c.args.bytes.now (c.args.at + length c.args.bytes.now) c.loop-i.text
    whole h = let all : c.loop-i.i ≡ length c.args.bytes.now = omega arith in rw all at (put_same (take_all c.loop-i.i c.args.bytes.now h) c.loop-i.invariant)
