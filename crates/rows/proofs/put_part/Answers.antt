-- `rows::put_part` meets its contract.
use Prim.Native.Nat.{ℕ, ◌+◌, ◌-◌, ◌≤◌}
use mathlib.Core.List.{List}
use mathlib.Core.Path.{◌≡◌, sym}
use native.Mathlib.Omega.{arith}
use lib.ListN.{length, take}
use lib.Seq.{sets}
use borrow.Rule.Slice.PartMut.{put_mid, Post-is}
use Rattle.std.proofs.Common.{append_assoc}
use Rattle.std.proofs.lemmas.List.Edits.{sets-eq}
use Rattle.rows.proofs.put_part.Goals as goal

-- a list in the place of as many numbers of another is stored there
stored : {A : Type 0} (buffer : List A) (at : ℕ) (numbers : List A) {put : List A} → put ≡ numbers → at + length numbers ≤ length buffer → put_mid at (at + length numbers - at) buffer put ≡ sets buffer at numbers
stored buffer at numbers e room =
    rw (e, Post-is at (at + length numbers) buffer (omega arith), sets-eq numbers buffer at room) (sym (append_assoc (take at buffer) numbers _))

pub returns : goal.returns
returns c = stored c.args.rows.now c.args.at c.args.numbers.now c.copy_from_slice.ensures.after c.requires
