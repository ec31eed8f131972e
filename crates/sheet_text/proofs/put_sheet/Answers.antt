-- `sheet_text::put_sheet` meets its contract: the lines in a buffer of their own, and from there into the text.
use mathlib.Core.Path.{◌≡◌, ap, ◌∙◌}
use mathlib.Core.List.{List, [], ◌++◌}
use Prim.Native.Nat.{ℕ}
use native.Mathlib.Omega.{arith}
use lib.ListN.{length}
use Rattle.printing.proofs.Pieces.{put_same}
use Rattle.sheet_text.proofs.put_sheet.Goals as goal

-- what is put behind nothing is what stands there
alone : (text : List ℕ) {none lines shown : List ℕ} → none ≡ [] → lines ≡ none ++ text → shown ≡ lines → shown ≡ text
alone text e put shown = shown ∙ put ∙ ap (λ (none : List ℕ). none ++ text) e

pub returns : goal.returns
returns c =
    let lines = alone _ c.new-lines.ensures c.put_lines.ensures.put c.as_slice.ensures in
    record { put = put_same lines c.put_front.ensures; bounded = omega (arith, c.put_front.ensures.counted, c.put_lines.ensures.bounded, ap length c.new-lines.ensures, ap length c.as_slice.ensures) }
