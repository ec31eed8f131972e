-- `rows::view::Row::span` meets its contract.
use Prim.Native.Nat.{ℕ, ◌<◌}
use mathlib.Core.List.{List}
use mathlib.Core.Path.{◌≡◌}
use borrow.Author.Rules.{rules}
use lib.IntN.{ℤ, pos}
use lib.ListN.{get_or}
use mir.Syntax.{w64}
use mir.Facts.{to_z-of_z}
use Rattle.model.specs.Step.{no_span}
use Rattle.model.specs.Rows.{lows_part, highs_part, row_in}
use Rattle.rows.specs.View.{part_in}
use Rattle.rows.proofs.Views.{span_read}
use Rattle.rows.proofs.view.Row.span.Goals as goal

-- the low out of the lows, and the high out of the highs
read : (n : ℕ) (places : List ℤ) (i : ℕ) → i < n → {lows highs : List ℤ} → lows ≡ part_in n places 0 lows_part → highs ≡ part_in n places 0 highs_part → {low high : ℤ} → low ≡ get_or lows i (pos 0) → high ≡ get_or highs i (pos 0) → record { low = low; high = high } ≡ get_or (row_in n places 0).spans i no_span
read n places i h l g low high = rw (low, high, l, g) (span_read n places i h)

pub returns : goal.returns
returns c =
    read c.args.self.n c.args.self.places.now c.args.i c.requires c.part.ensures.numbers c.part-2.ensures.numbers (to_z-of_z {w = w64} (search rules)) (to_z-of_z {w = w64} (search rules))
