-- `rows::view::Row::ball` meets its contract.
use Prim.Native.Nat.{ℕ, ◌<◌}
use mathlib.Core.List.{List}
use mathlib.Core.Path.{◌≡◌, ap, ◌∙◌}
use borrow.Author.Rules.{rules}
use lib.IntN.{ℤ, pos, nat_abs}
use lib.ListN.{get_or}
use mir.Syntax.{w64}
use mir.Facts.{to_z-of_z}
use Rattle.model.specs.Step.{no_ball}
use Rattle.model.specs.Rows.{values_part, radii_part, row_in}
use Rattle.rows.specs.View.{part_in}
use Rattle.rows.proofs.Views.{ball_read}
use Rattle.rows.proofs.view.Row.ball.Goals as goal

-- the value out of the values, and the radius out of the radii
read : (n : ℕ) (places : List ℤ) (i : ℕ) → i < n → {values radii : List ℤ} → values ≡ part_in n places 0 values_part → radii ≡ part_in n places 0 radii_part → {value : ℤ} {radius : ℕ} → value ≡ get_or values i (pos 0) → radius ≡ nat_abs (get_or radii i (pos 0)) → record { value = value; radius = radius } ≡ get_or (row_in n places 0).balls i no_ball
read n places i h v r value radius = rw (value, radius, v, r) (ball_read n places i h)

pub returns : goal.returns
returns c =
    read c.args.self.n c.args.self.places.now c.args.i c.requires c.part.ensures.numbers c.part-2.ensures.numbers (to_z-of_z {w = w64} (search rules)) (c.unsigned_abs.ensures.value ∙ ap nat_abs (to_z-of_z {w = w64} {z = get_or c.part-2.result.now c.args.i (pos 0)} (search rules)))
