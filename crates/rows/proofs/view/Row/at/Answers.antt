-- `rows::view::Row::at` meets its contract.
use Prim.Native.Nat.{ℕ, ◌+◌, ◌-◌, ◌*◌, ◌<◌}
use mathlib.Core.List.{List}
use mathlib.Core.Path.{◌≡◌, refl, ap, ◌∙◌}
use lib.IntN.{ℤ, pos}
use lib.ListN.{get_or, take, drop}
use Rattle.model.specs.Rows.{width, degree_place}
use Rattle.rows.proofs.Views.{places_taken, row_stands, part_stands}
use Rattle.rows.proofs.view.Row.at.Goals as goal

-- so many places from the row's first one on are the row's
stand : (n j : ℕ) (buffer : List ℤ) {at wide : ℕ} → at ≡ degree_place n j → wide ≡ width n → (k : ℕ) → k < width n → get_or (take (at + wide - at) (drop at buffer)) k (pos 0) ≡ get_or buffer (degree_place n j + k) (pos 0)
stand n j buffer {at} {wide} from long k h =
    places_taken buffer at wide k (rw long h) ∙ ap (λ (place : ℕ). get_or buffer (place + k) (pos 0)) from

pub returns : goal.returns
returns c =
    let from : c.args.row * c.width-wide.result ≡ degree_place c.args.n c.args.row = ap (λ (wide : ℕ). c.args.row * wide) c.width-wide.ensures in
    record {
      quantities = refl;
      row_is = row_stands c.args.n c.args.row c.args.rows.now _ (stand c.args.n c.args.row c.args.rows.now from c.width-wide.ensures);
      parts_are = part_stands c.args.n c.args.row c.args.rows.now _ (stand c.args.n c.args.row c.args.rows.now from c.width-wide.ensures);
    }
