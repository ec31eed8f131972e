-- `rows::part_place` meets its contract.
use Prim.Native.Nat.{ℕ, ◌^◌, ◌<◌}
use native.Mathlib.Omega.{arith}
use Rattle.model.specs.Rows.{part_place}
use Rattle.rows.specs.Room.{part_number, HasPlace}
use Rattle.rows.specs.declared.view.Part.{Part}
use Rattle.rows.proofs.Places.{part_fits}
use Rattle.rows.proofs.Views.{number_lt}
use Rattle.rows.proofs.part_place.Goals as goal

-- the place can be counted
counted : {n j i : ℕ} (part : Part) → HasPlace n j i → part_place n j (part_number part) i < 2 ^ 64
counted {n} {j} part held = omega (arith, held.quantity, held.counted, part_fits n j (part_number part) (number_lt part))

pub overflow_add-result : goal.overflow_add-result
overflow_add-result c = rw c.width.ensures (omega (arith, counted c.args.part c.requires))

pub overflow_add-result-2 : goal.overflow_add-result-2
overflow_add-result-2 c = rw (c.width.ensures, c.number.ensures) (omega (arith, counted c.args.part c.requires))

pub overflow_add-result-3 : goal.overflow_add-result-3
overflow_add-result-3 c = rw (c.width.ensures, c.number.ensures) (omega (arith, counted c.args.part c.requires))
