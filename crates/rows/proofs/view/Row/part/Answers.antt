-- `rows::view::Row::part` meets its contract.
use Prim.Native.Nat.{◌+◌, ◌*◌, ◌≤◌}
use native.Mathlib.Omega.{arith}
use borrow.Author.Rules.{rules}
use lib.ListN.{length}
use Rattle.rows.specs.Room.{part_number}
use Rattle.rows.proofs.Places.{part_fits}
use Rattle.rows.proofs.Views.{number_lt, part_taken}
use Rattle.rows.proofs.view.Row.part.Goals as goal

pub slice_bounds-result-end : goal.slice_bounds-result-end
slice_bounds-result-end c =
    let room : 1 + c.number.result * c.args.self.n + c.args.self.n ≤ length c.args.self.places.now = rw c.number.ensures (omega (arith, c.args.self.whole, part_fits c.args.self.n 0 (part_number c.args.part) (number_lt c.args.part))) in
    search rules

pub returns-clause-numbers : goal.returns-clause-numbers
returns-clause-numbers c = rw c.number.ensures (part_taken c.args.self.n (part_number c.args.part) c.args.self.places.now (omega arith) (omega (arith, c.args.self.whole, part_fits c.args.self.n 0 (part_number c.args.part) (number_lt c.args.part))))
