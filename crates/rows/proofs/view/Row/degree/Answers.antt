-- `rows::view::Row::degree` meets its contract.
use native.Mathlib.Nat.{zero-mul}
use native.Mathlib.Omega.{arith}
use borrow.Author.Rules.{rules}
use lib.IntN.{pos}
use lib.ListN.{get_or}
use mir.Syntax.{w64}
use mir.Val.{SFits}
use mir.Facts.{to_z-of_z}
use Rattle.model.specs.Rows.{width, row_in}
use Rattle.rows.proofs.view.Row.degree.Goals as goal

pub bounds-self-0 : goal.bounds-self-0
unfolding width
bounds-self-0 c = omega (arith, c.args.self.whole)

pub returns : goal.returns
unfolding row_in
returns c =
    let degree : SFits w64 (get_or c.args.self.places.now 0 (pos 0)) = search rules in
    rw (c.unsigned_abs.ensures.value, to_z-of_z degree, zero-mul)
