-- `rows::view::Rows::row` meets its contract.
use native.Mathlib.Omega.{arith}
use Rattle.rows.proofs.Places.{has_row}
use Rattle.rows.proofs.view.Rows.row.Goals as goal

pub at-requires : goal.at-requires
at-requires c = has_row _ (omega (arith, c.requires)) c.args.self.held
