-- `products::share` meets its contract. It is the definition, one call for each part.
use Prim.Native.Nat.{ℕ, ◌*◌, ◌^◌, ◌<◌}
use mathlib.Core.Path.{◌≡◌}
use lib.IntN.{ℤ, nat_abs}
use borrow.Author.Rules.{rules}
use mir.Syntax.{w64}
use mir.Val.{SFits, to_z, of_z}
use mir.Facts.{to_z-of_z}
use Rattle.model.specs.Step.{reach, products, times, share}
use Rattle.model.specs.declared.Ball.{Ball}
use Rattle.model.specs.declared.Term.{Term}
use Rattle.products.specs.declared.table.Table.{Table}
use Rattle.products.specs.Table.{table_in, ShareFits}
use Rattle.products.proofs.share.Goals as goal

-- what the calls give, and what they ask, of the numbers themselves and not of their bits
module _ {H : ℤ} {k : ℕ} {term : Term} {table : Table} (asked : ShareFits H k term table) (step_fits : SFits w64 H) {sums : Ball} (formed : sums ≡ products (table_in k table) k term.first term.second) where
  step_handed : nat_abs (to_z w64 (of_z w64 H)) * reach sums < 2 ^ 63
  step_handed = rw (to_z-of_z step_fits, formed) asked.step_fits

  module _ (coef_fits : SFits w64 term.coef) {ball : Ball} (stepped : ball ≡ times (to_z w64 (of_z w64 H)) sums) where
    coef_handed : nat_abs (to_z w64 (of_z w64 term.coef)) * reach ball < 2 ^ 63
    coef_handed = rw (to_z-of_z coef_fits, stepped, to_z-of_z step_fits, formed) asked.coef_fits

    share_is : {result : Ball} → result ≡ times (to_z w64 (of_z w64 term.coef)) ball → result ≡ share H (table_in k table) k term
    unfolding share
    share_is e = rw (to_z-of_z coef_fits, stepped, to_z-of_z step_fits, formed) at e

pub returns : goal.returns
returns c =
    share_is c.requires c.ranges.step c.products-sums.ensures (search rules) c.times.ensures c.times-2.ensures
