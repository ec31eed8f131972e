-- What the loop of `convolution` keeps.
use mathlib.Core.Path.{◌≡◌}
use Rattle.laws.proofs.Bounds.ShareBounds.{partial_products}
use Rattle.products.specs.Table.{table_in}
use Rattle.products.proofs.convolution.Given as goal

-- the sum of the products passed
abbrev pub invariant-loop-l : goal.invariant-loop-l
invariant-loop-l l = l.sum ≡ partial_products (table_in l.k l.table) l.k l.first l.second l.l
