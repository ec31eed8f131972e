-- What the loop of `sums_of` keeps: the targets passed have their sums.
use mathlib.Core.Path.{◌≡◌}
use lib.ListN.{length}
use Rattle.model.specs.Sheet.{most_quantities}
use Rattle.ratio.specs.Ratio.{SumsOf}
use Rattle.ratio.proofs.sizes.sums_of.Given as goal

abbrev pub invariant-loop-i : goal.invariant-loop-i
invariant-loop-i l = (length l.sums ≡ most_quantities) × SumsOf l.terms l.i l.sums
