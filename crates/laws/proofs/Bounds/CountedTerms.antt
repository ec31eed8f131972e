-- The terms that a record holds, by their places: how many, each, and a sum over them.
use Prim.Native.Nat.{ℕ, ◌≤◌, ◌<◌}
use mathlib.Core.Path.{◌≡◌, ap}
use lib.ListN.{length, get_or}
use Rattle.ranges.specs.Range.{sum}
use Rattle.model.specs.Sheet.{most_terms, no_term, listed}
use Rattle.laws.specs.Bounds.{Summable}
use Rattle.model.specs.declared.Term.{Term}
use Rattle.model.specs.declared.Terms.{Terms}
use Rattle.ranges.proofs.Ranges.{sum_equal, length_tabulate, get_or_tabulate}

module _ (terms : Terms) where
  pub length_listed : length (listed terms) ≡ terms.count
  unfolding listed
  length_listed = length_tabulate terms.count _

  -- terms that can be summed up are few
  pub few_listed : Summable (listed terms) → terms.count ≤ most_terms
  few_listed summable = rw length_listed at summable.count

  pub get_or_listed : (j : ℕ) → j < terms.count → get_or (listed terms) j no_term ≡ get_or terms.list j no_term
  unfolding listed
  get_or_listed j h = get_or_tabulate terms.count _ no_term j h

  pub sum_listed : (f : Term → ℕ) → sum (length (listed terms)) (λ j. f (get_or (listed terms) j no_term)) ≡ sum terms.count (λ j. f (get_or terms.list j no_term))
  sum_listed f =
      rw length_listed (sum_equal terms.count (λ j. f (get_or (listed terms) j no_term)) (λ j. f (get_or terms.list j no_term)) (λ j h. ap f (get_or_listed j h)))
