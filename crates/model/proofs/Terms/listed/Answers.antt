-- The front of the array is the terms that are counted.
use Prim.Native.Nat.{ℕ, ◌≤◌, min}
use borrow.Author.Rules.{rules}
use mathlib.Core.Path.{◌≡◌, sym, ap, ◌∙◌}
use native.Mathlib.Omega.{arith}
use lib.ListN.{length, take}
use Rattle.ranges.proofs.Ranges.{tabulate_front}
use Rattle.model.specs.Sheet.{most_terms, listed, no_term}
use Rattle.model.specs.declared.Terms.{Terms}
use Rattle.model.proofs.Terms.listed.Goals as goal

front : (terms : Terms) {n : ℕ} → length terms.list ≡ most_terms → n ≡ min terms.count most_terms → terms.count ≤ most_terms → take n terms.list ≡ listed terms
unfolding listed
front terms {n} whole is few =
    let all : n ≡ terms.count = omega arith in
    ap (λ (k : ℕ). take k terms.list) all ∙ sym (tabulate_front terms.count no_term terms.list (omega (arith, whole)))

pub returns : goal.returns
returns c = λ few. front c.args.self.now (search rules) c.min.ensures few
