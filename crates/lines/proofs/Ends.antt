-- The end of a text, whatever was read before it.
use Rattle.std.proofs.Common.{◌≡◌, ℕ, List, [], ◌∷◌, refl}
use Rattle.model.specs.declared.Refusal.{Refusal}
use Rattle.model.specs.Reading.{Parsed, parsed, fault, end}

module _ {A : Type 0} (a : A) where
  pub ends : (l : List ℕ) → ◌≡◌ {A = Parsed (Unit {0})} (parsed tt []) (end tt l) → end a l ≡ parsed a []
  unfolding end
  ends [] e = refl
  ends (b ∷ m) e = absurd cc

  pub goes_on : (l : List ℕ) {r : Refusal} → ◌≡◌ {A = Parsed (Unit {0})} (fault r) (end tt l) → end a l ≡ fault r
  unfolding end
  goes_on [] e = absurd cc
  goes_on (b ∷ m) e = cc
