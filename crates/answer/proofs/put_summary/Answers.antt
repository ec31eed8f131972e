-- `answer::put_summary` meets its contract: four stores make a list of four.
use Prim.Native.Nat.{ℕ}
use mathlib.Core.List.{List, [], ◌∷◌}
use mathlib.Core.Path.{◌≡◌, refl, ◌∙◌}
use native.Mathlib.Omega.{arith}
use lib.ListN.{length, set}
use Rattle.model.specs.Sheet.{result, refused_step}
use Rattle.answer.specs.declared.Ended.{Ended}
use Rattle.answer.specs.Answered.{summary_length, summary_of}
use Rattle.answer.proofs.put_summary.Goals as goal

four : (places : List ℕ) (a b c d : ℕ) → length places ≡ summary_length → set (set (set (set places 0 a) 1 b) 2 c) 3 d ≡ a ∷ b ∷ c ∷ d ∷ []
four [] a b c d e = absurd (omega arith)
four (_ ∷ []) a b c d e = absurd (omega arith)
four (_ ∷ _ ∷ []) a b c d e = absurd (omega arith)
four (_ ∷ _ ∷ _ ∷ []) a b c d e = absurd (omega arith)
four (_ ∷ _ ∷ _ ∷ _ ∷ []) a b c d e = refl
four (_ ∷ _ ∷ _ ∷ _ ∷ _ ∷ rest) a b c d e = absurd (omega arith)

stored : (places : List ℕ) (ended : Ended) {a b : ℕ} → length places ≡ summary_length → a ≡ result ended.outcome → b ≡ refused_step ended.outcome → set (set (set (set places 0 a) 1 b) 2 ended.n) 3 ended.count ≡ summary_of ended
unfolding summary_of
stored places ended {a} {b} l e f = four places a b ended.n ended.count l ∙ rw (e, f)

pub returns : goal.returns
returns c =
    stored c.args.summary.now c.args.ended c.requires c.result.ensures c.refused_step.ensures
