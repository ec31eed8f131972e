-- Texts one after another, one more at a time.
use Prim.Native.Nat.{ℕ}
use mathlib.Core.Path.{◌≡◌, sym, ap, ◌∙◌}
use mathlib.Core.List.{List, [], ◌∷◌, ◌++◌, flatten, append-nil, append_assoc}
use Rattle.ranges.specs.Range.{tabulate}
use Rattle.printing.proofs.Pieces.{Grows}

flatten_more : (pieces : List (List ℕ)) (piece : List ℕ) → flatten (pieces ++ (piece ∷ [])) ≡ flatten pieces ++ piece
unfolding flatten
flatten_more [] piece = append-nil piece
flatten_more (first ∷ pieces) piece =
    ap (λ (rest : List ℕ). first ++ rest) (flatten_more pieces piece) ∙ sym (append_assoc first (flatten pieces) piece)

pub pieces_grow : (piece : ℕ → List ℕ) → Grows (λ i. flatten (tabulate i piece)) piece
unfolding tabulate
pieces_grow piece i = flatten_more (tabulate i piece) (piece i)
