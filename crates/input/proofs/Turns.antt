-- What a read came to: worked cases, and how many bytes are counted.
use Rattle.std.proofs.Common.{◌≡◌, ℕ, zero, suc, ◌≤◌, ◌<◌, min, true, false, [], ◌∷◌, map, refl, sym, ap, arith, Result, Ok, Err, Some, None}
use native.Mathlib.Nat.{min-le_right}
use Rattle.input.specs.Counted.{counted, readable, bytes_more, turn_of}

-- answers of reads with room for five bytes, and what an input came to
pub inputs_come_to :
    (map (λ got. turn_of {E = ℕ} got 5) (Err 1 ∷ Err 2 ∷ Ok 0 ∷ Ok 1 ∷ Ok 5 ∷ Ok 6 ∷ []) ≡ Err 1 ∷ Err 2 ∷ Ok None ∷ Ok (Some 1) ∷ Ok (Some 5) ∷ Ok (Some 5) ∷ [])
    × (map (counted {E = ℕ}) (Ok 5 ∷ Ok 0 ∷ Err 1 ∷ []) ≡ 5 ∷ 0 ∷ 0 ∷ [])
    × (map (readable {E = ℕ}) (Ok 5 ∷ Ok 0 ∷ Err 1 ∷ []) ≡ true ∷ true ∷ false ∷ [])
unfolding turn_of bytes_more counted readable
inputs_come_to = (refl, refl, refl)

-- no bytes are the end, and any others are so many more
pub end_is : (n : ℕ) → n ≡ 0 → None ≡ bytes_more n
unfolding bytes_more
end_is n e = sym (ap bytes_more e)

pub more_is : (n : ℕ) → (n ≡ 0 → ⊥) → Some n ≡ bytes_more n
unfolding bytes_more
more_is zero some = absurd (some refl)
more_is (suc n) some = refl

-- some bytes are counted, and no more than there was room for
pub more_fits : {E : Type 0} (got : Result ℕ E) (room : ℕ) {more : ℕ} → Ok (Some more) ≡ turn_of got room → (0 < more) × (more ≤ room)
unfolding turn_of bytes_more
more_fits (Ok k) room {more} e = go (min k room) (min-le_right k room) (cc)
  where
    go : (n : ℕ) → n ≤ room → Some more ≡ bytes_more n → (0 < more) × (more ≤ room)
    go zero h e = absurd (let z : ◌≡◌ {A = ℕ} 0 1 = cc in omega arith)
    go (suc n) h e = let same : suc n ≡ more = cc in (omega arith, omega arith)
more_fits (Err e) room is = absurd (let z : ◌≡◌ {A = ℕ} 0 1 = cc in omega arith)
