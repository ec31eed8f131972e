-- Document 02, 'Like terms': the terms that ratio, tail and rounded step work on, from those of a sheet.
use Rattle.std.specs.Prelude.{Bool, not, ◌&&◌, ◌||◌, cond, List, [], ◌∷◌, eqb, ℤ, pos, nat_abs, ◌+ℤ◌}
use Rattle.model.specs.declared.Term.{Term}

-- the same target and the same factors, in either order
unfoldable pub like : Term → Term → Bool
like a b =
    eqb a.to b.to
    && (eqb a.first b.first && eqb a.second b.second || eqb a.first b.second && eqb a.second b.first)

-- the coefficients of those terms that are like this one, added
unfoldable pub coefs_like : Term → List Term → ℤ
coefs_like term [] = pos 0
coefs_like term (t ∷ ts) = cond (like term t) t.coef (pos 0) +ℤ coefs_like term ts

-- the terms that pass a test, in their order
unfoldable pub filter : (Term → Bool) → List Term → List Term
filter test [] = []
filter test (t ∷ ts) = cond (test t) (t ∷ filter test ts) (filter test ts)

-- like terms are added, in the place of the earliest
unfoldable pub summed : List Term → List Term
summed [] = []
summed (t ∷ ts) =
    record { to = t.to; coef = t.coef +ℤ coefs_like t ts; first = t.first; second = t.second }
    ∷ filter (λ u. not (like t u)) (summed ts)

-- A is not 0
unfoldable pub nonzero : Term → Bool
nonzero term = not (eqb (nat_abs term.coef) 0)

-- .. and then a sum of 0, of a lone term too, drops out
unfoldable pub gathered : List Term → List Term
gathered terms = filter nonzero (summed terms)
