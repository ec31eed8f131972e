-- Document 01, 'The exact sum': no rounding, over whole numbers.
use Rattle.std.specs.Prelude.{ℕ, zero, suc, ◌+◌, ◌-◌, ◌*◌, List, [], ◌∷◌, ◌++◌, ℤ, pos, ◌+ℤ◌, ◌*ℤ◌, length, get_or}
use Rattle.std.proofs.Math.IntN.{pow}
use Rattle.ranges.specs.Range.{sum_ℤ, tabulate}
use Rattle.model.specs.Sheet.{scale, no_term}
use Rattle.model.specs.Step.{brings_ℤ}
use Rattle.model.specs.declared.Term.{Term}

-- C(k, l), the binomial number
unfoldable pub binomial : ℕ → ℕ → ℕ
binomial k zero = 1
binomial zero (suc l) = 0
binomial (suc k) (suc l) = binomial k l + binomial k (suc l)

-- An exact state: each quantity is its numerator ÷ the common denominator, in wholes.
pub record State : Type 0 where
  pub denominator : ℕ
  pub numerators : List ℤ

-- Y_0, Y_1, .. as a table: by order, and then by quantity from 0
abbrev pub Orders : Type 0
Orders = List (List ℤ)

-- Y_k of quantity i; none is asked for past the table
unfoldable pub order : Orders → ℕ → ℕ → ℤ
order orders k i = get_or (get_or orders k []) i (pos 0)

-- Y_k of a factor: an absent one has Y_0 = D and Y_k = 0 after
unfoldable pub factor_ℤ : ℕ → Orders → ℕ → ℕ → ℤ
factor_ℤ D orders zero zero = pos D
factor_ℤ D orders (suc k) zero = pos 0
factor_ℤ D orders k (suc i) = order orders k i

-- the sum over l = 0..k of C(k,l) × A × Y_l(first) × Y_(k-l)(second)
unfoldable pub product : ℕ → Orders → ℕ → Term → ℤ
product D orders k term =
    sum_ℤ (suc k) (λ l. pos (binomial k l) *ℤ term.coef *ℤ factor_ℤ D orders l term.first *ℤ factor_ℤ D orders (k - l) term.second)

-- Y_(k+1) of quantity i
unfoldable pub next_order : List Term → ℕ → Orders → ℕ → ℕ → ℤ
next_order terms D orders k i =
    sum_ℤ (length terms) (λ j. brings_ℤ (suc i) (get_or terms j no_term) (product D orders k (get_or terms j no_term)))

-- Y_0 .. Y_k
unfoldable pub orders_to : List Term → State → ℕ → Orders
orders_to terms state zero = state.numerators ∷ []
orders_to terms state (suc k) =
    let orders = orders_to terms state k in
    orders ++ (tabulate (length state.numerators) (next_order terms state.denominator orders k) ∷ [])

-- The exact degree-K sum at a step of h ÷ w wholes: the sum for k = 0..K of y_k (h ÷ w)^k, y_k = Y_k ÷ (k! D^(k+1) s^k), over the common
-- denominator K! D^(K+1) (s w)^K.
unfoldable pub sum_denominator : ℕ → ℕ → ℕ → ℕ
sum_denominator D w zero = D
sum_denominator D w (suc K) = sum_denominator D w K * (suc K * (D * (scale * w)))

-- the sum's numerator of quantity i over that denominator
unfoldable pub sum_numerator : List Term → State → ℤ → ℕ → ℕ → ℕ → ℤ
sum_numerator terms state h w zero i = order (orders_to terms state 0) 0 i
sum_numerator terms state h w (suc K) i =
    sum_numerator terms state h w K i *ℤ pos (suc K * (state.denominator * (scale * w))) +ℤ order (orders_to terms state (suc K)) (suc K) i *ℤ pow h (suc K)

-- the state that the sum comes to
unfoldable pub exact_sum : List Term → ℤ → ℕ → ℕ → State → State
exact_sum terms h w K state =
    record {
      denominator = sum_denominator state.denominator w K;
      numerators = tabulate (length state.numerators) (sum_numerator terms state h w K);
    }
