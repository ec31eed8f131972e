-- Document 01, 'One rounded step'.
use Rattle.std.specs.Prelude.{ℕ, zero, suc, ◌+◌, ◌-◌, ◌*◌, max, cond, List, [], ◌∷◌, ◌++◌, eqb, leb, ℤ, pos, nat_abs, ◌+ℤ◌, ◌-ℤ◌, ◌*ℤ◌, length, get_or}
use Rattle.rounding.specs.Rounding.{near, up}
use Rattle.ranges.specs.Range.{sum, sum_ℤ, largest, tabulate, least}
use Rattle.model.specs.Sheet.{scale, no_term}
use Rattle.model.specs.declared.Term.{Term}
pub use Rattle.model.specs.declared.Ball.{Ball}
pub use Rattle.model.specs.declared.Span.{Span}

-- what a list of balls reads as past its end
unfoldable pub no_ball : Ball
no_ball = record { value = pos 0; radius = 0 }

-- what a list of spans reads as past its end
unfoldable pub no_span : Span
no_span = record { low = pos 0; high = pos 0 }

-- |value| + radius
unfoldable pub reach : Ball → ℕ
reach ball = nat_abs ball.value + ball.radius

-- ---- ratio and tail

-- G: the largest of s and every |value| + radius
unfoldable pub greatest : List Ball → ℕ
greatest balls = max scale (largest (length balls) (λ i. reach (get_or balls i no_ball)))

-- how many factors a term has
unfoldable pub factors : Term → ℕ
factors term = cond (eqb term.first 0) 0 (cond (eqb term.second 0) 1 2)

-- what a term brings to a target's sum: x where it is its target, else nothing
unfoldable pub brings : ℕ → Term → ℕ → ℕ
brings target term x = cond (eqb term.to target) x 0

-- what a term brings to a quantity's sum: x where the quantity is its target, else nothing
unfoldable pub brings_ℤ : ℕ → Term → ℤ → ℤ
brings_ℤ target term x = cond (eqb term.to target) x (pos 0)

-- |A| of a term with so many factors
unfoldable pub coef_of : ℕ → Term → ℕ
coef_of count term = cond (eqb (factors term) count) (nat_abs term.coef) 0

-- Z0, Z1, Z2 of a target: the sum of |A| over its terms with so many factors
unfoldable pub coefs : List Term → ℕ → ℕ → ℕ
coefs terms target count =
    sum (length terms) (λ j. brings target (get_or terms j no_term) (coef_of count (get_or terms j no_term)))

-- a target's size: up(s × Z0, G) + Z1 + up(G × Z2, s)
unfoldable pub size : ℕ → (ℕ → ℕ) → ℕ
size G Z = up (scale * Z 0) G + Z 1 + up (G * Z 2) scale

-- q = up(b × |H|, s), b being the largest size over the n quantities; Z i are the sums of quantity i
unfoldable pub ratio_by : (ℕ → ℕ → ℕ) → ℤ → ℕ → ℕ → ℕ
ratio_by Z H n G = up (largest n (λ i. size G (Z i)) * nat_abs H) scale

-- by the sums of these terms
unfoldable pub ratio : List Term → ℤ → ℕ → ℕ → ℕ
ratio terms H n G = ratio_by (λ i. coefs terms (suc i)) H n G

-- p_j
unfoldable pub majorant : ℕ → ℕ → ℕ → ℕ
majorant G q zero = G
majorant G q (suc j) = up (majorant G q j * q) scale

-- the tail at k; q is at most half of s by question 5, so that s - q is not 0
unfoldable pub tail_at : ℕ → ℕ → ℕ → ℕ
tail_at G q k = up (majorant G q (suc k) * scale) (scale - q)

-- the highest degree that a step can have
abbrev pub most_degree : ℕ
most_degree = 28

-- the least k from 0 up whose tail is at most the sheet's; it never passes 28, so that a k is always found
unfoldable pub degree : ℕ → ℕ → ℕ → ℕ
degree G q limit = least most_degree (λ k. leb (tail_at G q k) limit)

-- ---- coefficients

-- c_k and e_k as a table: by order, and then by quantity from 0
abbrev pub Coefficients : Type 0
Coefficients = List (List Ball)

-- c_k and e_k of quantity i
unfoldable pub coefficient : Coefficients → ℕ → ℕ → Ball
coefficient table k i = get_or (get_or table k []) i no_ball

-- c_k and e_k of a factor: an absent one is s at order 0 and 0 after
unfoldable pub factor : Coefficients → ℕ → ℕ → Ball
factor table zero zero = record { value = pos scale; radius = 0 }
factor table (suc k) zero = no_ball
factor table k (suc i) = coefficient table k i

-- |c|×e' + |c'|×e + e×e'
unfoldable pub product_radius : Ball → Ball → ℕ
product_radius a b = nat_abs a.value * b.radius + nat_abs b.value * a.radius + a.radius * b.radius

-- S and F of a term's factors at order k
unfoldable pub products : Coefficients → ℕ → ℕ → ℕ → Ball
products table k first zero = factor table k first
products table k first (suc second) =
    record {
      value = sum_ℤ (suc k) (λ l. near ((factor table l first).value *ℤ (factor table (k - l) (suc second)).value) scale);
      radius = sum (suc k) (λ l. up (product_radius (factor table l first) (factor table (k - l) (suc second))) scale + 1);
    }

-- a ball times a number of units
unfoldable pub times : ℤ → Ball → Ball
times a ball = record { value = near (a *ℤ ball.value) scale; radius = up (nat_abs a * ball.radius) scale + 1 }

-- v and g of a term at order k: A times Q and f, which are H times S and F: Q with H's sign, f by |H|
unfoldable pub share : ℤ → Coefficients → ℕ → Term → Ball
share H table k term = times term.coef (times H (products table k term.first term.second))

-- c_(k+1) and e_(k+1) of quantity i
unfoldable pub next_coefficient : List Term → ℤ → Coefficients → ℕ → ℕ → Ball
next_coefficient terms H table k i =
    record {
      value = near (sum_ℤ (length terms) (λ j. brings_ℤ (suc i) (get_or terms j no_term) (share H table k (get_or terms j no_term)).value)) (suc k);
      radius = up (sum (length terms) (λ j. brings (suc i) (get_or terms j no_term) (share H table k (get_or terms j no_term)).radius)) (suc k) + 1;
    }

-- orders 0 .. k
unfoldable pub coefficients_to : List Term → ℤ → List Ball → ℕ → Coefficients
coefficients_to terms H balls zero = balls ∷ []
coefficients_to terms H balls (suc k) =
    let table = coefficients_to terms H balls k in
    table ++ (tabulate (length balls) (next_coefficient terms H table k) ∷ [])

-- ---- new row

-- a row: its degree, and for each quantity a value and a radius, a low and a high
pub record Row : Type 0 where
  pub degree : ℕ
  pub balls : List Ball
  pub spans : List Span

-- what a list of rows reads as past its end, where no row is asked for
unfoldable pub no_row : Row
no_row = record { degree = 0; balls = []; spans = [] }

-- the sum of c_0..c_d, and that of e_0..e_d plus the tail
unfoldable pub new_ball : Coefficients → ℕ → ℕ → ℕ → Ball
new_ball table d tail i =
    record {
      value = sum_ℤ (suc d) (λ k. (coefficient table k i).value);
      radius = sum (suc d) (λ k. (coefficient table k i).radius) + tail;
    }

-- document 02's reach: e_0 + the sum over k = 1..d of (|c_k| + e_k) + the tail
unfoldable pub step_reach : Coefficients → ℕ → ℕ → ℕ → ℕ
step_reach table d tail i = (coefficient table 0 i).radius + sum d (λ k. reach (coefficient table (suc k) i)) + tail

-- low and high: the step's starting value less and plus the reach
unfoldable pub new_span : Coefficients → ℕ → ℕ → ℕ → Span
new_span table d tail i =
    let start = (coefficient table 0 i).value in
    let reach = pos (step_reach table d tail i) in
    record { low = start -ℤ reach; high = start +ℤ reach }

-- the row of degree d, with its tail
unfoldable pub new_row : List Term → ℤ → List Ball → ℕ → ℕ → Row
new_row terms H balls d tail =
    let table = coefficients_to terms H balls d in
    record {
      degree = d;
      balls = tabulate (length balls) (new_ball table d tail);
      spans = tabulate (length balls) (new_span table d tail);
    }

-- the row that a step of H comes to, with the sheet's tail as the limit
unfoldable pub step_row : List Term → ℤ → ℕ → List Ball → Row
step_row terms H limit balls =
    let G = greatest balls in
    let q = ratio terms H (length balls) G in
    let d = degree G q limit in
    new_row terms H balls d (tail_at G q d)
