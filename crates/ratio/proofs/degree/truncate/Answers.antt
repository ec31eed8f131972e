-- `ratio::degree::truncate` meets its contract. The loop passes the orders whose tail is over the limit, and never the last.
use Prim.Native.Nat.{ℕ, suc, ◌-◌, ◌*◌, ◌≤◌, ◌<◌}
use mathlib.Core.Path.{◌≡◌, refl, ap, ◌∙◌}
use native.Mathlib.Nat.{mul-le-mul, le_antisymm}
use native.Mathlib.Decide.{dec_lt}
use native.Mathlib.Numerals.{add-one}
use native.Mathlib.Omega.{arith}
use borrow.Author.Count.{below_none, below_more}
use Rattle.rounding.specs.Rounding.{up}
use Rattle.model.specs.Sheet.{scale, most}
use Rattle.model.specs.Step as rule
use Rattle.model.specs.Step.{most_degree}
use Rattle.model.specs.Passage.{most_ratio}
use Rattle.laws.proofs.Steps.Degree.{majorant_le, tail_vanishes, degree_is_least, IsDegree}
use Rattle.ratio.proofs.degree.truncate.Goals as goal

module _ (G q : ℕ) where
  -- the next majorant
  next : (k : ℕ) {p r : ℕ} → p ≡ rule.majorant G q k → r ≡ up (p * q) scale → r ≡ rule.majorant G q (suc k)
  unfolding rule.majorant
  next k e h = h ∙ ap (λ (p : ℕ). up (p * q) scale) e

  -- the tail at k
  tail_is : (k : ℕ) {p r tail : ℕ} → p ≡ rule.majorant G q k → r ≡ up (p * q) scale → tail ≡ up (r * scale) (scale - q) → tail ≡ rule.tail_at G q k
  unfolding rule.tail_at
  tail_is k e h t = t ∙ ap (λ (p : ℕ). up (p * scale) (scale - q)) (next k e h)

-- the first k whose tail is within the limit is the degree
is_degree : (G q limit : ℕ) → G ≤ most → q ≤ most_ratio → 2 ≤ limit → (k : ℕ) → rule.tail_at G q k ≤ limit → ((j : ℕ) → j < k → limit < rule.tail_at G q j) → k ≡ rule.degree G q limit
is_degree G q limit small slow low k h before = le_antisymm (not_above (dec_lt d k)) (not_below (dec_lt k d))
  where
    d : ℕ
    d = rule.degree G q limit

    least : IsDegree G q limit d
    least = degree_is_least G small slow low

    not_above : Dec (d < k) → k ≤ d
    not_above (yes l) = absurd (omega (arith, before d l, least.within))
    not_above (no f) = omega (arith, f)

    not_below : Dec (k < d) → d ≤ k
    not_below (yes l) = absurd (omega (arith, least.none_before k l))
    not_below (no f) = omega (arith, f)

-- no majorant is above G
majorant_small : {G q p : ℕ} → G ≤ most → q ≤ most_ratio → (k : ℕ) → p ≡ rule.majorant G q k → p ≤ most
majorant_small {G} small slow k e = omega (arith, e, majorant_le G slow k, small)

-- nor is the next
majorants_small : {G q p r : ℕ} → G ≤ most → q ≤ most_ratio → (k : ℕ) → p ≡ rule.majorant G q k → r ≡ up (p * q) scale → (p ≤ most) × (r ≤ most)
majorants_small {G} {q} small slow k e h = (majorant_small small slow k e, majorant_small small slow (suc k) (next G q k e h))

pub loop-degree-init : goal.loop-degree-init
unfolding rule.majorant
loop-degree-init c = (refl, below_none _)

pub overflow_mul-majorant : goal.overflow_mul-majorant
unfolding most most_ratio
overflow_mul-majorant c =
    omega (arith, mul-le-mul (majorant_small c.requires.reach_le_most c.requires.ratio_le_most_ratio c.loop-degree.degree c.loop-degree.invariant.0) c.requires.ratio_le_most_ratio)

pub overflow_mul-majorant-in-loop-degree : goal.overflow_mul-majorant-in-loop-degree
unfolding most scale
overflow_mul-majorant-in-loop-degree c =
    let k = c.loop-degree.degree in
    let small = majorants_small c.requires.reach_le_most c.requires.ratio_le_most_ratio k c.loop-degree.invariant.0 c.up-majorant.ensures in
    omega (arith, small.0, small.1)

pub overflow_sub-ratio : goal.overflow_sub-ratio
unfolding most_ratio
overflow_sub-ratio c = omega (arith, c.requires.ratio_le_most_ratio)

pub up-tail-requires : goal.up-tail-requires
unfolding most_ratio
up-tail-requires c = omega (arith, c.requires.ratio_le_most_ratio)

pub loop-degree-preserved : goal.loop-degree-preserved
unfolding scale
loop-degree-preserved c =
    let G = c.args.reach in
    let q = c.args.ratio in
    let k = c.loop-degree.degree in
    let over : c.args.limit < rule.tail_at G q k = omega (arith, tail_is G q k c.loop-degree.invariant.0 c.up-majorant.ensures c.up-tail.ensures, c.if-tail-limit.false) in (
      rw (add-one k) (next G q k c.loop-degree.invariant.0 c.up-majorant.ensures),
      below_more (λ (j : ℕ). c.args.limit < rule.tail_at G q j) k c.loop-degree.invariant.1 over,
    )

pub returns-then-tail-limit : goal.returns-then-tail-limit
unfolding scale
returns-then-tail-limit c =
    let G = c.args.reach in
    let q = c.args.ratio in
    let k = c.loop-degree.degree in
    let tail = tail_is G q k c.loop-degree.invariant.0 c.up-majorant.ensures c.up-tail.ensures in
    let within : rule.tail_at G q k ≤ c.args.limit = omega (arith, tail, c.if-tail-limit.true) in
    let d = is_degree G q c.args.limit c.requires.reach_le_most c.requires.ratio_le_most_ratio c.requires.le_limit k within c.loop-degree.invariant.1 in
    record { degree = d; tail = tail ∙ ap (rule.tail_at G q) d }

-- the tail of the highest degree is within every limit
pub unreachable-requires : goal.unreachable-requires
unreachable-requires c =
    omega (arith, c.loop-degree.invariant.1 most_degree (omega (arith, c.loop-degree-test.false)), tail_vanishes c.args.reach c.requires.ratio_le_most_ratio c.requires.reach_le_most, c.requires.le_limit)
