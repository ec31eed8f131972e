-- `clear_search::search::assured` meets its contract. The loop adds to the base what the quantities passed count.
use Prim.Native.Nat.{ℕ, ◌≤◌, ◌<◌}
use mathlib.Core.Path.{◌≡◌}
use native.Mathlib.Numerals.{add-one}
use native.Mathlib.Omega.{arith}
use borrow.Author.Rules.{rules}
use lib.IntN.{pos}
use lib.ListN.{length, get_or, take, length-take}
use Rattle.std.proofs.lemmas.List.{get_or-take}
use Rattle.model.specs.Sheet.{scale}
use Rattle.rows.specs.View.{places_of}
use Rattle.clear_rule.specs.Clearance.{weight}
use Rattle.clear_rule.specs.declared.Query.{Query}
use Rattle.clear_rule.proofs.Weighing.{base_held, base_summed, product_held, sum_held, end_summed, all_assured}
use Rattle.clear_search.proofs.Asked.{front_few}
use Rattle.clear_search.proofs.search.assured.Goals as goal

-- a weight among the first n is the query's
weight_is : (n : ℕ) (query : Query) (i : ℕ) → i < length (take n query.weights) → get_or (take n query.weights) i (pos 0) ≡ weight query i
unfolding weight
weight_is n query i h = get_or-take n query.weights i (pos 0) (omega (arith, front_few n query.weights))

below : (n : ℕ) (query : Query) (i : ℕ) → i < length (take n query.weights) → i < n
below n query i h = omega (arith, front_few n query.weights)

pub overflow_mul-sum : goal.overflow_mul-sum
unfolding scale
overflow_mul-sum c =
    base_held c.args.row.n 0 (places_of c.args.row) c.args.query.now c.requires (search rules)

pub loop-i-init : goal.loop-i-init
unfolding scale
loop-i-init c =
    base_summed c.args.row.n 0 (places_of c.args.row) c.args.query.now c.requires (search rules)

pub overflow_mul-sum-in-loop-i : goal.overflow_mul-sum-in-loop-i
unfolding weight
overflow_mul-sum-in-loop-i c =
    let is = weight_is c.args.row.n c.args.query.now c.loop-i.i c.loop-i-test.true in
    rw is (product_held c.args.row.n 0 (places_of c.args.row) c.args.query.now c.requires c.loop-i.i (below c.args.row.n c.args.query.now c.loop-i.i c.loop-i-test.true) (search rules) (record { sfits = c.end_at.type_inv }) (rw is at c.end_at.ensures))

pub overflow_add-sum : goal.overflow_add-sum
unfolding weight
overflow_add-sum c =
    let is = weight_is c.args.row.n c.args.query.now c.loop-i.i c.loop-i-test.true in
    rw is (sum_held c.args.row.n 0 (places_of c.args.row) c.args.query.now c.requires c.loop-i.i (below c.args.row.n c.args.query.now c.loop-i.i c.loop-i-test.true) (search rules) (record { sfits = c.end_at.type_inv }) (rw is at c.end_at.ensures) c.loop-i.invariant)

pub loop-i-preserved : goal.loop-i-preserved
unfolding weight
loop-i-preserved c =
    let is = weight_is c.args.row.n c.args.query.now c.loop-i.i c.loop-i-test.true in
    rw (add-one, is) (end_summed c.args.row.n 0 (places_of c.args.row) c.args.query.now c.requires c.loop-i.i (below c.args.row.n c.args.query.now c.loop-i.i c.loop-i-test.true) (search rules) (record { sfits = c.end_at.type_inv }) (rw is at c.end_at.ensures) c.loop-i.invariant)

pub returns : goal.returns
returns c =
    let room : c.args.row.n ≤ length c.args.query.now.weights = search rules in
    let done : c.loop-i.i ≡ c.args.row.n = omega (arith, rw length-take at c.loop-i-test.false, front_few c.args.row.n c.args.query.now.weights, c.loop-i.auto.i-end) in
    all_assured c.args.row.n 0 (places_of c.args.row) c.args.query.now c.requires (rw done at c.loop-i.invariant)
