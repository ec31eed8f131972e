-- `decimal::put_digits` meets its contract.
use Rattle.std.proofs.Common.{◌∙◌, arith, rules, length-take-le}
use Rattle.std.proofs.lemmas.Grind.{common_steps}
use Rattle.decimal.proofs.LastPut.{none_put, two_places, pair_put, two_places_left, two_put, one_place, one_put}
use Rattle.decimal.proofs.put_digits.Goals as goal

pub loop-left-init : goal.loop-left-init
loop-left-init c = none_put c.requires

pub overflow_sub-start : goal.overflow_sub-start
overflow_sub-start c = two_places c.loop-left.invariant c.power_of_ten-hundred.ensures c.loop-left-test.true

pub slice_bounds-put_pair-start : goal.slice_bounds-put_pair-start
slice_bounds-put_pair-start c =
    let enough = two_places c.loop-left.invariant c.power_of_ten-hundred.ensures c.loop-left-test.true in
    search rules

pub put_pair-requires-clause-two_places : goal.put_pair-requires-clause-two_places
put_pair-requires-clause-two_places c =
    let enough = two_places c.loop-left.invariant c.power_of_ten-hundred.ensures c.loop-left-test.true in
    grind (arith, common_steps)

pub loop-left-preserved : goal.loop-left-preserved
loop-left-preserved c =
    let enough = two_places c.loop-left.invariant c.power_of_ten-hundred.ensures c.loop-left-test.true in
    pair_put c.loop-left.invariant c.power_of_ten-hundred.ensures c.loop-left-test.true (omega arith) c.put_pair.ensures

pub put_pair-requires-then-power_of_ten-left-clause-two_places : goal.put_pair-requires-then-power_of_ten-left-clause-two_places
put_pair-requires-then-power_of_ten-left-clause-two_places c =
    length-take-le _ _ c.loop-left.invariant.within
    ∙ two_places_left c.loop-left.invariant c.power_of_ten.ensures c.power_of_ten-hundred.ensures c.if-power_of_ten-left.true c.loop-left-test.false

pub bounds-text-0 : goal.bounds-text-0
bounds-text-0 c =
    let one = one_place c.loop-left.invariant c.power_of_ten.ensures c.if-power_of_ten-left.false c.digit.ensures in
    search rules

pub returns-then-power_of_ten-left : goal.returns-then-power_of_ten-left
returns-then-power_of_ten-left c =
    two_put
    c.loop-left.invariant
    c.power_of_ten.ensures
    c.power_of_ten-hundred.ensures
    c.if-power_of_ten-left.true
    c.loop-left-test.false
    c.put_pair-then-power_of_ten-left.ensures

pub returns-else-power_of_ten-left : goal.returns-else-power_of_ten-left
returns-else-power_of_ten-left c = one_put c.loop-left.invariant c.power_of_ten.ensures c.if-power_of_ten-left.false c.digit.ensures
