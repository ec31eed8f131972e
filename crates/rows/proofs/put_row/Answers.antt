-- `rows::put_row` meets its contract.
use Prim.Native.Nat.{ℕ, ◌+◌, ◌*◌, ◌^◌, ◌≤◌, ◌<◌}
use mathlib.Core.List.{List, map}
use mathlib.Core.Path.{◌≡◌, ap, ◌∙◌}
use native.Mathlib.Omega.{arith}
use borrow.Author.Rules.{rules}
use lib.IntN.{ℤ, pos}
use lib.ListN.{length, get_or, set, take, length-set, length-take}
use lib.Seq.{sets}
use mir.Syntax.{w64}
use mir.Val.{to_z}
use mir.Facts.{to_z_pos}
use Rattle.model.specs.Step.{no_ball, no_span}
use Rattle.model.specs.Rows.{parts, values_part, radii_part, lows_part, highs_part, width, degree_place, part_place, row_places, balls_of, spans_of}
use Rattle.model.specs.declared.Ball.{Ball}
use Rattle.model.specs.declared.Span.{Span}
use Rattle.rows.specs.Room.{HasRow}
use Rattle.rows.proofs.Places.{part_fits, front_of, row_stored}
use Rattle.rows.proofs.put_row.Goals as goal

-- a part of no more than n numbers has room
room : (n j p : ℕ) {at count long : ℕ} {entry : List ℤ} → p < parts → HasRow n j entry → at ≡ part_place n j p 0 → count ≤ n → long ≡ length entry → at + count ≤ long
room n j p h held from few same = omega (arith, held.room, part_fits n j p h)

-- the first n are no more
few : (n : ℕ) (numbers : List ℤ) → length (take n numbers) ≤ n
few n numbers = rw length-take (omega arith)

-- the degree, and then the values, the radii, the lows and the highs: the row is stored
stored : (n j degree : ℕ) (balls : List Ball) (spans : List Span) (entry : List ℤ) {values radii lows highs after-degree after-values after-radii after-lows after : List ℤ} → degree < 2 ^ 63 →
    values ≡ map (λ ball. ball.value) (balls_of n balls) →
    radii ≡ map (λ ball. pos ball.radius) (balls_of n balls) →
    lows ≡ map (λ span. span.low) (spans_of n spans) →
    highs ≡ map (λ span. span.high) (spans_of n spans) →
    after-degree ≡ set entry (degree_place n j) (to_z w64 degree) →
    after-values ≡ sets after-degree (part_place n j values_part 0) values →
    after-radii ≡ sets after-values (part_place n j radii_part 0) radii →
    after-lows ≡ sets after-radii (part_place n j lows_part 0) lows →
    after ≡ sets after-lows (part_place n j highs_part 0) highs →
    after ≡ sets entry (degree_place n j) (row_places (record { degree = degree; balls = balls_of n balls; spans = spans_of n spans }))
stored n j degree balls spans entry fits v r l g first second third fourth fifth =
    rw (fifth, fourth, third, second, first, v, r, l, g, to_z_pos w64 fits) (row_stored entry n j degree balls spans)

pub bounds-rows-row : goal.bounds-rows-row
unfolding width
bounds-rows-row c = rw c.width.ensures (omega (arith, c.requires.place.room))

pub put_part-requires : goal.put_part-requires
put_part-requires c =
    room c.args.n c.args.row values_part (omega arith) c.requires.place c.part_place.ensures (few c.args.n c.map-values.result) (length-set c.args.rows.now _ _)

pub put_part-requires-2 : goal.put_part-requires-2
put_part-requires-2 c =
    room c.args.n c.args.row radii_part (omega arith) c.requires.place c.part_place-2.ensures (few c.args.n c.map-radii.result) (c.put_part.auto.rows ∙ length-set c.args.rows.now _ _)

pub put_part-requires-3 : goal.put_part-requires-3
put_part-requires-3 c =
    room c.args.n c.args.row lows_part (omega arith) c.requires.place c.part_place-3.ensures (few c.args.n c.map-lows.result) (c.put_part-2.auto.rows ∙ c.put_part.auto.rows ∙ length-set c.args.rows.now _ _)

pub put_part-requires-4 : goal.put_part-requires-4
put_part-requires-4 c =
    room c.args.n c.args.row highs_part (omega arith) c.requires.place c.part_place-4.ensures (few c.args.n c.map-highs.result) (c.put_part-3.auto.rows ∙ c.put_part-2.auto.rows ∙ c.put_part.auto.rows ∙ length-set c.args.rows.now _ _)

pub returns : goal.returns
unfolding balls_of spans_of
returns c =
    let value : (i : ℕ) → i < c.args.n → get_or c.map-values.result i (pos 0) ≡ (get_or c.args.balls.now i no_ball).value = λ i h. let called = (c.map-values.ensures.items.at i no_ball (pos 0) (omega (arith, c.requires.place.few))).2 in search rules in
    let bits : (i : ℕ) → i < c.args.n → get_or c.map-radii.result i (pos 0) ≡ to_z w64 (get_or c.args.balls.now i no_ball).radius = λ i h. let called = (c.map-radii.ensures.items.at i no_ball (pos 0) (omega (arith, c.requires.place.few))).2 in search rules in
    let low : (i : ℕ) → i < c.args.n → get_or c.map-lows.result i (pos 0) ≡ (get_or c.args.spans.now i no_span).low = λ i h. let called = (c.map-lows.ensures.items.at i no_span (pos 0) (omega (arith, c.requires.place.few))).2 in search rules in
    let high : (i : ℕ) → i < c.args.n → get_or c.map-highs.result i (pos 0) ≡ (get_or c.args.spans.now i no_span).high = λ i h. let called = (c.map-highs.ensures.items.at i no_span (pos 0) (omega (arith, c.requires.place.few))).2 in search rules in
    stored c.args.n c.args.row c.args.degree c.args.balls.now c.args.spans.now c.args.rows.now c.requires.degree_fits
    (front_of no_ball (λ ball. ball.value) c.args.n c.args.balls.now c.map-values.result (rw c.map-values.ensures.items.long c.requires.place.few) value)
    (front_of no_ball (λ ball. pos ball.radius) c.args.n c.args.balls.now c.map-radii.result (rw c.map-radii.ensures.items.long c.requires.place.few) (λ i h. bits i h ∙ to_z_pos w64 (c.requires.radii_fit i h)))
    (front_of no_span (λ span. span.low) c.args.n c.args.spans.now c.map-lows.result (rw c.map-lows.ensures.items.long c.requires.place.few) low)
    (front_of no_span (λ span. span.high) c.args.n c.args.spans.now c.map-highs.result (rw c.map-highs.ensures.items.long c.requires.place.few) high)
    (ap (λ (wide : ℕ). set c.args.rows.now (c.args.row * wide) (to_z w64 c.args.degree)) c.width.ensures)
    (rw c.part_place.ensures at c.put_part.ensures)
    (rw c.part_place-2.ensures at c.put_part-2.ensures)
    (rw c.part_place-3.ensures at c.put_part-3.ensures)
    (rw c.part_place-4.ensures at c.put_part-4.ensures)
