-- A passage under way: the rows done stand in the lent buffer, and what is left follows from the balls reached.
use Rattle.model.specs.Sheet.{Outcome, not_refused, refused_at}
use Prim.Native.Nat.{ℕ, suc, ◌+◌, ◌-◌, ◌*◌, ◌≤◌, ◌<◌}
use mathlib.Core.Path.{◌≡◌, refl, sym, ap, ◌∙◌}
use mathlib.Core.List.{List, [], ◌∷◌, ◌++◌, append_assoc, append-nil}
use native.Mathlib.Nat.{mul-le-mul_right, sub-zero, suc-mul}
use native.Mathlib.Numerals.{add-one}
use native.Mathlib.Omega.{arith}
use lib.IntN.{ℤ}
use lib.ListN.{length, length-append}
use lib.Seq.{sets, length-sets}
use Rattle.model.specs.Step.{Row}
use Rattle.model.specs.declared.Ball.{Ball}
use Rattle.model.specs.Passage.{Advance, moves, stops, advance, Run, refused, go_on, follow}
use Rattle.model.specs.Rows.{width, row_places, places, written}
use Rattle.model.specs.declared.Term.{Term}
use Rattle.model.specs.declared.Refusal.{Refusal}
use Rattle.ranges.proofs.Lists.{none, entry_first}
use Rattle.laws.proofs.Passages.RowPlaces.{Quantities, Wide, places_length, written_is_sets, sets_one_row_more}

wide_one_more : {n : ℕ} {rows : List Row} (row : Row) → Wide n rows → Quantities n row → Wide n (rows ++ (row ∷ []))
wide_one_more row none h = entry_first h none
wide_one_more row (entry_first l w) h = entry_first l (wide_one_more row w h)

-- a run into a lent buffer: the outcome is the run's, and the buffer holds its rows from the front, every other place as it was
abbrev pub RunInto : Run → List ℤ → List ℤ → Outcome → Type 0
RunInto run before after outcome = (outcome ≡ run.outcome) × (after ≡ written run.rows before)

-- a run, with rows before its own
unfoldable pub after : List Row → Run → Run
after rows run = record { rows = rows ++ run.rows; outcome = run.outcome }

module _ (terms : List Term) (H : ℤ) (limit tol : ℕ) where
  -- `done` of `steps` steps are taken and have led from `start` to `balls`; `buffer` was lent, and now holds the places `held`
  pub record Underway (steps n : ℕ) (start : List Ball) (buffer : List ℤ) (done : ℕ) (balls : List Ball) (held : List ℤ) : Type 0 where
    pub rows : List Row
    pub count : length rows ≡ done
    pub few : done ≤ steps
    pub wide : Wide n rows
    pub ahead : follow terms H limit tol steps 1 start ≡ after rows (follow terms H limit tol (steps - done) (suc done) balls)
    pub stored : held ≡ sets buffer 0 (places rows)

  one_step : (left step : ℕ) (balls : List Ball) (next : Advance) → advance terms H limit tol balls ≡ next → follow terms H limit tol (suc left) step balls ≡ go_on next step (λ row. follow terms H limit tol left (suc step) row.balls)
  unfolding follow
  one_step left step balls next e = ap (λ (a : Advance). go_on a step (λ row. follow terms H limit tol left (suc step) row.balls)) e

  -- the step that comes next, with the number that the code gives it
  next_step : (steps done : ℕ) (balls : List Ball) (next : Advance) → done < steps → advance terms H limit tol balls ≡ next → follow terms H limit tol (steps - done) (suc done) balls ≡ go_on next (done + 1) (λ row. follow terms H limit tol (steps - (done + 1)) (suc (done + 1)) row.balls)
  next_step steps done balls next h e = rw (left, add-one done) (one_step (steps - suc done) (suc done) balls next e)
    where
      left : steps - done ≡ suc (steps - suc done)
      left = omega arith

module _ {terms : List Term} {H : ℤ} {limit tol : ℕ} where
  pub underway_at_start : (steps n : ℕ) (start : List Ball) (buffer : List ℤ) → Underway terms H limit tol steps n start buffer 0 start buffer
  unfolding after places
  underway_at_start steps n start buffer =
      record { rows = []; count = refl; few = omega arith; wide = none; ahead = rw (sub-zero steps); stored = refl }

  -- the places that the rows done take
  places_done : {steps n : ℕ} {start : List Ball} {buffer held : List ℤ} {done : ℕ} {balls : List Ball} (u : Underway terms H limit tol steps n start buffer done balls held) → length (places u.rows) ≡ done * width n
  places_done {n = n} u = places_length u.wide ∙ ap (λ (k : ℕ). k * width n) u.count

  pub underway_length : {steps n : ℕ} {start : List Ball} {buffer held : List ℤ} {done : ℕ} {balls : List Ball} → Underway terms H limit tol steps n start buffer done balls held → length held ≡ length buffer
  underway_length u = rw (u.stored, length-sets)

  pub room_for_row : {steps n : ℕ} {start : List Ball} {buffer held : List ℤ} {done : ℕ} {balls : List Ball} → Underway terms H limit tol steps n start buffer done balls held → steps * width n ≤ length buffer → done < steps → done * width n + width n ≤ length held
  room_for_row {steps} {n} {done = done} u room h =
      omega (arith, underway_length u, mul-le-mul_right (width n) h, suc-mul done (width n))

  -- nothing is ahead but an outcome
  ended : {steps n : ℕ} {start : List Ball} {buffer held : List ℤ} {done : ℕ} {balls : List Ball} (outcome : Outcome) → Underway terms H limit tol steps n start buffer done balls held → steps * width n ≤ length buffer → follow terms H limit tol (steps - done) (suc done) balls ≡ record { rows = []; outcome = outcome } → RunInto (follow terms H limit tol steps 1 start) buffer held outcome
  unfolding after
  ended {steps} {n} {start} {buffer} outcome u room e =
      (ap (λ (run : Run). run.outcome) (sym run), rw run (u.stored ∙ sym (written_is_sets u.rows buffer fits)))
    where
      run : follow terms H limit tol steps 1 start ≡ record { rows = u.rows; outcome = outcome }
      run = rw (u.ahead, e, append-nil u.rows)

      fits : length (places u.rows) ≤ length buffer
      fits = omega (arith, places_done u, mul-le-mul_right (width n) u.few)

  pub moved : {steps n : ℕ} {start : List Ball} {buffer held : List ℤ} {done : ℕ} {balls : List Ball} (row : Row) → Underway terms H limit tol steps n start buffer done balls held → done < steps → advance terms H limit tol balls ≡ moves row → Quantities n row → Underway terms H limit tol steps n start buffer (done + 1) row.balls (sets held (done * width n) (row_places row))
  unfolding after go_on
  moved {steps} {n} {start} {buffer} {held} {done} {balls} row u h e l =
      record {
        rows = u.rows ++ (row ∷ []);
        count = omega (arith, length-append u.rows (row ∷ []), u.count);
        few = omega arith;
        wide = wide_one_more row u.wide l;
        ahead = rw (u.ahead, next_step terms H limit tol steps done balls (moves row) h e, append_assoc u.rows (row ∷ []) _);
        stored = rw (u.stored, ← (places_done u), ← (sets_one_row_more buffer u.rows row));
      }

  pub finished_by_refusal : {steps n : ℕ} {start : List Ball} {buffer held : List ℤ} {done : ℕ} {balls : List Ball} (r : Refusal) → Underway terms H limit tol steps n start buffer done balls held → steps * width n ≤ length buffer → done < steps → advance terms H limit tol balls ≡ stops r → RunInto (follow terms H limit tol steps 1 start) buffer held (refused_at r (done + 1))
  unfolding go_on refused
  finished_by_refusal {steps} {done = done} {balls = balls} r u room h e =
      ended (refused_at r (done + 1)) u room (next_step terms H limit tol steps done balls (stops r) h e)

  pub finished : {steps n : ℕ} {start : List Ball} {buffer held : List ℤ} {done : ℕ} {balls : List Ball} → Underway terms H limit tol steps n start buffer done balls held → steps * width n ≤ length buffer → steps ≤ done → RunInto (follow terms H limit tol steps 1 start) buffer held not_refused
  unfolding follow
  finished {steps} {done = done} u room h = ended not_refused u room (rw none_left)
    where
      none_left : steps - done ≡ 0
      none_left = omega arith
