-- One pass over the rows: how many certain ones in a row there are so far, and that every run that opened before them is broken. It finds the first
-- run, or that there is none.
use Rattle.std.specs.Prelude.{None, Ok, Some}
use Prim.Native.Nat.{ℕ, suc, ◌+◌, ◌-◌, ◌≤◌, ◌<◌}
use mathlib.Core.Bool.{Bool, true, false, cond}
use mathlib.Core.List.{List}
use mathlib.Core.Logic.{⊎_elim}
use mathlib.Core.Path.{◌≡◌, sym, ap, ◌∙◌}
use native.Mathlib.Nat.{eq-or-lt_of_le}
use native.Mathlib.Numerals.{add-one}
use native.Mathlib.Omega.{arith}
use lib.ListN.{length}
use Rattle.ranges.specs.Range.{every}
use Rattle.model.specs.Step.{Row}
use Rattle.ranges.proofs.Ranges.{before_or_past}
use Rattle.ranges.proofs.EveryLaws.{every_all, every_fails}
use Rattle.clear_rule.specs.Clearance.{opens, first_run}
use Rattle.clear_rule.specs.declared.Query.{Query}
use Rattle.clear_rule.proofs.FirstRun.{certainly, run_opens, run_broken, run_too_long, first_is, none_is}

-- the last `streak` of the rows passed are certain, fewer than a run, and no run opens at a row before them
pub record Streak (certainly : ℕ → Bool) (run passed streak : ℕ) : Type 0 where
  pub counted : streak ≤ passed
  pub short : streak < run
  pub last : (j : ℕ) → j < passed → passed ≤ j + streak → certainly j ≡ true
  pub broken : (j : ℕ) → j + streak < passed → every run (λ i. certainly (j + i)) ≡ false

module _ (certainly : ℕ → Bool) (run : ℕ) where
  pub no_streak : 1 ≤ run → Streak certainly run 0 0
  no_streak h = record { counted = omega arith; short = h; last = λ j lt le. absurd (omega arith); broken = λ j lt. absurd (omega arith) }

  module _ {passed streak : ℕ} (s : Streak certainly run passed streak) where
    -- a row that is not certain breaks every run that it stands in
    pub streak_broken : certainly passed ≡ false → Streak certainly run (suc passed) 0
    streak_broken e =
        record {
          counted = omega arith;
          short = omega (arith, s.short);
          last = λ j lt le. absurd (omega arith);
          broken = λ j lt. ⊎_elim (λ (before : j + streak < passed). s.broken j before) (λ (within : passed ≤ j + streak). here j (omega arith) within) (before_or_past (j + streak) passed);
        }
      where
        here : (j : ℕ) → j ≤ passed → passed ≤ j + streak → every run (λ i. certainly (j + i)) ≡ false
        here j le within =
            let at : j + (passed - j) ≡ passed = omega arith in
            every_fails (λ i. certainly (j + i)) (passed - j) run (omega (arith, s.short)) (ap certainly at ∙ e)

    -- the rows of a streak, with a certain row more
    longer : certainly passed ≡ true → (j : ℕ) → j < suc passed → suc passed ≤ j + suc streak → certainly j ≡ true
    longer e j lt le =
        ⊎_elim (λ (same : j ≡ passed). ap certainly same ∙ e) (λ (before : j < passed). s.last j before (omega arith)) (eq-or-lt_of_le {n = j} {m = passed} (omega arith))

    pub streak_longer : certainly passed ≡ true → suc streak < run → Streak certainly run (suc passed) (suc streak)
    streak_longer e h =
        record { counted = omega (arith, s.counted); short = h; last = longer e; broken = λ j lt. s.broken j (omega arith) }

    -- it has become a run, the first
    pub streak_full : certainly passed ≡ true → suc streak ≡ run → every run (λ i. certainly (passed - streak + i)) ≡ true
    streak_full e h =
        every_all (λ i. certainly (passed - streak + i)) run (λ i lt. longer e (passed - streak + i) (omega (arith, s.counted)) (omega (arith, s.counted)))

-- ---- the first run of some rows

module _ (query : Query) (rows : List Row) {passed streak : ℕ} (s : Streak (certainly query rows) query.run passed streak) where
  found_here : passed < length rows → certainly query rows passed ≡ true → suc streak ≡ query.run → Ok (Some (passed + 1 - query.run + 1)) ≡ first_run query rows
  found_here h e full =
      let number : passed + 1 - query.run + 1 ≡ suc (passed - streak) = omega (arith, s.counted) in
      ap (λ (j : ℕ). Ok (Some j)) number
      ∙ sym (first_is query rows (passed - streak) (omega arith) (record {
        passes = run_opens query rows (passed - streak) (omega (arith, s.counted)) (streak_full (certainly query rows) query.run s e full);
        none_before = λ j lt. run_broken query rows j (s.broken j (omega (arith, s.counted)));
      }))

  pub found_nowhere : length rows ≤ passed → (Ok None) ≡ first_run query rows
  found_nowhere h = sym (none_is query rows none)
    where
      none : (j : ℕ) → j < length rows → opens query rows j ≡ false
      none j lt =
          ⊎_elim (λ (past : length rows < j + query.run). run_too_long query rows j past) (λ (room : j + query.run ≤ length rows). run_broken query rows j (s.broken j (omega (arith, s.short)))) (before_or_past (length rows) (j + query.run))

  -- one row more, as the code counts on: the run is full ..
  pub counted_full : (more : Bool) → more ≡ certainly query rows passed → {next : ℕ} → next ≡ cond more (streak + 1) 0 → next ≡ query.run → passed < length rows → Ok (Some (passed + 1 - query.run + 1)) ≡ first_run query rows
  counted_full true e counts full h = found_here h (sym e) (omega arith)
  counted_full false e counts full h = absurd (omega (arith, s.short))

  -- .. or it is not
  pub counted_on : (more : Bool) → more ≡ certainly query rows passed → {next : ℕ} → next ≡ cond more (streak + 1) 0 → (next ≡ query.run → ⊥) → Streak (certainly query rows) query.run (passed + 1) next
  counted_on true e {next} counts short =
      let longer : next ≡ suc streak = omega arith in
      rw (add-one passed, longer) (streak_longer (certainly query rows) query.run s (sym e) (omega (arith, s.short, short)))
  counted_on false e counts short = rw (add-one passed, counts) (streak_broken (certainly query rows) query.run s (sym e))
