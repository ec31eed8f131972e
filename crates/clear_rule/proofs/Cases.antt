-- Every case of the table holds, by computation; and what holds of the table holds of each of its cases.
use mathlib.Core.List.{List, [], ◌∷◌}
use mathlib.Core.Path.{◌≡◌, refl, ap}
use lib.IntN.{ℤ, pos}
use lib.ListN.{get_or, drop}
use Rattle.ranges.specs.Range.{sum_ℤ, every, tabulate, least}
use Rattle.model.specs.Sheet.{scale, most, number, ask, ◌then◌, from◌to◌, ±◌, within, n_limits, in_range}
use Rattle.model.specs.Step.{no_span, no_row}
use Rattle.model.specs.Rows.{width, row_in, rows_in}
use Rattle.ranges.proofs.Lists.{Each, none, entry_first}
use Rattle.clear_rule.specs.Clearance.{weight, end_for, assured, certain, opens, first_run, count_limits, weight_limits, depth_limits, run_limits, row_value_limits, row_radius_limits, query_within, part_within, row_within, clear_verdict, first_clear, found_number}
use Rattle.clear_rule.specs.Cases.{Case, AllAnswered, whole, one, two, asking, row, rows, alone, asked, unweighed, bare, second, eight, zero_but, weighed, deep, shoal, refusal, cases}

pub cases_hold : AllAnswered cases
unfolding sum_ℤ every tabulate least scale most number ask ◌then◌ from◌to◌ ±◌ within n_limits in_range no_span width row_in rows_in no_row weight end_for assured certain opens first_run count_limits weight_limits depth_limits run_limits row_value_limits row_radius_limits query_within part_within row_within clear_verdict first_clear found_number AllAnswered whole one two asking row rows alone asked unweighed bare second eight zero_but weighed deep shoal refusal cases
cases_hold = refl

-- the case has its answer
abbrev Answered : Case → Type 0
Answered case = found_number (first_clear case.n case.count case.buffer case.query) ≡ case.answer

pub each_answered : (table : List Case) → AllAnswered table → Each Answered table
unfolding AllAnswered
each_answered [] e = none
each_answered (case ∷ table) e = entry_first (ap (λ (answers : List ℤ). get_or answers 0 (pos 0)) e) (each_answered table (ap (drop 1) e))
