-- Every case of each table comes to what it should, by computation; and what holds of a table holds of each of its cases.
use mathlib.Core.List.{List, [], ◌∷◌}
use mathlib.Core.Path.{◌≡◌, refl, ap}
use lib.ListN.{get_or, drop}
use Rattle.ranges.proofs.Lists.{Each, none, entry_first}
use Rattle.model.specs.Cases.Forms.{Finding, text, Case, Hold, first_row}
use Rattle.model.specs.Cases.Sheets.{squares}
use Rattle.model.specs.Cases.Soundings.{soundings}
use Rattle.model.specs.Cases.Steps.{steps_taken}
use Rattle.model.specs.Cases.Rows.{rows_kept}
use Rattle.model.specs.Cases.Readings.{readings}
use Rattle.model.specs.Cases.Verdicts.{verdicts}
use Rattle.model.specs.Cases.Gathering.{gathering}
use Rattle.model.specs.Cases.Numbers.{numbers}
use Rattle.model.proofs.Definitions.{EveryDefinition}

pub soundings_hold : Hold soundings
unfolding EveryDefinition Hold first_row soundings
soundings_hold = refl

pub steps_hold : Hold steps_taken
unfolding EveryDefinition Hold first_row steps_taken
steps_hold = refl

pub rows_hold : Hold rows_kept
unfolding EveryDefinition Hold rows_kept
rows_hold = refl

pub readings_hold : Hold readings
unfolding EveryDefinition Hold first_row readings
readings_hold = refl

pub verdicts_hold : Hold verdicts
unfolding EveryDefinition Hold verdicts
verdicts_hold = refl

pub gathering_holds : Hold gathering
unfolding EveryDefinition Hold squares gathering
gathering_holds = refl

pub numbers_hold : Hold numbers
unfolding EveryDefinition Hold numbers
numbers_hold = refl

-- what holds of a table holds of each of its cases
pub each_holds : (cases : List Case) → Hold cases → Each (λ case. case.0 ≡ case.1) cases
unfolding Hold
each_holds [] e = none
each_holds (case ∷ cases) e = entry_first (ap (λ (findings : List Finding). get_or findings 0 (text [])) e) (each_holds cases (ap (drop 1) e))
