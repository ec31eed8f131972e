-- What a lent buffer must have for a row to be read there, and to be put there. Rows and quantities are counted from 0.
use Rattle.std.specs.Prelude.{ℕ, ◌+◌, ◌^◌, ◌≤◌, ◌<◌, List, ℤ, length, get_or}
use Rattle.model.specs.Sheet.{most_quantities}
use Rattle.model.specs.Rows.{values_part, radii_part, lows_part, highs_part, width, degree_place}
use Rattle.model.specs.Step.{no_ball}
use Rattle.model.specs.declared.Ball.{Ball}
use Rattle.rows.specs.declared.view.Part.{Part}
use Rattle.rows.specs.declared.view.Part.TheVariants.{Values, Radii, Lows, Highs}

-- a part's number
abbrev pub part_number : Part → ℕ
part_number Values = values_part
part_number Radii = radii_part
part_number Lows = lows_part
part_number Highs = highs_part

-- the places of row j can be counted in 64 bits, the rows being of n quantities; i may be n, the place behind a part
pub record HasPlace (n j i : ℕ) : Type 0 where
  pub few : n ≤ most_quantities
  pub quantity : i ≤ n
  pub counted : degree_place n j + width n < 2 ^ 64

-- it has all places of row j, the rows being of n quantities
pub record HasRow (n j : ℕ) (rows : List ℤ) : Type 0 where
  pub few : n ≤ most_quantities
  pub room : degree_place n j + width n ≤ length rows

-- it has all places of the first `count` rows
pub record HasRows (n count : ℕ) (rows : List ℤ) : Type 0 where
  pub few : n ≤ most_quantities
  pub room : degree_place n count ≤ length rows

-- the first n radii have no more than 63 bits
abbrev pub RadiiFit : ℕ → List Ball → Type 0
RadiiFit n balls = (i : ℕ) → i < n → (get_or balls i no_ball).radius < 2 ^ 63

-- it has row j, and the degree and the radii to be put there have no more than 63 bits
pub record Storable (n j degree : ℕ) (balls : List Ball) (rows : List ℤ) : Type 0 where
  pub place : HasRow n j rows
  pub degree_fits : degree < 2 ^ 63
  pub radii_fit : RadiiFit n balls
