-- Worked cases of document 02, CR 2 and CR 6, as one table: what a row assures, runs, and each refusal at its edge and in its order. proofs/Cases.antt has
-- the one theorem, that all of them hold.
use Rattle.std.specs.Prelude.{ℕ, suc, ◌-◌, List, [], ◌∷◌, ◌++◌, map, ◌≡◌, ℤ, pos, neg_ℤ, replicate, drop}
use Rattle.ranges.specs.Range.{tabulate}
use Rattle.model.specs.Sheet.{scale, most}
use Rattle.model.specs.Rows.{width}
use Rattle.clear_rule.specs.Clearance.{most_weight, most_place, first_clear, found_number}
use Rattle.clear_rule.specs.declared.Query.{Query}

-- n and a count, a buffer, a query, and the answer's number
pub record Case : Type 0 where
  pub n : ℕ
  pub count : ℕ
  pub buffer : List ℤ
  pub query : Query
  pub answer : ℤ

-- every case has its answer
unfoldable pub AllAnswered : List Case → Type 0
AllAnswered cases =
    map (λ case. found_number (first_clear case.n case.count case.buffer case.query)) cases ≡ map (λ case. case.answer) cases

-- a whole: as a weight, a quantity's own units
unfoldable pub whole : ℤ
whole = pos scale

-- the weights of one quantity and of two, with 0 past them
unfoldable pub one : ℤ → List ℤ
one weight = weight ∷ replicate 7 (pos 0)

unfoldable pub two : ℤ → ℤ → List ℤ
two first second = first ∷ second ∷ replicate 6 (pos 0)

-- weights, a base, a need and a run
unfoldable pub asking : List ℤ → ℤ → ℤ → ℕ → Query
asking weights base need run = record { weights = weights; base = base; need = need; run = run }

-- a row of one quantity: its degree, its value and its radius, its low and its high
unfoldable pub row : ℤ → ℤ → ℤ → ℤ → List ℤ
row value radius low high = pos 0 ∷ value ∷ radius ∷ low ∷ high ∷ []

-- so many rows of one quantity, and a query with the weight of a whole: at least so many units, for so many rows
unfoldable pub rows : ℕ → List ℤ → ℤ → ℕ → ℤ → Case
rows count buffer need run answer =
    record { n = 1; count = count; buffer = buffer; query = asking (one whole) (pos 0) need run; answer = answer }

-- one row of one quantity, for a run of one row: its low and its high; a value of 0 and a radius of 0 count nothing
unfoldable pub alone : ℤ → ℤ → List ℤ → ℤ → ℤ → ℤ → Case
alone low high weights base need answer =
    record { n = 1; count = 1; buffer = row (pos 0) (pos 0) low high; query = asking weights base need 1; answer = answer }

-- one row that is certain, with this query
unfoldable pub asked : Query → ℤ → Case
asked query answer = record { n = 1; count = 1; buffer = row (pos 0) (pos 0) (pos 9) (pos 9); query = query; answer = answer }

-- one row with these numbers, whose weight is 0
unfoldable pub unweighed : List ℤ → ℤ → Case
unweighed buffer answer = record { n = 1; count = 1; buffer = buffer; query = asking (one (pos 0)) (pos 0) (pos 0) 1; answer = answer }

-- no row, of n quantities, with a count and so many places
unfoldable pub bare : ℕ → ℕ → ℕ → Query → ℤ → Case
bare n count places query answer = record { n = n; count = count; buffer = replicate places (pos 0); query = query; answer = answer }

-- two rows that end with the same water, 12 within 3: one has 9 units all the way, and one has 5 on the way
unfoldable pub deep : List ℤ
deep = row (pos 12) (pos 3) (pos 9) (pos 15)

unfoldable pub shoal : List ℤ
shoal = row (pos 12) (pos 3) (pos 5) (pos 19)

-- one row of two quantities, of which the second, with this value, radius, low and high, has the weight 0
unfoldable pub second : ℤ → ℤ → ℤ → ℤ → ℤ → Case
second value radius low high answer =
    record {
      n = 2;
      count = 1;
      buffer = pos 0 ∷ pos 0 ∷ value ∷ pos 0 ∷ radius ∷ pos 0 ∷ low ∷ pos 0 ∷ high ∷ [];
      query = asking (one whole) (pos 0) (pos 0) 1;
      answer = answer;
    }

-- a row of eight quantities: values 1 to 8, radii 0, lows 0, 0, 2, 2, .. and highs 2, 4, 4, 6, ..; and weights of both signs, which come to 0
unfoldable pub eight : List ℤ
eight =
    pos 3 ∷ pos 1 ∷ pos 2 ∷ pos 3 ∷ pos 4 ∷ pos 5 ∷ pos 6 ∷ pos 7 ∷ pos 8 ∷ replicate 8 (pos 0)
    ++ (pos 0 ∷ pos 0 ∷ pos 2 ∷ pos 2 ∷ pos 4 ∷ pos 4 ∷ pos 6 ∷ pos 6 ∷ pos 2 ∷ pos 4 ∷ pos 4 ∷ pos 6 ∷ pos 6 ∷ pos 8 ∷ pos 8 ∷ pos 10 ∷ [])

-- a row of eight quantities that is all 0 but for one place
unfoldable pub zero_but : ℕ → ℤ → List ℤ
zero_but place number = replicate place (pos 0) ++ (number ∷ replicate (32 - place) (pos 0))

unfoldable pub weighed : List ℤ
weighed = neg_ℤ (pos 8) ∷ pos 5 ∷ neg_ℤ (pos 3) ∷ pos 9 ∷ pos 1 ∷ neg_ℤ (pos 9) ∷ pos 4 ∷ pos 9 ∷ []

-- the refusals' numbers, with a minus
unfoldable pub refusal : ℕ → ℤ
refusal number = neg_ℤ (pos number)

-- the table
unfoldable pub cases : List Case
cases =
    -- the low, at the need and one unit short of it; a negative weight takes the high; a base; a base and a need are units, and a weight of one unit
    -- counts a unit of a low as 1 ÷ s
    alone (pos 9) (pos 15) (one whole) (pos 0) (pos 9) (pos 1)
    ∷ alone (pos 9) (pos 15) (one whole) (pos 0) (pos 10) (pos 0)
    ∷ alone (neg_ℤ (pos 15)) (neg_ℤ (pos 9)) (one (neg_ℤ whole)) (pos 0) (pos 9) (pos 1)
    ∷ alone (neg_ℤ (pos 15)) (neg_ℤ (pos 9)) (one (neg_ℤ whole)) (pos 0) (pos 10) (pos 0)
    ∷ alone (pos 9) (pos 15) (one (neg_ℤ whole)) (pos 0) (neg_ℤ (pos 15)) (pos 1)
    ∷ alone (pos 9) (pos 15) (one (neg_ℤ whole)) (pos 0) (neg_ℤ (pos 14)) (pos 0)
    ∷ alone (pos 9) (pos 15) (one whole) (pos 4) (pos 13) (pos 1)
    ∷ alone (pos 9) (pos 15) (one whole) (pos 4) (pos 14) (pos 0)
    ∷ alone (pos 16777216) (pos 16777216) (one (pos 1)) (pos 0) (pos 1) (pos 1)
    ∷ alone (pos 16777215) (pos 16777216) (one (pos 1)) (pos 0) (pos 1) (pos 0)
    ∷ alone (neg_ℤ (pos 16777217)) (neg_ℤ (pos 16777216)) (one (neg_ℤ (pos 1))) (pos 0) (pos 1) (pos 1)
    ∷ alone (neg_ℤ (pos 16777216)) (neg_ℤ (pos 16777215)) (one (neg_ℤ (pos 1))) (pos 0) (pos 1) (pos 0)
    -- 12 within 3 at the end of the step, and from 5 to 19 on the way: what is certain at the end is not certain all the way
    ∷ rows 1 shoal (pos 9) 1 (pos 0)
    ∷ rows 1 shoal (pos 6) 1 (pos 0)
    ∷ rows 1 shoal (pos 5) 1 (pos 1)
    ∷ record { n = 1; count = 1; buffer = shoal; query = asking (one (neg_ℤ whole)) (pos 0) (neg_ℤ (pos 18)) 1; answer = pos 0 }
    ∷ record { n = 1; count = 1; buffer = shoal; query = asking (one (neg_ℤ whole)) (pos 0) (neg_ℤ (pos 19)) 1; answer = pos 1 }
    -- the value and the radius count nothing, and a low may be above its high
    ∷ rows 1 (row (neg_ℤ (pos 9)) (pos 99) (pos 9) (pos 9)) (pos 9) 1 (pos 1)
    ∷ rows 1 (row (pos 99) (pos 0) (pos 9) (pos 9)) (pos 10) 1 (pos 0)
    ∷ alone (pos 15) (pos 9) (one whole) (pos 0) (pos 15) (pos 1)
    ∷ alone (pos 15) (pos 9) (one whole) (pos 0) (pos 16) (pos 0)
    ∷ alone (pos 15) (pos 9) (one (neg_ℤ whole)) (pos 0) (neg_ℤ (pos 9)) (pos 1)
    ∷ alone (pos 15) (pos 9) (one (neg_ℤ whole)) (pos 0) (neg_ℤ (pos 8)) (pos 0)
    -- two quantities: the degree, two values, two radii, two lows, two highs
    ∷ record { n = 2; count = 1; buffer = pos 7 ∷ pos 20 ∷ pos 6 ∷ pos 3 ∷ pos 2 ∷ pos 16 ∷ pos 3 ∷ pos 24 ∷ pos 7 ∷ []; query = asking (two whole (neg_ℤ whole)) (pos 0) (pos 9) 1; answer = pos 1 }
    ∷ record { n = 2; count = 1; buffer = pos 7 ∷ pos 20 ∷ pos 6 ∷ pos 3 ∷ pos 2 ∷ pos 16 ∷ pos 3 ∷ pos 24 ∷ pos 7 ∷ []; query = asking (two whole (neg_ℤ whole)) (pos 0) (pos 10) 1; answer = pos 0 }
    -- runs: the first row is 1; a gap breaks a run; the first run, not the last; a run to the very end; one longer than the rows
    ∷ rows 6 (deep ++ shoal ++ deep ++ deep ++ deep ++ shoal) (pos 9) 1 (pos 1)
    ∷ rows 6 (deep ++ shoal ++ deep ++ deep ++ deep ++ shoal) (pos 9) 2 (pos 3)
    ∷ rows 6 (deep ++ shoal ++ deep ++ deep ++ deep ++ shoal) (pos 9) 3 (pos 3)
    ∷ rows 6 (deep ++ shoal ++ deep ++ deep ++ deep ++ shoal) (pos 9) 4 (pos 0)
    ∷ rows 6 (deep ++ shoal ++ deep ++ deep ++ deep ++ shoal) (pos 5) 6 (pos 1)
    ∷ rows 6 (deep ++ shoal ++ deep ++ deep ++ deep ++ shoal) (pos 5) 7 (pos 0)
    ∷ rows 3 (shoal ++ deep ++ deep) (pos 9) 2 (pos 2)
    ∷ rows 2 (shoal ++ deep ++ deep) (pos 9) 2 (pos 0)
    -- n 1..8 and a count 0..240, 3; the places that they need, 5
    ∷ bare 0 1 99 (asking (one whole) (pos 0) (pos 0) 1) (refusal 3)
    ∷ bare 8 5 165 (asking (one whole) (pos 0) (pos 0) 1) (pos 1)
    ∷ bare 9 1 99 (asking (one whole) (pos 0) (pos 0) 1) (refusal 3)
    ∷ bare 1 241 0 (asking (one whole) (pos 0) (pos 0) 1) (refusal 3)
    ∷ bare 1 240 0 (asking (one whole) (pos 0) (pos 0) 1) (refusal 5)
    ∷ bare 1 2 10 (asking (one whole) (pos 0) (pos 0) 2) (pos 1)
    ∷ bare 1 2 9 (asking (one whole) (pos 0) (pos 0) 2) (refusal 5)
    -- the query, 9: each number at both ends of its range; weights past n are not looked at
    ∷ asked (asking (one (pos most_weight)) (pos 0) (pos 0) 1) (pos 1)
    ∷ asked (asking (one (pos 67108865)) (pos 0) (pos 0) 1) (refusal 9)
    ∷ asked (asking (one (neg_ℤ (pos most_weight))) (pos 0) (pos 0) 1) (pos 0)
    ∷ asked (asking (one (neg_ℤ (pos 67108865))) (pos 0) (pos 0) 1) (refusal 9)
    ∷ asked (asking (two whole (pos 67108865)) (pos 0) (pos 0) 1) (pos 1)
    ∷ asked (asking (one whole) (pos most) (pos 0) 1) (pos 1)
    ∷ asked (asking (one whole) (pos 536870913) (pos 0) 1) (refusal 9)
    ∷ asked (asking (one whole) (neg_ℤ (pos most)) (pos 0) 1) (pos 0)
    ∷ asked (asking (one whole) (neg_ℤ (pos 536870913)) (pos 0) 1) (refusal 9)
    ∷ asked (asking (one whole) (pos 0) (pos most) 1) (pos 0)
    ∷ asked (asking (one whole) (pos 0) (pos 536870913) 1) (refusal 9)
    ∷ asked (asking (one whole) (pos 0) (neg_ℤ (pos most)) 1) (pos 1)
    ∷ asked (asking (one whole) (pos 0) (neg_ℤ (pos 536870913)) 1) (refusal 9)
    ∷ asked (asking (one whole) (pos 0) (pos 0) 0) (refusal 9)
    ∷ asked (asking (one whole) (pos 0) (pos 0) 240) (pos 0)
    ∷ asked (asking (one whole) (pos 0) (pos 0) 241) (refusal 9)
    -- the rows, 10: 2^31 is in range, of values, lows and highs with either sign; a radius is never negative; degrees are not looked at, nor are rows past
    -- the count
    ∷ unweighed (row (pos most_place) (pos most_place) (pos most_place) (pos most_place)) (pos 1)
    ∷ unweighed (row (neg_ℤ (pos most_place)) (pos 0) (neg_ℤ (pos most_place)) (neg_ℤ (pos most_place))) (pos 1)
    ∷ unweighed (row (pos 2147483649) (pos 0) (pos 0) (pos 0)) (refusal 10)
    ∷ unweighed (row (neg_ℤ (pos 2147483649)) (pos 0) (pos 0) (pos 0)) (refusal 10)
    ∷ unweighed (row (pos 0) (pos 2147483649) (pos 0) (pos 0)) (refusal 10)
    ∷ unweighed (row (pos 0) (neg_ℤ (pos 1)) (pos 0) (pos 0)) (refusal 10)
    ∷ unweighed (row (pos 0) (pos 0) (pos 2147483649) (pos 0)) (refusal 10)
    ∷ unweighed (row (pos 0) (pos 0) (neg_ℤ (pos 2147483649)) (pos 0)) (refusal 10)
    ∷ unweighed (row (pos 0) (pos 0) (pos 0) (pos 2147483649)) (refusal 10)
    ∷ unweighed (row (pos 0) (pos 0) (pos 0) (neg_ℤ (pos 2147483649))) (refusal 10)
    ∷ alone (pos most_place) (pos 0) (one whole) (pos 0) (pos 0) (pos 1)
    ∷ alone (pos 2147483649) (pos 0) (one whole) (pos 0) (pos 0) (refusal 10)
    ∷ alone (neg_ℤ (pos most_place)) (pos 0) (one whole) (pos 0) (pos 0) (pos 0)
    ∷ alone (pos 0) (neg_ℤ (pos most_place)) (one (neg_ℤ whole)) (pos 0) (pos 0) (pos 1)
    ∷ alone (pos 0) (neg_ℤ (pos 2147483649)) (one (neg_ℤ whole)) (pos 0) (pos 0) (refusal 10)
    ∷ rows 1 (row (pos 2147483649) (pos 0) (pos 9) (pos 9)) (pos 0) 1 (refusal 10)
    ∷ rows 1 (row (pos 9) (neg_ℤ (pos 1)) (pos 9) (pos 9)) (pos 0) 1 (refusal 10)
    ∷ rows 1 (row (pos 0) (pos 0) (pos 9) (pos 2147483649)) (pos 0) 1 (refusal 10)
    ∷ rows 1 (neg_ℤ (pos 5) ∷ drop 1 deep) (pos 0) 1 (pos 1)
    ∷ rows 1 (deep ++ row (pos 9) (neg_ℤ (pos 1)) (pos 2147483649) (pos 2147483649)) (pos 9) 1 (pos 1)
    -- all counted rows are asked before any search
    ∷ rows 3 (deep ++ deep ++ row (pos 9) (neg_ℤ (pos 1)) (pos 9) (pos 9)) (pos 9) 1 (refusal 10)
    ∷ rows 3 (deep ++ deep ++ row (pos 2147483649) (pos 0) (pos 9) (pos 9)) (pos 9) 1 (refusal 10)
    ∷ rows 3 (deep ++ deep ++ row (pos 9) (pos 0) (pos 9) (pos 2147483649)) (pos 9) 1 (refusal 10)
    -- their order: 3 before 5, 5 before 9, 9 before 10 and before none for no rows
    ∷ bare 9 240 0 (asking (one whole) (pos 0) (pos 0) 0) (refusal 3)
    ∷ bare 1 1 4 (asking (one whole) (pos 0) (pos 0) 0) (refusal 5)
    ∷ rows 1 (row (pos 9) (neg_ℤ (pos 1)) (pos 9) (pos 9)) (pos 0) 0 (refusal 9)
    ∷ bare 1 0 0 (asking (one whole) (pos 0) (pos 0) 0) (refusal 9)
    ∷ bare 1 0 0 (asking (one whole) (pos 0) (pos 0) 1) (pos 0)
    -- what the cases above leave open: a negative base; no weight at all; eight quantities, at the need and one part short of it
    ∷ alone (pos 9) (pos 15) (one whole) (neg_ℤ (pos 4)) (pos 5) (pos 1)
    ∷ alone (pos 9) (pos 15) (one whole) (neg_ℤ (pos 4)) (pos 6) (pos 0)
    ∷ alone (pos 9) (pos 15) (one (pos 0)) (pos 4) (pos 4) (pos 1)
    ∷ alone (pos 9) (pos 15) (one (pos 0)) (pos 4) (pos 5) (pos 0)
    ∷ alone (neg_ℤ (pos 15)) (neg_ℤ (pos 9)) (one (pos 0)) (pos 4) (pos 4) (pos 1)
    ∷ record { n = 8; count = 1; buffer = eight; query = asking weighed (pos 0) (pos 0) 1; answer = pos 1 }
    ∷ record { n = 8; count = 1; buffer = eight; query = asking (neg_ℤ (pos 9) ∷ drop 1 weighed) (pos 0) (pos 0) 1; answer = pos 0 }
    -- a run does not go on from the last row to the first; it may be all 240 rows
    ∷ rows 3 (deep ++ shoal ++ deep) (pos 9) 2 (pos 0)
    ∷ bare 1 240 1200 (asking (one whole) (pos 0) (pos 0) 240) (pos 1)
    -- n and the count are asked where there are no rows; the places of rows of more than one quantity; 5 before 10
    ∷ bare 0 0 0 (asking (one whole) (pos 0) (pos 0) 1) (refusal 3)
    ∷ bare 9 0 0 (asking (one whole) (pos 0) (pos 0) 1) (refusal 3)
    ∷ bare 2 1 8 (asking (one whole) (pos 0) (pos 0) 1) (refusal 5)
    ∷ bare 8 5 164 (asking (one whole) (pos 0) (pos 0) 1) (refusal 5)
    ∷ rows 2 (row (pos 9) (neg_ℤ (pos 1)) (pos 9) (pos 9)) (pos 0) 1 (refusal 5)
    -- every one of the n weights, values, radii, lows and highs is asked, whatever its weight, and the weights where there are no rows
    ∷ bare 2 1 9 (asking (two whole (pos 67108865)) (pos 0) (pos 0) 1) (refusal 9)
    ∷ bare 2 1 9 (asking (two whole (neg_ℤ (pos 67108865))) (pos 0) (pos 0) 1) (refusal 9)
    ∷ bare 1 0 0 (asking (one (pos 67108865)) (pos 0) (pos 0) 1) (refusal 9)
    ∷ record { n = 8; count = 1; buffer = zero_but 16 (neg_ℤ (pos 1)); query = asking (one whole) (pos 0) (pos 0) 1; answer = refusal 10 }
    ∷ second (pos most_place) (pos most_place) (neg_ℤ (pos most_place)) (pos most_place) (pos 1)
    ∷ second (pos 2147483649) (pos 0) (pos 0) (pos 0) (refusal 10)
    ∷ second (neg_ℤ (pos 2147483649)) (pos 0) (pos 0) (pos 0) (refusal 10)
    ∷ second (pos 0) (pos 2147483649) (pos 0) (pos 0) (refusal 10)
    ∷ second (pos 0) (neg_ℤ (pos 1)) (pos 0) (pos 0) (refusal 10)
    ∷ second (pos 0) (pos 0) (neg_ℤ (pos 2147483649)) (pos 0) (refusal 10)
    ∷ second (pos 0) (pos 0) (pos 0) (pos 2147483649) (refusal 10)
    -- a degree may be any number
    ∷ rows 1 (pos 9223372036854775807 ∷ drop 1 deep) (pos 0) 1 (pos 1)
    ∷ rows 1 (neg_ℤ (pos 9223372036854775808) ∷ drop 1 deep) (pos 0) 1 (pos 1)
    -- a low above its high is no refusal where the weight is 0 either; values and radii, lows and highs are parts of their own
    ∷ unweighed (row (pos 0) (pos 0) (pos 15) (pos 9)) (pos 1)
    ∷ second (neg_ℤ (pos most_place)) (pos most_place) (pos most_place) (neg_ℤ (pos most_place)) (pos 1)
    -- all four parts are asked of the rows between the first and the last too
    ∷ rows 3 (deep ++ row (pos 2147483649) (pos 0) (pos 9) (pos 9) ++ deep) (pos 9) 1 (refusal 10)
    ∷ rows 3 (deep ++ row (pos 9) (neg_ℤ (pos 1)) (pos 9) (pos 9) ++ deep) (pos 9) 1 (refusal 10)
    ∷ rows 3 (deep ++ row (pos 9) (pos 0) (pos 2147483649) (pos 9) ++ deep) (pos 9) 1 (refusal 10)
    ∷ rows 3 (deep ++ row (pos 9) (pos 0) (pos 9) (pos 2147483649) ++ deep) (pos 9) 1 (refusal 10)
    -- two rows of two quantities: a degree below 0 and lows above highs in the second; its second value out of range
    ∷ record { n = 2; count = 2; buffer = replicate 9 (pos 0) ++ (neg_ℤ (pos 5) ∷ pos 0 ∷ pos 0 ∷ pos 0 ∷ pos 0 ∷ pos 9 ∷ pos 9 ∷ pos 8 ∷ pos 8 ∷ []); query = asking (one whole) (pos 0) (pos 9) 1; answer = pos 2 }
    ∷ record { n = 2; count = 2; buffer = replicate 11 (pos 0) ++ (pos 2147483649 ∷ replicate 6 (pos 0)); query = asking (one whole) (pos 0) (pos 0) 1; answer = refusal 10 }
    -- a row past the third; a run that its third row breaks
    ∷ rows 6 (shoal ++ shoal ++ shoal ++ shoal ++ shoal ++ deep) (pos 9) 1 (pos 6)
    ∷ rows 5 (deep ++ deep ++ shoal ++ deep ++ deep) (pos 9) 4 (pos 0)
    -- a low is asked where the weight takes the high; a row past the third, for a run of three; a base does not count here; and a low above its high in a row
    -- past the third
    ∷ alone (pos 2147483649) (pos 0) (one (neg_ℤ whole)) (pos 0) (pos 0) (refusal 10)
    ∷ rows 5 (deep ++ deep ++ deep ++ deep ++ row (pos 2147483649) (pos 0) (pos 9) (pos 9)) (pos 9) 3 (refusal 10)
    ∷ record { n = 1; count = 1; buffer = row (pos 0) (neg_ℤ (pos 1)) (pos 9) (pos 9); query = asking (one whole) (pos 4) (pos 0) 1; answer = refusal 10 }
    ∷ rows 4 (deep ++ deep ++ deep ++ row (pos 0) (pos 0) (pos 15) (pos 9)) (pos 9) 4 (pos 1)
    -- every place of a row of eight quantities but its degree; every weight; n from 1 to 8, with the places of a row and with one fewer
    ∷ tabulate 32 (λ i. record { n = 8; count = 1; buffer = zero_but (suc i) (pos 2147483649); query = asking (one (pos 0)) (pos 0) (pos 0) 1; answer = refusal 10 })
    ++ tabulate 8 (λ i. bare 8 1 33 (asking (replicate i (pos 0) ++ (pos 67108865 ∷ replicate (7 - i) (pos 0))) (pos 0) (pos 0) 1) (refusal 9))
    ++ tabulate 8 (λ i. bare (suc i) 1 (width (suc i)) (asking (one whole) (pos 0) (pos 0) 1) (pos 1))
    ++ tabulate 8 (λ i. bare (suc i) 1 (width (suc i) - 1) (asking (one whole) (pos 0) (pos 0) 1) (refusal 5))
