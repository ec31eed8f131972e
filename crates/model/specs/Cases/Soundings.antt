-- Document 01's soundings A to J, as documents 01 and 02 have them now.
use Rattle.std.specs.Prelude.{List, [], ◌∷◌, pos, negsuc}
use Rattle.model.specs.Cases.Forms.{Case, prints, opens_at, opens, ends, lent, near_is, up_is}
use Rattle.model.specs.Cases.Sheets.{sheet_lines, none, one, square, A, A_answer, A_by}

-- A to J, in document 01's order
unfoldable pub soundings : List Case
soundings =
    -- A
    prints (A square) A_answer
    -- B
    ∷ opens (sheet_lines "1" "4194304" "349525" "87393" "16777216" "0" square) 3 (pos 22282240) 87393
    -- C
    ∷ prints (sheet_lines "1" "4194304" "349526" "349533" "16777216" "0" square) "result=8\nat=1\n"
    -- D
    ∷ opens_at (A_by "8388608") 6
    ∷ ends (A_by "8388609") 7 1
    -- E
    ∷ opens (sheet_lines "1" "8388608" "2" "49" "0" "0" (one "0" "0")) 23 (pos 8388608) 49
    -- F
    ∷ prints (sheet_lines "1" "4194304" "349526" "7" "-5" "7" none) "row=1\ndegree=0\nvalue=-5\nradius=7\nlow=-12\nhigh=2\nresult=0\nat=0\n"
    ∷ prints (sheet_lines "2" "4194304" "349526" "7" "-5" "7" none) "row=1\ndegree=0\nvalue=-5\nradius=7\nlow=-12\nhigh=2\nrow=2\ndegree=0\nvalue=-5\nradius=7\nlow=-12\nhigh=2\nresult=0\nat=0\n"
    -- G
    ∷ ends (sheet_lines "1" "4194304" "349526" "1" "536870912" "0" none) 0 0
    ∷ ends (sheet_lines "1" "4194304" "349526" "1" "536870912" "1" none) 6 1
    -- H
    ∷ opens_at (sheet_lines "1" "8388608" "2" "536870912" "536870912" "0" (one "1" "0")) 28
    -- I
    ∷ near_is (pos 3) 2 (pos 2)
    ∷ near_is (negsuc 2) 2 (negsuc 1)
    ∷ near_is (negsuc 0) 2 (negsuc 0)
    ∷ near_is (pos 5) 4 (pos 1)
    ∷ up_is 1 2 1
    ∷ up_is 0 7 0
    -- J
    ∷ lent (sheet_lines "2" "4194304" "349526" "349534" "0" "0" none) 10 0
    ∷ lent (sheet_lines "2" "4194304" "349526" "349534" "0" "0" none) 9 5
    ∷ []
