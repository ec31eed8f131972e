-- One rounded step, what the soundings leave open: the step back, several quantities, unlike terms, halves, a single step.
use Prim.Native.String.{◌++◌ as ◌&◌}
use Rattle.std.specs.Prelude.{List, [], ◌∷◌, ℤ, pos, neg_ℤ}
use Rattle.model.specs.Cases.Forms.{Case, prints, opens_at, opens, ends, steps}
use Rattle.model.specs.Cases.Sheets.{sheet_lines, term_lines, one, square, several, start_lines, two, term, missing, given, A_terms, A_given, A_by}
use Rattle.model.specs.Step.{Ball, Row}
use Rattle.model.specs.Passage.{moves, stops}
use Rattle.model.specs.declared.Refusal.TheVariants.{OutOfRange, NoReading, TooLarge, Intolerable}

-- A's start
abbrev pub A_start : List Ball
A_start = record { value = pos 16777216; radius = 0 } ∷ []

-- its row with this value: forward and back it has the same radius, low and high
abbrev pub A_row : ℤ → Row
A_row value =
    record { degree = 2; balls = record { value = value; radius = 349534 } ∷ []; spans = record { low = pos 11184802; high = pos 22369630 } ∷ [] }

-- steps with what they come to
unfoldable pub steps_taken : List Case
steps_taken =
    -- A, D, E and a term of one factor with the step back, and two quantities over two steps: Q alone keeps the step's sign, every size has |H|
    prints (A_by "-4194304") "row=1\ndegree=2\nvalue=13631488\nradius=349534\nlow=11184802\nhigh=22369630\nresult=0\nat=0\n"
    ∷ opens_at (A_by "-8388608") 6
    ∷ ends (A_by "-8388609") 7 1
    ∷ opens (sheet_lines "1" "-8388608" "2" "49" "0" "0" (one "0" "0")) 23 (neg_ℤ (pos 8388608)) 49
    ∷ opens (sheet_lines "1" "-8388608" "2" "51" "16777216" "0" (one "1" "0")) 23 (pos 10175897) 51
    ∷ prints (two "-4194304" "536870912") "row=1\ndegree=3\nvalue=14406997\nradius=87396\nlow=14319601\nhigh=19234831\nvalue=10594987\nradius=87400\nlow=6051139\nhigh=10726077\nrow=2\ndegree=2\nvalue=11473932\nradius=462862\nlow=11011070\nhigh=17802924\nvalue=12904591\nradius=478082\nlow=7807301\nhigh=13382673\nresult=0\nat=0\n"
    -- two quantities, refused at step 2
    ∷ prints (two "4194304" "100000") "row=1\ndegree=3\nvalue=18623147\nradius=87396\nlow=14319601\nhigh=19234831\nvalue=6444373\nradius=87400\nlow=6051139\nhigh=10726077\nresult=8\nat=2\n"
    -- a value of ten digits and a minus
    ∷ prints (sheet_lines "1" "-262144" "2" "536870912" "-536870912" "0" square) "row=1\ndegree=28\nvalue=-1073741822\nradius=73\nlow=-1073741895\nhigh=71\nresult=0\nat=0\n"
    -- a ratio of a quarter and a hair is rounded up, so that the tail of degree 2 is over the limit
    ∷ opens_at (sheet_lines "1" "4194304" "349526" "536870912" "16777216" "0" ("1\n" & term_lines "1" "16777217" "1" "1")) 3
    -- one step by itself: by the gathered terms, back, from another start, refused as a sheet, by its own tolerance, without a reading though it starts elsewhere
    ∷ steps (A_given (pos 4194304) 349534 (term 1 (pos 268435456) 1 1 ∷ term 1 (neg_ℤ (pos 251658240)) 1 1 ∷ [])) A_start (moves (A_row (pos 22020096)))
    ∷ steps (A_given (neg_ℤ (pos 4194304)) 349534 A_terms) A_start (moves (A_row (pos 13631488)))
    ∷ steps (A_given (pos 4194304) 349534 A_terms) (record { value = pos 536870912; radius = 1 } ∷ []) (stops TooLarge)
    ∷ steps (A_given (pos 4194304) 0 A_terms) A_start (stops OutOfRange)
    ∷ steps (A_given (pos 4194304) 349533 A_terms) A_start (stops Intolerable)
    ∷ steps (given 1 (pos 4194304) 349534 (missing 0 ∷ []) 0) A_start (stops NoReading)
    -- a term without factors where G is above s, and one of two factors over a step of almost one whole: each part of a size is rounded up, each product by itself, Q before v, and the tail is G's
    ∷ opens (sheet_lines "1" "16777216" "16777216" "536870912" "50000000" "3" (one "0" "0")) 1 (pos 66777216) 8472358
    ∷ opens (sheet_lines "1" "16777216" "1000000" "536870912" "-20000000" "1000" ("1\n" & term_lines "1" "3333333" "1" "1")) 2 (neg_ℤ (pos 16384985)) 349923
    ∷ opens (sheet_lines "1" "16777215" "1000000" "536870912" "-20000000" "1000" ("1\n" & term_lines "1" "3333333" "1" "1")) 2 (neg_ℤ (pos 16384984)) 349923
    -- three quantities, of which the middle one has the greatest reach and the greatest size; and is the one that questions 4 and 6 refuse
    ∷ prints (several "3" "8388608" "3000000" (start_lines "1000000" "1" & start_lines "-40000000" "1000" & start_lines "2000000" "2") ("3\n" & term_lines "3" "1000000" "1" "2" & term_lines "1" "-3000000" "0" "0" & term_lines "2" "10000000" "3" "0")) "row=1\ndegree=2\nvalue=-500000\nradius=1508344\nlow=-2008344\nhigh=4008344\nvalue=-39414542\nradius=1509345\nlow=-42115979\nhigh=-37884021\nvalue=1982766\nradius=1508348\nlow=366778\nhigh=3633222\nresult=0\nat=0\n"
    ∷ ends "n=3\nsteps=1\nstep=1\ntail=2\ntol=1\nstart=0\nradius=0\nstart=536870912\nradius=1\nstart=0\nradius=0\nterms=0\n" 6 1
    ∷ ends "n=3\nsteps=1\nstep=1\ntail=2\ntol=1\nstart=0\nradius=0\nstart=0\nradius=2\nstart=0\nradius=0\nterms=0\n" 8 1
    -- eight quantities, of which the last one has the greatest reach and the only term
    ∷ opens_at (let zero = start_lines "0" "0" in several "8" "8388608" "349526" (zero & zero & zero & zero & zero & zero & zero & start_lines "33554432" "0") ("1\n" & term_lines "8" "16777216" "8" "0")) 7
    -- unlike terms on one target, without factors, with one and with two: each part of a size is rounded up by itself; with one unit less it is not refused
    ∷ ends (sheet_lines "1" "16777216" "16777216" "536870912" "25165824" "0" ("3\n" & term_lines "1" "2" "0" "0" & term_lines "1" "8388605" "1" "0" & term_lines "1" "1" "1" "1")) 7 1
    ∷ prints (sheet_lines "1" "16777216" "16777216" "536870912" "25165824" "0" ("3\n" & term_lines "1" "2" "0" "0" & term_lines "1" "8388604" "1" "0" & term_lines "1" "1" "1" "1")) "row=1\ndegree=1\nvalue=37748734\nradius=12582919\nlow=-5\nhigh=50331653\nresult=0\nat=0\n"
    -- the v of unlike terms are added before they are divided, and their g; a quantity without terms has e = 1 at each order
    ∷ prints (several "2" "8388608" "1000" (start_lines "25165824" "3" & start_lines "8388608" "5") ("3\n" & term_lines "1" "2" "0" "0" & term_lines "1" "5592405" "1" "0" & term_lines "1" "4194305" "1" "2")) "row=1\ndegree=10\nvalue=31647325\nradius=467\nlow=18683856\nhigh=31647792\nvalue=8388608\nradius=444\nlow=8388164\nhigh=8389052\nresult=0\nat=0\n"
    -- unlike terms of either sign: every |A| counts in its sum, each v is rounded by itself, and so are the sizes before the ratio and the ratio before the tail; G is the reach of a quantity that is in no term
    ∷ prints (several "3" "13000000" "12000000" (start_lines "25000000" "1000" & start_lines "-30000000" "2" & start_lines "1000000" "36000000") ("5\n" & term_lines "1" "-500000" "0" "0" & term_lines "1" "4000000" "1" "0" & term_lines "1" "-100000" "2" "0" & term_lines "1" "1700000" "1" "1" & term_lines "1" "-1100000" "1" "2")) "row=1\ndegree=2\nvalue=37002902\nradius=8199829\nlow=4797269\nhigh=45202731\nvalue=-30000000\nradius=8198129\nlow=-38198129\nhigh=-21801871\nvalue=1000000\nradius=44198127\nlow=-43198127\nhigh=45198127\nresult=0\nat=0\n"
    -- halves go away from zero, above and below it, in Q, v and c, and in each product, where a quarter goes to zero; up(0, s) is 0 there
    ∷ prints (several "2" "8388608" "349526" (start_lines "2" "0" & start_lines "-2" "0") ("2\n" & term_lines "1" "8388608" "1" "0" & term_lines "2" "8388608" "2" "0")) "row=1\ndegree=2\nvalue=4\nradius=349532\nlow=-349532\nhigh=349536\nvalue=-4\nradius=349532\nlow=-349536\nhigh=349532\nresult=0\nat=0\n"
    ∷ prints (several "3" "16777216" "8388608" (start_lines "4096" "0" & start_lines "2048" "0" & start_lines "-2048" "0") ("3\n" & term_lines "1" "8388608" "2" "3" & term_lines "2" "8388608" "1" "2" & term_lines "3" "8388608" "1" "3")) "row=1\ndegree=1\nvalue=4096\nradius=8388611\nlow=-8384515\nhigh=8392707\nvalue=2049\nradius=8388611\nlow=-8386564\nhigh=8390660\nvalue=-2049\nradius=8388611\nlow=-8390660\nhigh=8386564\nresult=0\nat=0\n"
    -- a row of degree 0 has its tail too
    ∷ opens (sheet_lines "1" "1" "2" "2" "16777216" "0" square) 0 (pos 16777216) 2
    -- question 5 comes before question 6
    ∷ ends (sheet_lines "1" "8388609" "349526" "1" "16777216" "0" square) 7 1
    ∷ []
