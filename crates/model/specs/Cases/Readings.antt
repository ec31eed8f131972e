-- Questions 1 and 2: a sheet's text.
use Prim.Native.String.{◌++◌ as ◌&◌}
use Rattle.std.specs.Prelude.{List, [], ◌∷◌, pos}
use Rattle.model.specs.Cases.Forms.{Case, prints, opens, alone, garbled, takes, fails, zeros}
use Rattle.model.specs.Cases.Sheets.{sheet_lines, square, A, A_by, A_from}

-- texts with what comes of them
unfoldable pub readings : List Case
readings =
    -- questions 1 and 2: a sheet with a byte more, no byte at all, a number of nine digits and one of ten, what stands past the counts, texts of the
    -- most bytes and of one more
    fails (A square & "\n") "2"
    ∷ garbled 0 2
    ∷ fails (A_from "999999999" "0") "3"
    ∷ fails (A_from "1000000000" "0") "2"
    ∷ alone (A square)
    ∷ garbled 4096 2
    ∷ garbled 4097 1
    -- a line: its spelling and its line feed decide before its range, and it before the lines below; `none` is a start's alone
    ∷ fails (A_from "999999999 " "0") "2"
    ∷ fails (A "33") "2"
    ∷ fails (A_by "04194304") "2"
    ∷ fails (A_from "-0" "0") "2"
    ∷ fails (A_from "16777216" "-1") "2"
    ∷ fails (sheet_lines "241" "none" "349526" "349534" "16777216" "0" square) "3"
    ∷ fails (sheet_lines "240" "none" "349526" "349534" "16777216" "0" square) "2"
    ∷ fails (A_from "none" "none") "4"
    -- the step: a minus, never before 0; 0 and a step of more than one whole are spelled rightly, ten digits are not; the ends of its range
    ∷ fails (A_by "0") "3"
    ∷ fails (A_by "-0") "2"
    ∷ prints (A_by "-16777216") "result=7\nat=1\n"
    ∷ fails (A_by "-16777217") "3"
    ∷ fails (A_by "-1000000000") "2"
    ∷ opens (A_by "-1") 0 (pos 16777216) 2
    ∷ opens (A_by "1") 0 (pos 16777216) 2
    ∷ prints (A_by "16777216") "result=7\nat=1\n"
    ∷ fails (A_by "16777217") "3"
    -- a reader of more steps, which the conversion of stored sheets has
    ∷ takes 401 (sheet_lines "401" "4194304" "349526" "349534" "16777216" "0" square) 0
    ∷ takes 401 (sheet_lines "402" "4194304" "349526" "349534" "16777216" "0" square) 3
    -- each line by its own range: a text that ends behind the line is refused by 3 where its number is not in range, and by 2 otherwise
    ∷ fails "n=0\n" "3"
    ∷ fails "n=8\n" "2"
    ∷ fails "n=9\n" "3"
    ∷ fails "n=1\nsteps=1\nstep=1\ntail=1\n" "3"
    ∷ fails "n=1\nsteps=1\nstep=1\ntail=16777217\n" "3"
    ∷ fails "n=1\nsteps=1\nstep=1\ntail=16777216\ntol=536870912\n" "2"
    ∷ fails (A_from "none " "0") "2"
    ∷ fails (A "33\n") "3"
    ∷ fails (A "1\nto=0\n") "3"
    ∷ fails (A "1\nto=2\n") "3"
    ∷ fails (A "1\nto=1\ncoef=268435457\n") "3"
    ∷ fails (A "1\nto=1\ncoef=-268435456\nfirst=2\n") "3"
    ∷ fails (A "1\nto=1\ncoef=0\nfirst=0\nsecond=1\n") "3"
    ∷ fails (A "1\nto=1\ncoef=0\nfirst=1\nsecond=2\n") "3"
    -- a line ends in a line feed and in no other byte, a key is spelled as it is, and nothing follows the last line
    ∷ fails "n=1\tsteps=241\n" "2"
    ∷ fails "n=1\rsteps=241\n" "2"
    ∷ fails "N=9\n" "2"
    ∷ fails (A square & " ") "2"
    -- a minus before a number that has none is misspelt and not out of range, and only a start has no reading
    ∷ fails "n=-1\n" "2"
    ∷ fails "n=1\nsteps=-1\n" "2"
    ∷ fails "n=1\nsteps=1\nstep=1\ntail=-1\n" "2"
    ∷ fails "n=1\nsteps=1\nstep=1\ntail=2\ntol=-1\n" "2"
    ∷ fails (A_from "16777216" "-1") "2"
    ∷ fails (A_from "16777216" "none") "2"
    ∷ fails (A_from "" "0") "2"
    ∷ fails (A "-1\n") "2"
    ∷ fails (A "1\nto=-1\n") "2"
    ∷ fails (A "1\nto=1\ncoef=none\n") "2"
    ∷ fails (A "1\nto=1\ncoef=0\nfirst=-1\n") "2"
    ∷ fails (A "1\nto=1\ncoef=0\nfirst=1\nsecond=-1\n") "2"
    -- a refused text is the sheet of zeros
    ∷ zeros (A square & "\n") 2
    ∷ []
