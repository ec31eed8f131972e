-- Document 02, CR 4: like terms.
use Prim.Native.String.{◌++◌ as ◌&◌}
use Rattle.std.specs.Prelude.{List, [], ◌∷◌, pos, neg_ℤ}
use Rattle.model.specs.Cases.Forms.{Case, prints, reads, gathers}
use Rattle.model.specs.Cases.Sheets.{sheet_lines, term_lines, squares, A, A_answer, wholes, term}

-- sheets with like terms with their answers, and terms with what they are gathered into
unfoldable pub gathering : List Case
gathering =
    -- like terms: two that cancel wholly; two that nearly do, of which the first alone is refused; all are added before any drops out; a lone 0; the
    -- same factors in either order
    prints (A ("2\n" & squares ("16777216" ∷ "-16777216" ∷ []))) "row=1\ndegree=0\nvalue=16777216\nradius=0\nlow=16777216\nhigh=16777216\nresult=0\nat=0\n"
    ∷ prints (A ("2\n" & squares ("268435456" ∷ "-251658240" ∷ []))) A_answer
    ∷ prints (A ("1\n" & squares ("268435456" ∷ []))) "result=7\nat=1\n"
    ∷ prints (A ("3\n" & squares ("5" ∷ "-5" ∷ "16777216" ∷ []))) A_answer
    ∷ prints (A ("2\n" & term_lines "1" "0" "1" "0" & term_lines "1" "16777216" "1" "1")) A_answer
    ∷ prints (A ("2\n" & term_lines "1" "16777216" "1" "1" & term_lines "1" "0" "1" "0")) A_answer
    ∷ prints (wholes ("2\n" & term_lines "1" "16777216" "1" "2" & term_lines "1" "-16777216" "2" "1")) "row=1\ndegree=0\nvalue=16777216\nradius=0\nlow=16777216\nhigh=16777216\nvalue=16777216\nradius=0\nlow=16777216\nhigh=16777216\nresult=0\nat=0\n"
    -- a sum past the range of a coefficient is no refusal; the sheet keeps the terms as read
    ∷ prints (sheet_lines "1" "131072" "349526" "349642" "16777216" "0" ("2\n" & squares ("268435456" ∷ "268435456" ∷ []))) "row=1\ndegree=2\nvalue=22020096\nradius=349642\nlow=11184694\nhigh=22369738\nresult=0\nat=0\n"
    ∷ reads (wholes ("3\n" & term_lines "1" "5" "1" "2" & term_lines "2" "0" "2" "0" & term_lines "1" "-5" "2" "1")) (term 1 (pos 5) 1 2 ∷ term 2 (pos 0) 2 0 ∷ term 1 (neg_ℤ (pos 5)) 2 1 ∷ [])
    -- each sum stands in the place of the earliest, with its factors in that one's order; another target, another factor is not like; a sum past the range
    ∷ gathers (term 1 (pos 5) 1 2 ∷ term 2 (pos 7) 1 2 ∷ term 1 (neg_ℤ (pos 5)) 2 1 ∷ term 1 (pos 3) 2 1 ∷ []) (term 1 (pos 3) 1 2 ∷ term 2 (pos 7) 1 2 ∷ [])
    ∷ gathers (term 1 (pos 5) 1 1 ∷ term 1 (pos 6) 1 2 ∷ term 1 (pos 0) 2 0 ∷ term 1 (pos 7) 2 2 ∷ []) (term 1 (pos 5) 1 1 ∷ term 1 (pos 6) 1 2 ∷ term 1 (pos 7) 2 2 ∷ [])
    ∷ gathers (term 1 (pos 5) 1 1 ∷ term 1 (neg_ℤ (pos 5)) 1 1 ∷ []) []
    ∷ gathers (term 1 (pos 268435456) 0 0 ∷ term 1 (pos 268435456) 0 0 ∷ []) (term 1 (pos 536870912) 0 0 ∷ [])
    -- like terms behind one that is not like them, with their factors in the same order, and a sum of 1; a 0 that is the earliest keeps its place and its order
    ∷ gathers (term 1 (pos 5) 1 2 ∷ term 1 (pos 6) 2 0 ∷ term 1 (pos 7) 2 0 ∷ term 1 (pos 1) 0 0 ∷ []) (term 1 (pos 5) 1 2 ∷ term 1 (pos 13) 2 0 ∷ term 1 (pos 1) 0 0 ∷ [])
    ∷ gathers (term 1 (pos 0) 1 2 ∷ term 1 (pos 7) 1 1 ∷ term 1 (pos 5) 2 1 ∷ []) (term 1 (pos 5) 1 2 ∷ term 1 (pos 7) 1 1 ∷ [])
    ∷ []
