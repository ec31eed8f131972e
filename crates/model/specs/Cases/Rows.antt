-- Rows in arrays, and in a lent buffer.
use Rattle.std.specs.Prelude.{List, [], ◌∷◌, pos, neg_ℤ, replicate}
use Rattle.model.specs.Cases.Forms.{Case, lent, leaves, laid, laid_none}
use Rattle.model.specs.Cases.Sheets.{sheet_lines, none, two, wholes}

-- sheets with the places that they need and what they leave there, and rows in arrays
unfoldable pub rows_kept : List Case
rows_kept =
    -- two quantities, refused at step 2, with a place more than its rows need
    leaves (two "4194304" "100000") (replicate 19 (pos 7)) (pos 3 ∷ pos 18623147 ∷ pos 6444373 ∷ pos 87396 ∷ pos 87400 ∷ pos 14319601 ∷ pos 6051139 ∷ pos 19234831 ∷ pos 10726077 ∷ replicate 10 (pos 7))
    -- two quantities over one step take nine places
    ∷ lent (wholes none) 9 0
    ∷ lent (wholes none) 8 5
    -- an accepted passage of two rows in the lent buffer; one refused before step 1 leaves it as it was
    ∷ leaves (two "-4194304" "536870912") (replicate 19 (pos 9)) (pos 3 ∷ pos 14406997 ∷ pos 10594987 ∷ pos 87396 ∷ pos 87400 ∷ pos 14319601 ∷ pos 6051139 ∷ pos 19234831 ∷ pos 10726077 ∷ pos 2 ∷ pos 11473932 ∷ pos 12904591 ∷ pos 462862 ∷ pos 478082 ∷ pos 11011070 ∷ pos 7807301 ∷ pos 17802924 ∷ pos 13382673 ∷ pos 9 ∷ [])
    ∷ leaves (sheet_lines "2" "4194304" "349526" "7" "-5" "7" none) (replicate 9 (pos 9)) (replicate 9 (pos 9))
    -- the arrays of a row: 0 past its quantities
    ∷ laid (record { value = neg_ℤ (pos 5); radius = 6 } ∷ record { value = pos 7; radius = 8 } ∷ []) (record { low = neg_ℤ (pos 1); high = pos 2 } ∷ record { low = pos 3; high = pos 4 } ∷ []) (record { value = neg_ℤ (pos 5); radius = 6 } ∷ record { value = pos 7; radius = 8 } ∷ replicate 6 (record { value = pos 0; radius = 0 })) (record { low = neg_ℤ (pos 1); high = pos 2 } ∷ record { low = pos 3; high = pos 4 } ∷ replicate 6 (record { low = pos 0; high = pos 0 }))
    ∷ laid_none (replicate 8 (record { value = pos 0; radius = 0 })) (replicate 8 (record { low = pos 0; high = pos 0 }))
    ∷ []
