-- A passage never reads past its counts: two sheets that are the same up to these have the same passage, whatever stands behind.
use Prim.Native.Nat.{ℕ, ◌<◌}
use mathlib.Core.Path.{◌≡◌, refl, sym, ap, ◌∙◌}
use lib.ListN.{get_or, take}
use lib.Seq.{get_or-take}
use Rattle.model.specs.Sheet.{no_quantity, no_term, listed, quantity_verdict, quantities_verdict, term_verdict, terms_verdict, sheet_verdict_to, sheet_verdict, terms_of, start_ball, starts_of}
use Rattle.model.specs.Passage.{run, passage, places_needed}
use Rattle.model.specs.declared.Sheet.{Sheet}
use Rattle.ranges.proofs.Ranges.{tabulate_equal}
use Rattle.laws.proofs.Passages.RowsOfPassage.{passage_alike}
use Rattle.laws.proofs.Text.Verdicts.{in_order_equal}

-- the numbers above the quantities of two sheets are the same, and so are the quantities and the terms that are counted
pub record SameToCounts (a b : Sheet) : Type 0 where
  pub head : a.head ≡ b.head
  pub quantities : take a.head.n a.quantities ≡ take b.head.n b.quantities
  pub count : a.terms.count ≡ b.terms.count
  pub terms : take a.terms.count a.terms.list ≡ take b.terms.count b.terms.list

-- a sheet with nothing past its counts
abbrev cut : Sheet → Sheet
cut sheet =
    record {
      head = sheet.head;
      quantities = take sheet.head.n sheet.quantities;
      terms = record { count = sheet.terms.count; list = take sheet.terms.count sheet.terms.list };
    }

cut_same : {a b : Sheet} → SameToCounts a b → cut a ≡ cut b
cut_same same =
    λ t. record {
      head = same.head t;
      quantities = same.quantities t;
      terms = record { count = same.count t; list = same.terms t };
    }

module _ (sheet : Sheet) where
  quantity_cut : (i : ℕ) → i < sheet.head.n → get_or sheet.quantities i no_quantity ≡ get_or (cut sheet).quantities i no_quantity
  quantity_cut i h = sym (get_or-take sheet.head.n sheet.quantities i no_quantity h)

  term_cut : (j : ℕ) → j < sheet.terms.count → get_or sheet.terms.list j no_term ≡ get_or (cut sheet).terms.list j no_term
  term_cut j h = sym (get_or-take sheet.terms.count sheet.terms.list j no_term h)

  verdict_cut : sheet_verdict sheet ≡ sheet_verdict (cut sheet)
  unfolding sheet_verdict_to quantities_verdict terms_verdict
  verdict_cut =
      rw (
        in_order_equal sheet.head.n (λ i. quantity_verdict (get_or sheet.quantities i no_quantity)) (λ i. quantity_verdict (get_or (cut sheet).quantities i no_quantity)) (λ i h. ap quantity_verdict (quantity_cut i h)),
        in_order_equal sheet.terms.count (λ j. term_verdict sheet.head.n (get_or sheet.terms.list j no_term)) (λ j. term_verdict sheet.head.n (get_or (cut sheet).terms.list j no_term)) (λ j h. ap (term_verdict sheet.head.n) (term_cut j h)),
      )

  starts_cut : starts_of sheet ≡ starts_of (cut sheet)
  unfolding starts_of
  starts_cut = tabulate_equal sheet.head.n _ _ (λ i h. ap start_ball (quantity_cut i h))

  terms_cut : terms_of sheet ≡ terms_of (cut sheet)
  unfolding terms_of listed
  terms_cut = tabulate_equal sheet.terms.count _ _ term_cut

  run_cut : run sheet ≡ run (cut sheet)
  unfolding run
  run_cut = rw (starts_cut, terms_cut)

  passage_cut : (places : ℕ) → passage sheet places ≡ passage (cut sheet) places
  unfolding places_needed
  passage_cut places = passage_alike sheet (cut sheet) places verdict_cut refl run_cut

pub passage_reads_to_counts : (a b : Sheet) → SameToCounts a b → (places : ℕ) → passage a places ≡ passage b places
passage_reads_to_counts a b same places =
    passage_cut a places ∙ ap (λ (sheet : Sheet). passage sheet places) (cut_same same) ∙ sym (passage_cut b places)
