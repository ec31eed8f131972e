-- `sheet_text::put_terms` meets its contract.
use mathlib.Core.Path.{sym}
use mathlib.Core.List.{flatten, append-nil}
use native.Mathlib.Omega.{arith}
use Rattle.ranges.specs.Range.{tabulate}
use Rattle.model.specs.Sheet.{no_term}
use Rattle.printing.proofs.Pieces.{added_turn}
use Rattle.printing.proofs.TextsInOrder.{pieces_grow}
use Rattle.sheet_text.proofs.put_terms.Invariants.{first, lines_of}
use Rattle.sheet_text.proofs.put_terms.Goals as goal

pub loop-term-init : goal.loop-term-init
unfolding tabulate flatten
loop-term-init c = record { put = sym (append-nil _); bounded = omega arith }

-- the lines of the next one
pub loop-term-preserved : goal.loop-term-preserved
unfolding no_term
loop-term-preserved c =
    record {
      put = added_turn (first c.args.terms.now) (lines_of c.args.terms.now) (pieces_grow (lines_of c.args.terms.now)) _ c.loop-term.term-index c.loop-term.invariant.put c.put_term.ensures.put;
      bounded = omega (arith, c.loop-term.invariant.bounded, c.put_term.ensures.bounded);
    }
