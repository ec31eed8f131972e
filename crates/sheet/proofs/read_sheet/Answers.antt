-- `sheet::read_sheet` meets its contract: question 1, then the parts of the sheet.
use Rattle.std.proofs.Common.{◌≡◌, ℕ, ◌<◌, ◌≤◌, List, length, sym, ap, ◌∙◌, arith}
use Rattle.std.proofs.lemmas.Result.{err_from_is_err_and}
use borrow.Author.Tests.{le-leb, lt-leb}
use Rattle.model.specs.Sheet.{most_bytes}
use Rattle.model.specs.Reading.{fault, ◌>>=◌, head, body, sheet, accepted, read_sheet_to}
use Rattle.model.specs.declared.Refusal.TheVariants.{Oversized}
use Rattle.laws.proofs.Text.Verdicts.{few_quantities}
use Rattle.laws.proofs.Text.Readings.{yields_head}
use Rattle.lines.proofs.Yielded.{yielded}
use Rattle.sheet_body.proofs.Arrays.{bind_parsed, bind_fault}
use Rattle.sheet.proofs.read_sheet.Goals as goal

-- a sheet that is too long is not read
too_long : (high : ℕ) (text : List ℕ) → most_bytes < length text → accepted (fault Oversized) ≡ read_sheet_to high text
unfolding read_sheet_to
too_long high text h = sym (rw (lt-leb (length text) most_bytes h, read_sheet_to))

-- a sheet that is not too long is read from the top, its head and then what follows
in_parts : (high : ℕ) (text : List ℕ) → length text ≤ most_bytes → accepted ((head high >>= body) text) ≡ read_sheet_to high text
unfolding read_sheet_to sheet
in_parts high text h = sym (rw (le-leb (length text) most_bytes h, read_sheet_to))

pub returns-then-text-gt-MOST_BYTES : goal.returns-then-text-gt-MOST_BYTES
returns-then-text-gt-MOST_BYTES c = too_long _ c.args.text.now (omega arith)

pub returns-in_err-head : goal.returns-in_err-head
returns-in_err-head c =
    let p = err_from_is_err_and c.from_residual.result c.from_residual.ensures.1 in
    rw (p.1, p.2) (ap accepted (sym (bind_fault (head c.args.most) body (sym c.in_err-head.ensures.read))) ∙ in_parts c.args.most c.args.text.now (omega arith))

pub read_body-requires : goal.read_body-requires
read_body-requires c = few_quantities _ _ (yielded (yields_head _) c.args.text.now c.in_ok-head.ensures.read)

pub returns : goal.returns
returns c =
    ap accepted (c.read_body.ensures ∙ sym (bind_parsed (head c.args.most) body (sym c.in_ok-head.ensures.read))) ∙ in_parts c.args.most c.args.text.now (omega arith)
