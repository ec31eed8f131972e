-- `answer::answer_input` meets its contract.
use Prim.Native.Nat.{◌<◌}
use lib.ListN.{length, take}
use Rattle.std.proofs.Common.{rules}
use Rattle.model.specs.Sheet.{most_bytes}
use Rattle.answer.proofs.Answered.{answer_trusted, answer_spanned, alike_by_front}
use Rattle.answer.proofs.answer_input.Goals as goal

pub returns-clause-trusted : goal.returns-clause-trusted
returns-clause-trusted c = answer_trusted (take c.args.count c.args.sheet.now)

pub returns-clause-spanned : goal.returns-clause-spanned
returns-clause-spanned c = answer_spanned (take c.args.count c.args.sheet.now)

-- there is room for a byte more than a sheet may have
pub returns-clause-of_input : goal.returns-clause-of_input
returns-clause-of_input c =
    let room : most_bytes < length c.args.sheet.now = search rules in
    λ input e. alike_by_front (length c.args.sheet.now) input (take c.args.count c.args.sheet.now) room e
