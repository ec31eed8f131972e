-- `conversion::convert_input` meets its contract.
use Prim.Native.Nat.{◌<◌}
use lib.ListN.{length, take}
use Rattle.std.proofs.Common.{rules}
use Rattle.model.specs.Sheet.{most_bytes}
use Rattle.stored.proofs.Conversion.{comes_out}
use Rattle.conversion.proofs.Converted.{alike_by_front}
use Rattle.conversion.proofs.convert_input.Goals as goal

pub returns-clause-comes_out : goal.returns-clause-comes_out
returns-clause-comes_out c = comes_out (take c.args.count c.args.sheet.now)

-- there is room for a byte more than a sheet may have
pub returns-clause-of_input : goal.returns-clause-of_input
returns-clause-of_input c =
    let room : most_bytes < length c.args.sheet.now = search rules in
    λ input e. alike_by_front (length c.args.sheet.now) input (take c.args.count c.args.sheet.now) room e
