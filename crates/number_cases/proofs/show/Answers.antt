-- `number_cases::show` meets its contract: both lines fit, that of a number in its range and that of a number that was read.
use Rattle.std.proofs.Common.{◌<◌, ◌^◌, ◌≡◌, refl, sym, ap, arith, nat_abs, length, List, [], ℕ}
use mir.Syntax.{w64}
use mir.Val.{SFits}
use mir.Facts.{to_z-of_z}
use Rattle.ranges.specs.Range.{bytes}
use Rattle.rounding.proofs.Machine.{below_fits}
use Rattle.number_cases.proofs.Sizes.{length_line, read_small}
use Rattle.number_cases.proofs.show.Goals as goal

none : {text : List ℕ} → text ≡ [] → length text ≡ 0
none e = ap length e

pub line-requires : goal.line-requires
unfolding bytes
line-requires c =
    rw (to_z-of_z c.ranges.number) (omega arith, (c.requires, omega (arith, none c.new-printed.ensures, length_line (bytes "number=") c.args.number (omega arith) c.requires)))

pub line-requires-3 : goal.line-requires-3
unfolding bytes
line-requires-3 c =
    let small : nat_abs c.in-Some.z < 2 ^ 32 = read_small _ _ (sym c.in-Some.ensures.read) in
    let fits : SFits w64 c.in-Some.z = below_fits refl (omega arith) in
    rw (to_z-of_z fits) (omega arith, (small, omega (arith, none c.new-again.ensures, length_line (bytes "read=") c.in-Some.z (omega arith) small)))
