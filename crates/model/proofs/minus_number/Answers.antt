-- `model::minus_number` meets its contract.
use Prim.Native.Nat.{ℕ, ◌^◌, ◌<◌}
use mathlib.Core.Path.{◌≡◌, ap, ◌∙◌}
use native.Mathlib.Omega.{arith}
use lib.IntN.{ℤ, pos, neg_ℤ, nat_abs, ◌-ℤ◌, +ℤ_idl}
use mir.Syntax.{w64}
use mir.Val.{to_z}
use mir.Facts.{to_z_pos}
use Rattle.rounding.proofs.Integers.{abs_neg}
use Rattle.rounding.proofs.Machine.{sfits_abs, below_fits, bits_are}
use Rattle.model.specs.Sheet.{number}
use Rattle.model.specs.declared.Refusal.{Refusal}
use Rattle.model.proofs.RefusalNumbers.{number_short}
use Rattle.model.proofs.minus_number.Goals as goal

-- 0 less a number's bits
minus_is : (r : Refusal) {m : ℕ} → m ≡ number r → pos 0 -ℤ to_z w64 m ≡ neg_ℤ (pos (number r))
minus_is r e = ap (λ (z : ℤ). pos 0 -ℤ z) (to_z_pos w64 (omega (arith, number_short r)) ∙ ap pos e) ∙ +ℤ_idl (neg_ℤ (pos (number r)))

minus_small : (r : Refusal) → nat_abs (neg_ℤ (pos (number r))) < 2 ^ 62
minus_small r = rw (abs_neg (pos (number r))) (omega (arith, number_short r))

pub overflow_cast-result : goal.overflow_cast-result
overflow_cast-result c = sfits_abs (omega (arith, c.number.ensures, number_short c.args.refusal))

pub overflow_sub-result : goal.overflow_sub-result
overflow_sub-result c = let r = c.args.refusal in below_fits (minus_is r c.number.ensures) (minus_small r)

pub returns : goal.returns
returns c = let r = c.args.refusal in bits_are (minus_is r c.number.ensures) (minus_small r)
