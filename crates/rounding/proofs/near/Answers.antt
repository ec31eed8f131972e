-- `rounding::near` meets its contract. The magnitude is rounded, and the sign put back.
use Prim.Native.Nat.{ℕ, ◌<◌, ◌^◌}
use mathlib.Core.Path.{◌≡◌, sym, ap, ◌∙◌, subst}
use mathlib.Core.Bool.{false}
use native.Mathlib.Omega.{arith}
use lib.IntN.{ℤ, pos, neg_ℤ, nat_abs}
use lib.Signed.{lt_z}
use mir.Syntax.{w64}
use mir.Val.{SFits, to_z, of_z}
use mir.Facts.{to_z-of_z, to_z_pos}
use Rattle.rounding.specs.Rounding.{near, near_ℕ}
use Rattle.rounding.proofs.Machine.{abs_of_fits, not_negative, sign_test}
use Rattle.rounding.proofs.Roundings.{near_ℕ_le, near_negative, near_natural}
use Rattle.rounding.proofs.near.Goals as goal

-- what the two calls give, of the number itself and not of its bits
rounded : {n : ℤ} {a m : ℕ} (d : ℕ) → SFits w64 n → a ≡ nat_abs (to_z w64 (of_z w64 n)) → m ≡ near_ℕ a d → m ≡ near_ℕ (nat_abs n) d
rounded d f e r = rw (e, to_z-of_z f) at r

-- the magnitude's quotient fits as the number itself does
natural_fits : (n : ℤ) {d m : ℕ} → SFits w64 n → lt_z n (pos 0) ≡ false → 0 < d → m ≡ near_ℕ (nat_abs n) d → m < 2 ^ 63
natural_fits n f t h e = omega (arith, near_ℕ_le (nat_abs n) h, (subst (λ (z : ℤ). SFits w64 z) (not_negative n t) f).sfits)

natural_result : (n : ℤ) {d m : ℕ} → SFits w64 n → lt_z n (pos 0) ≡ false → 0 < d → m ≡ near_ℕ (nat_abs n) d → to_z w64 m ≡ near n d
natural_result n {d} {m} f t h e =
    to_z_pos w64 (natural_fits n f t h e) ∙ ap pos e ∙ sym (ap (λ (z : ℤ). near z d) (not_negative n t) ∙ near_natural (nat_abs n) d)

pub negated-requires : goal.negated-requires
negated-requires c =
    omega (arith, rounded c.args.d c.ranges.n c.unsigned_abs.ensures.value c.near_magnitude-m.ensures, near_ℕ_le (nat_abs c.args.n) c.requires, abs_of_fits c.ranges.n)

pub overflow_cast-result : goal.overflow_cast-result
overflow_cast-result c =
    record
    { sfits = natural_fits c.args.n c.ranges.n (sign_test c.ranges.n c.if-n-lt0.false) c.requires (rounded c.args.d c.ranges.n c.unsigned_abs.ensures.value c.near_magnitude-m.ensures) }

pub returns-then-n-lt0 : goal.returns-then-n-lt0
returns-then-n-lt0 c =
    to_z-of_z {w = w64} (record { sfits = c.negated.type_inv }) ∙ c.negated.ensures ∙ ap (λ (m : ℕ). neg_ℤ (pos m)) (rounded c.args.d c.ranges.n c.unsigned_abs.ensures.value c.near_magnitude-m.ensures) ∙ sym (near_negative c.args.n c.args.d (sign_test c.ranges.n c.if-n-lt0.true))

pub returns-else-n-lt0 : goal.returns-else-n-lt0
returns-else-n-lt0 c =
    natural_result c.args.n c.ranges.n (sign_test c.ranges.n c.if-n-lt0.false) c.requires (rounded c.args.d c.ranges.n c.unsigned_abs.ensures.value c.near_magnitude-m.ensures)
