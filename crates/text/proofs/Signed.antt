-- Laws of 64-bit signed numbers, as they are written. Assumes nothing.
use Prim.Native.Nat.{suc, ◌≤◌}
use native.Mathlib.Omega.{arith}
use mathlib.Core.Path.{◌≡◌, refl, sym, ◌∙◌}
use mathlib.Core.Bool.{true, false, false≢true}
use mathlib.Core.List.{◌∷◌}
use lib.IntN.{ℤ, pos, negsuc, nat_abs}
use lib.ListN.{length}
use lib.Signed.{lt_z}
use mir.Syntax.{w64}
use mir.Val.{SFits, to_z, of_z}
use mir.ValLaws.{to_z-of_z}
use Rattle.text.specs.Decimal.{decimal, signed}
use Rattle.text.proofs.Widths.{length-decimal, width-le}
use borrow.Author.Tests.{ltb-true}

abbrev read : ℤ → ℤ
read z = to_z w64 (of_z w64 z)

pub signed_below : (z : ℤ) → SFits w64 z → lt_z (read z) (pos 0) ≡ true → signed z ≡ 45 ∷ decimal (nat_abs z)
unfolding signed
signed_below (pos n) h t = absurd (omega (arith, ltb-true n 0 (rw (to_z-of_z w64 (pos n) h) at t)))
signed_below (negsuc n) h t = refl

pub signed-not-below : (z : ℤ) → SFits w64 z → lt_z (read z) (pos 0) ≡ false → signed z ≡ decimal (nat_abs z)
unfolding signed
signed-not-below (pos n) h t = refl
signed-not-below (negsuc n) h t = absurd (false≢true (sym t ∙ rw (to_z-of_z w64 (negsuc n) h)))

-- a sign and at most 19 digits
pub signed-most : (z : ℤ) → SFits w64 z → length (signed z) ≤ 20
unfolding signed
signed-most (pos n) h = omega (arith, length-decimal n, width-le n 19 (omega arith) (omega (arith, h.sfits)))
signed-most (negsuc n) h = omega (arith, length-decimal (suc n), width-le (suc n) 19 (omega arith) (omega (arith, h.sfits)))
