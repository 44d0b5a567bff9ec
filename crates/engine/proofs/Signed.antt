-- The difference of two natural numbers as a 64-bit signed number: exact, with its sign. Assumes nothing.
use Prim.Native.Nat.{ℕ, zero, suc, ◌^◌, ◌≤◌, ◌<◌}
use native.Mathlib.Nat.{add-zero, sub-zero}
use native.Mathlib.Omega.{arith}
use mathlib.Core.Path.{◌≡◌, refl, ap, ◌∙◌}
use mathlib.Core.Logic.{⊎_elim}
use lib.IntN.{ℤ, pos, sub_ℕ, ◌-ℤ◌}
use mir.Syntax.{w64}
use mir.Val.{SFits, to_z, of_z}
use mir.ValLaws.{to_z_pos, to_z-of_z}
use borrow.Author.Tests.{lt-ltb, le-ltb}
use Rattle.words.proofs.Runs.{le-or-lt}

pos-sub : (a b : ℕ) → pos a -ℤ pos b ≡ sub_ℕ a b
pos-sub a zero = rw (le-ltb a 0 (omega arith), add-zero, sub-zero)
pos-sub a (suc b) = refl

sub-range : (a b : ℕ) → a < 2 ^ 63 → b < 2 ^ 63 → SFits w64 (sub_ℕ a b)
sub-range a b ha hb =
    ⊎_elim
    (λ (h : b ≤ a). rw (le-ltb a b h) (record { sfits = omega arith }))
    (λ (h : a < b). rw (lt-ltb a b h) (record { sfits = omega arith }))
    (le-or-lt b a)

-- what `(a as i64) - (b as i64)` is
diff_is : (a b : ℕ) → a < 2 ^ 63 → b < 2 ^ 63 → to_z w64 a -ℤ to_z w64 b ≡ sub_ℕ a b
diff_is a b ha hb = rw (to_z_pos w64 a ha, to_z_pos w64 b hb) (pos-sub a b)

pub diff-fits : (a b : ℕ) → a < 2 ^ 63 → b < 2 ^ 63 → SFits w64 (to_z w64 a -ℤ to_z w64 b)
diff-fits a b ha hb = rw (diff_is a b ha hb) (sub-range a b ha hb)

pub diff-read : (a b : ℕ) → a < 2 ^ 63 → b < 2 ^ 63 → to_z w64 (of_z w64 (to_z w64 a -ℤ to_z w64 b)) ≡ sub_ℕ a b
diff-read a b ha hb = ap (λ (z : ℤ). to_z w64 (of_z w64 z)) (diff_is a b ha hb) ∙ to_z-of_z w64 (sub_ℕ a b) (sub-range a b ha hb)
