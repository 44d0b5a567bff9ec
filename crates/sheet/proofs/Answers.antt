-- What `line_step` answers, by its tests, and what the tests say of a byte.
-- Assumes nothing.
use Prim.Native.Nat.{ℕ, ◌+◌, ◌≤◌}
use native.Mathlib.Omega.{arith}
use mathlib.Core.Path.{◌≡◌, refl}
use mathlib.Core.Bool.{Bool, true, false, ◌&&◌}
use lib.Dec.{leb, ltb, eqb}
use borrow.Author.Tests.{leb-true, ltb-true, eq-eqb, ne_eqb}
use Rattle.units.proofs.Bools.{and_parts}
use Rattle.sheet.specs.Form.{is_digit, extends, stop, grown, number_closed, line_step}
use Rattle.sheet.specs.declared.form.Line.{Line}
use Rattle.sheet.specs.declared.form.Step.TheVariants.{More, Wrong}

module _ (f : Line) (at b : ℕ) where
  pub step-digit : is_digit b ≡ true → extends f.begun f.last.value ≡ true → More (grown f b) ≡ line_step f at b
  unfolding line_step
  step-digit d o = rw (d, o)

  pub step-many : is_digit b ≡ true → extends f.begun f.last.value ≡ false → Wrong ≡ line_step f at b
  unfolding line_step
  step-many d o = rw (d, o)

  pub step-stop : is_digit b ≡ false → f.begun ≡ true → b ≡ stop f.part → number_closed f.part f (at + 1) ≡ line_step f at b
  unfolding line_step
  step-stop d h e = let t : (f.begun && eqb b (stop f.part)) ≡ true = rw h (eq-eqb b (stop f.part) e) in rw (d, t)

  pub step_other : is_digit b ≡ false → (b ≡ stop f.part → ⊥) → f.begun ≡ true → Wrong ≡ line_step f at b
  unfolding line_step
  step_other d e h = let t : (f.begun && eqb b (stop f.part)) ≡ false = rw h (ne_eqb b (stop f.part) e) in rw (d, t)

  pub step-none : is_digit b ≡ false → f.begun ≡ false → Wrong ≡ line_step f at b
  unfolding line_step
  step-none d h = let t : (f.begun && eqb b (stop f.part)) ≡ false = rw h in rw (d, t)

pub digit-is : (b : ℕ) → is_digit b ≡ true → (48 ≤ b) × (b ≤ 57)
digit-is b d = let t = and_parts (leb 48 b) (leb b 57) d in (leb-true 48 b t.0, leb-true b 57 t.1)

pub extends-low : (begun : Bool) (v : ℕ) → extends begun v ≡ true → (begun ≡ false → v ≡ 0) → v ≤ 9999
extends-low false v o z = omega (arith, z refl)
extends-low true v o z = let t = and_parts (ltb 0 v) (ltb v 10000) o in omega (arith, ltb-true v 10000 t.1)
