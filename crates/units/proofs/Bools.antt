-- Laws of tests. Assumes nothing.
use Prim.Native.Nat.{◌≤◌}
use native.Mathlib.Omega.{arith}
use mathlib.Core.Path.{◌≡◌, refl, sym}
use mathlib.Core.Bool.{Bool, true, false, ◌&&◌, ◌||◌, false≢true}
use Rattle.std.specs.Prelude.{if◌then◌else◌}

-- what holds of both branches, each under its test, holds of the choice
pub if-ind {κ} : {A : Type 0} (P : A → Type κ) (b : Bool) (x y : A) → (b ≡ true → P x) → (b ≡ false → P y) → P (if b then x else y)
if-ind P true x y f g = f refl
if-ind P false x y f g = g refl

pub if-same : {A : Type 0} (b : Bool) (x : A) → (if b then x else x) ≡ x
if-same true x = refl
if-same false x = refl

pub if-most : (b : Bool) → (if b then 1 else 0) ≤ 1
if-most true = omega arith
if-most false = omega arith

pub true-false : {A : Type 0} → true ≡ false → A
true-false e = absurd (false≢true (sym e))

pub and_parts : (a b : Bool) → (a && b) ≡ true → (a ≡ true) × (b ≡ true)
and_parts true b e = (refl, e)
and_parts false b e = absurd (false≢true e)

pub and-made : (a b : Bool) → a ≡ true → b ≡ true → (a && b) ≡ true
and-made a b p q = simp (p, q)

pub or_parts : (a b : Bool) → (a || b) ≡ false → (a ≡ false) × (b ≡ false)
or_parts true b e = true-false e
or_parts false b e = (refl, e)

pub or_right : (a b : Bool) → (a || b) ≡ true → a ≡ false → b ≡ true
or_right true b e f = true-false f
or_right false b e f = e

-- a test that cannot pass fails
pub not-passed : (b : Bool) → (b ≡ true → ⊥) → b ≡ false
not-passed true h = absurd (h refl)
not-passed false h = refl
