-- What an answer says: of a comparison, of another statement, and where it was tested. Assumes nothing.
use Prim.Native.Nat.{ℕ}
use mathlib.Core.Path.{◌≡◌, refl, sym}
use mathlib.Core.Bool.{Bool, true, false, false≢true}
use lib.Dec.{eqb}
use borrow.Author.Tests.{eqb-true, eqb-false}
use Rattle.round_test.specs.Shared.{Says}

-- an equation's test says what it tests, of any statement that comes to it
pub says-eqb : (P : Type 0) (a b : ℕ) → (a ≡ b → P) → (P → a ≡ b) → Says (eqb a b) P
says-eqb P a b f g = go (eqb a b) refl
  where
    go : (c : Bool) → eqb a b ≡ c → Says c P
    go true e = f (eqb-true a b e)
    go false e = λ p. eqb-false a b e (g p)

pub says-as : {P Q : Type 0} (b : Bool) → Says b P → (P → Q) → (Q → P) → Says b Q
says-as true s f g = f s
says-as false s f g = λ q. s (g q)

pub says-true : {P : Type 0} (b : Bool) → Says b P → b ≡ true → P
says-true true s e = s
says-true false s e = absurd (false≢true e)

pub says-false : {P : Type 0} (b : Bool) → Says b P → b ≡ false → P → ⊥
says-false true s e = absurd (false≢true (sym e))
says-false false s e = s
