-- What is promised of reading a setup, of every input and every place. Theorems of these names in small letters are in proofs/Promises.antt.
--
--   SetupReadsExactly    R8.15: the setups that are read are exactly the accepted ones, each as its own plan and as far as the place behind its 0x7F
--   ReadsWhole           R8.14: the same where the setup is the whole input
--   PlansWithin          R8.15: the plan of an accepted setup is within the numbers
--   LooksNoFurther       what is read depends on no byte behind the setup's 0x7F
--   SetupRefusesInside   R8.13: a refusal has a number of `refusals` and a place in the input, at its length only for 1; at 50 to 54 the wrong number begins there
--
-- Assumes nothing.
use Rattle.std.specs.Prelude.{ℕ, ◌≡◌, List, length, take}
use Rattle.std.proofs.Math.Option.{Option}
use Rattle.rules.specs.State.{Setting}
use Rattle.plan.specs.Read.{setup_read, setup_refused, read_plan, read_setup}
use Rattle.plan.specs.Accepted.{AcceptedSetup, PlanWithin, RefusedSetup}

unfoldable pub SetupReadsExactly : Type 0
SetupReadsExactly =
    (s : List ℕ) (at v : ℕ) (gs : List Setting) (n next : ℕ)
    → (read_plan s at ≡ setup_read v gs n next → AcceptedSetup s at v gs n next) × (AcceptedSetup s at v gs n next → read_plan s at ≡ setup_read v gs n next)

unfoldable pub ReadsWhole : Type 0
ReadsWhole =
    (s : List ℕ) (v : ℕ) (gs : List Setting) (n next : ℕ)
    → (read_setup s ≡ setup_read v gs n next → AcceptedSetup s 0 v gs n next × (next ≡ length s)) × (AcceptedSetup s 0 v gs n next → next ≡ length s → read_setup s ≡ setup_read v gs n next)

unfoldable pub PlansWithin : Type 0
PlansWithin = (s : List ℕ) (at v : ℕ) (gs : List Setting) (n next : ℕ) → AcceptedSetup s at v gs n next → PlanWithin s at v gs n next

-- R8.14. An input t that has the bytes of s as far as the place behind the setup's 0x7F is read alike, whatever stands behind it.
unfoldable pub LooksNoFurther : Type 0
LooksNoFurther = (s t : List ℕ) (at v : ℕ) (gs : List Setting) (n next : ℕ) → read_plan s at ≡ setup_read v gs n next → take next s ≡ take next t → read_plan t at ≡ setup_read v gs n next

unfoldable pub SetupRefusesInside : Type 0
SetupRefusesInside = (s : List ℕ) (at n : ℕ) (place : Option ℕ) → read_plan s at ≡ setup_refused n place → RefusedSetup s at n place
