-- R7.6: takes from an old table, and from the table that it was converted to.
--
--   OldTake     one take by the unit of that time, on its own bytes
--   OldTakes    takes in a row: from some bytes to others, with their answers
--   TakeChain   the same by today's public call
--   UntilTen    two lists of answers are the same, as far as both go, before the first list's first 10
--   SameTakes   the claim
--
-- The rules of a take have not changed: only the room of a lane and the clock's edge have, at which no take looks, and a put. An old table that its unit did
-- not make may be good and not stay so (R6.13); so a list of the old unit's takes may reach its 10. Assumes nothing.
use Rattle.std.specs.Prelude.{ℕ, ◌≤◌, ◌≡◌, ◌⊎◌, List, [], ◌∷◌, length}
use Rattle.std.proofs.Math.Option.{none}
use Rattle.rules.specs.Calls.{Reply, refused, take, step}
use Rattle.pages.specs.Device.{ruled, answered}
use Rattle.table.specs.Layout.{table_size}
use Rattle.scheduler.specs.Step.{UnitStep}
use Rattle.old_table.specs.Old.{old_meant, OldTable, OldEncodes}
use Rattle.convert.specs.Converts.{Converts}
use Rattle.std.specs.Prelude.{Result}
use Rattle.rules.specs.declared.Refusal.{Refusal}

-- 10 and nothing changed, or what the rules answer, and bytes that encode what they leave
pub data OldTake : List ℕ → Reply → List ℕ → Type 0 where
  refuses : {t : List ℕ} → (OldTable t → ⊥) → OldTake t (refused 10 none) t
  takes : {t u : List ℕ} → OldTable t → OldEncodes u (step (old_meant t) take).state → OldTake t (step (old_meant t) take).reply u

pub data OldTakes : List ℕ → List Reply → List ℕ → Type 0 where
  old_done : {t : List ℕ} → OldTakes t [] t
  old_then : {t u v : List ℕ} {r : Reply} {rs : List Reply} → OldTake t r u → OldTakes u rs v → OldTakes t (r ∷ rs) v

pub data TakeChain : List ℕ → List Reply → List ℕ → Type 0 where
  done : {t : List ℕ} → TakeChain t [] t
  then : {t u v : List ℕ} {r : Reply} {rs : List Reply} → UnitStep (ruled take) t (answered r) u → TakeChain u rs v → TakeChain t (r ∷ rs) v

unfoldable pub UntilTen : List Reply → List Reply → Type 0
UntilTen [] qs = Unit {0}
UntilTen (r ∷ rs) [] = Unit {0}
UntilTen (r ∷ rs) (q ∷ qs) = (r ≡ refused 10 none) ⊎ ((r ≡ q) × UntilTen rs qs)

unfoldable pub SameTakes : Type 0
SameTakes =
    (old before after : List ℕ) (a : Result (Unit {0}) Refusal) → table_size ≤ length before → OldTable old → Converts old before a after
    → (rs qs : List Reply) (u v : List ℕ) → OldTakes old rs u → TakeChain after qs v → UntilTen rs qs
