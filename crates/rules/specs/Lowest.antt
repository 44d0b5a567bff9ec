-- What the least R of the lanes that pass a test is, as a property (R3.14).
--
--   LowestOf     r is the R of a lane that passes, and no lane that passes has a smaller one
--   LowOf        what an answer says: nothing, no lane passes; a number, it is the lowest
--   LowestRule   the R to which V is moved when no lane is eligible is so, of all lanes that hold records
--
-- Assumes nothing.
use Rattle.std.specs.Prelude.{ℕ, ◌≤◌, ◌≡◌, Bool, true, false, List, get_or}
use Rattle.std.proofs.Math.Option.{Option, none, some}
use Rattle.rules.specs.State.{Lane, start_r, holds, no_lane}
use Rattle.rules.specs.Choice.{least_of}

pub record LowestOf (p : Lane → Bool) (ls : List Lane) (r : ℕ) : Type 0 where
  pub at : ℕ
  pub is : p (get_or ls at no_lane) ≡ true
  pub start : start_r (get_or ls at no_lane) ≡ r
  pub bound : (k : ℕ) → p (get_or ls k no_lane) ≡ true → r ≤ start_r (get_or ls k no_lane)

abbrev pub LowOf : (Lane → Bool) → List Lane → Option ℕ → Type 0
LowOf p ls none = (k : ℕ) → p (get_or ls k no_lane) ≡ false
LowOf p ls (some r) = LowestOf p ls r

unfoldable pub LowestRule : Type 0
LowestRule = (ls : List Lane) → LowOf holds ls (least_of holds ls)
