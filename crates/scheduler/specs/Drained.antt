-- R15.15: a unit can be drained and restarted, of the public calls' own answers, on a table that a list of calls led to.
--
--   held_in     how many records a table holds
--   Emptied    what holds of so many takes
--   Drained    the claim, of a table
--
-- Assumes nothing.
use Rattle.std.specs.Prelude.{ℕ, ◌≡◌, List, [], ◌∷◌, ◌++◌, replicate}
use Rattle.std.proofs.Math.Option.{none}
use Rattle.units.specs.Plain.{sum}
use Rattle.waiting.specs.Waiting.{held}
use Rattle.rules.specs.State.{Lane}
use Rattle.rules.specs.Calls.{take, restart, restarted, refused}
use Rattle.pages.specs.Device.{ruled, answered}
use Rattle.pages.specs.Offers.{DeviceEvent}
use Rattle.pages.specs.Carried.{HandsOut}
use Rattle.table.specs.Means.{meant}
use Rattle.scheduler.specs.Chain.{Chain, calls_of}

abbrev pub held_in : List ℕ → ℕ
held_in t = sum (λ (l : Lane). held l.waiting) (meant t).lanes

-- these takes left the bytes u
pub record Emptied (takes : List DeviceEvent) (u : List ℕ) : Type 0 where
  -- each hands a record out,
  pub hands_out : (past rest : List DeviceEvent) (e : DeviceEvent) → takes ≡ past ++ e ∷ rest → HandsOut e.reply
  -- a take more gives 16,
  pub none_left : (e : DeviceEvent) (v : List ℕ) → Chain u (e ∷ []) v → e.call ≡ ruled take → e.reply ≡ answered (refused 16 none)
  -- and a restart is accepted, also after that 16
  pub restarts : (e : DeviceEvent) (v : List ℕ) → Chain u (e ∷ []) v → e.call ≡ ruled restart → e.reply ≡ answered restarted
  pub restarts_then : (e f : DeviceEvent) (v : List ℕ) → Chain u (e ∷ f ∷ []) v → e.call ≡ ruled take → f.call ≡ ruled restart → f.reply ≡ answered restarted

-- as many takes as records are held
unfoldable pub Drained : List ℕ → Type 0
Drained t = (takes : List DeviceEvent) (u : List ℕ) → Chain t takes u → calls_of takes ≡ replicate (held_in t) (ruled take) → Emptied takes u
