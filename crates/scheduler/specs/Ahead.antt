-- What an accepted put answers: how many records of its train its lane held before it. In a lane that is not shared these are all, of train 0.
--
--   AheadTold   R15.13, of a list: counted from the list's own calls and answers, and below the room of the lane, or of the train's queue in a shared one
--   PutAhead    R3.9, of one call on any good table
--
-- Assumes nothing.
use Rattle.std.specs.Prelude.{ℕ, ◌+◌, ◌<◌, ◌≡◌, List, ◌∷◌, ◌++◌, length}
use Rattle.rules.specs.State.{Setting, setting_at, lane_at, room_of}
use Rattle.rules.specs.Calls.{put, accepted, ahead}
use Rattle.rules.specs.Reads.{reads}
use Rattle.rules.specs.Runs.{accepted_of, sent_of, of_train}
use Rattle.rules.specs.declared.Answer.{Answer}
use Rattle.std.specs.Prelude.{Result}
use Rattle.rules.specs.declared.Refusal.{Refusal}
use Rattle.table.specs.Means.{meant}
use Rattle.pages.specs.Device.{ruled, answered}
use Rattle.pages.specs.Offers.{DeviceEvent, of_rules, in_force}
use Rattle.paged.specs.Paged.{GoodUnit}
use Rattle.scheduler.specs.Step.{Step}

-- of the records of the put's train that the lane accepted before, those not yet handed out
unfoldable pub AheadTold : List Setting → List DeviceEvent → Type 0
AheadTold gs es =
    (past rest : List DeviceEvent) (j t m l n : ℕ) → es ≡ past ++ record { call = ruled (put j t m l); reply = answered (accepted n) } ∷ rest
    → (length (of_train t (accepted_of j (of_rules past))) ≡ length (of_train t (sent_of j (of_rules past))) + n) × (n < room_of (setting_at (in_force gs past) j))

unfoldable pub PutAhead : Type 0
PutAhead =
    (b u : List ℕ) (a : Result Answer Refusal) (j t m l n : ℕ) → GoodUnit b → Step (put j t m l) b a u → reads a ≡ accepted n
    → (n ≡ ahead (meant b) j t) × (n < room_of (lane_at (meant b) j).given)
