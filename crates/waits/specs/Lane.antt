-- The numbers of a lane as code has them, and the part of its worst wait (docs/RULES.md, R15.21, R15.22) that is the lane's own.
--
--   setting_of_numbers   the setting that they are
--   InRange            within the numbers of a setup; and no more records ahead than an accepted put reports
--   four_slots          four slots of a lane, by what its longest record is charged for and c
--
-- Assumes nothing.
use Rattle.std.specs.Prelude.{ℕ, ◌*◌, ◌^◌, ◌≤◌, ◌<◌}
use Rattle.units.specs.Numbers.{least_power}
use Rattle.rules.specs.State.{Setting, room_of}
use Rattle.rules.specs.Setup.{InNumbers}
use Rattle.waits.specs.declared.LaneNumbers.{LaneNumbers}

abbrev pub setting_of_numbers : LaneNumbers → Setting
setting_of_numbers l = record { weight = l.weight; longest = l.longest.0; framing = l.framing.0; shared = l.shared }

pub record InRange (l : LaneNumbers) (ahead : ℕ) : Type 0 where
  pub numbers : InNumbers (setting_of_numbers l)
  pub framing : l.framing.0 ≤ 64
  pub room : ahead < room_of (setting_of_numbers l)

abbrev pub four_slots : ℕ → ℕ → ℕ
four_slots charged c = 4 * 2 ^ least_power (charged * c)
