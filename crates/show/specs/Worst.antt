-- A record's worst wait by the row of its lane (Views.antt has it by the lane's setting).
--
--   lane_most     what lane k's longest record is charged for
--   numbers_of    the numbers of a row that a wait goes by
--   no_room       the refusal of a put that finds no room
--   BothWorst    the worst wait of a lane of these numbers: as asked, and tight
--
-- Assumes nothing.
use Rattle.std.specs.Prelude.{ℕ, ◌*◌, ◌≡◌, Bool, List, if◌then◌else◌}
use Rattle.units.specs.Numbers.{line_rate}
use Rattle.rules.specs.State.{setting_at, setup_of, charge}
use Rattle.rules.specs.Setup.{longest_charge, margin}
use Rattle.rules.specs.Waits.{worst_of}
use Rattle.rules.specs.declared.Refusal.{Refusal}
use Rattle.rules.specs.declared.Refusal.TheVariants.{TrainFull, LaneFull}
use Rattle.waits.specs.Lane.{setting_of_numbers}
use Rattle.waits.specs.declared.LaneNumbers.{LaneNumbers}
use Rattle.table.specs.Means.{meant}
use Rattle.table.specs.declared.LaneRow.{LaneRow}
use Rattle.show.specs.declared.WorstWait.{WorstWait}

abbrev pub lane_most : List ℕ → ℕ → ℕ
lane_most t k = charge (setting_at (setup_of (meant t)) k) (setting_at (setup_of (meant t)) k).longest

abbrev pub numbers_of : LaneRow → LaneNumbers
numbers_of l = record { weight = l.weight; longest = l.longest; framing = l.framing; shared = l.shared }

abbrev pub no_room : Bool → Refusal
no_room shared = if shared then TrainFull else LaneFull

abbrev pub BothWorst : List ℕ → LaneNumbers → ℕ → WorstWait → Type 0
BothWorst t l n r =
    (r.asked ≡ worst_of (margin l.framing.0) (setting_of_numbers l) n)
    × (r.tight ≡ worst_of (line_rate * longest_charge (setup_of (meant t))) (setting_of_numbers l) n)
