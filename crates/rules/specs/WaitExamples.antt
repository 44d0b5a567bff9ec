-- How long a record waits, in figures (docs/RULES.md, R16.14, R16.15).
--
--   lane_wait         the worst wait in bytes: weight, longest, records ahead; no framing
--   SessionFigures   lane 0 of the first session (R16.1) with 0, 2 and 15 records ahead
--   Figures          weights 1, 16, 128, 512 by longest 64, 576, 1,500, with no record ahead, and with three
--   QuietFigures     the same with no record ahead, where lag answered 0 or more right after the put (`WaitsFromBy`): two slots in place of four
--   SharedFigures    lane 0 of the first session shared by 8 trains: n = 0 and 2; and n = 0 on a line that charges 64 framing bytes, where it is not shared and
--                    where it is
--   HaltFigures      where no record of the setup exceeds 256 bytes: weight 512 and 128 of longest 256
--   OutThen          a record that finds lane 0 of the first session empty is out once 17,884 bytes are sent
--
-- Assumes nothing.
use Rattle.std.specs.Prelude.{ℕ, ◌+◌, ◌*◌, ◌/◌, ◌≤◌, ◌≡◌, true, false, List, [], ◌∷◌, ◌++◌, map}
use Rattle.units.specs.Numbers.{line_rate}
use Rattle.rules.specs.State.{Rec, setting_at, slot}
use Rattle.rules.specs.Setup.{margin}
use Rattle.rules.specs.Calls.{Call, fresh}
use Rattle.rules.specs.Runs.{Event, trace}
use Rattle.rules.specs.Fair.{bytes_sent}
use Rattle.rules.specs.Waits.{accepts, worst_wait, worst_shared, Out}
use Rattle.rules.specs.Examples.{session_lanes}

abbrev pub lane_wait : ℕ → ℕ → ℕ → ℕ
lane_wait w l n = worst_wait (margin 0) (record { weight = w; longest = l; framing = 0; shared = false }) n

unfoldable pub SessionFigures : Type 0
SessionFigures = map (worst_wait (margin 0) (setting_at session_lanes 0)) (0 ∷ 2 ∷ 15 ∷ []) ≡ 17884 ∷ 23884 ∷ 62884 ∷ []

-- a row for each weight
abbrev pub table : ℕ → List ℕ
table n =
    lane_wait 1 64 n ∷ lane_wait 1 576 n ∷ lane_wait 1 1500 n
    ∷ lane_wait 16 64 n ∷ lane_wait 16 576 n ∷ lane_wait 16 1500 n
    ∷ lane_wait 128 64 n ∷ lane_wait 128 576 n ∷ lane_wait 128 1500 n
    ∷ lane_wait 512 64 n ∷ lane_wait 512 576 n ∷ lane_wait 512 1500 n ∷ []

unfoldable pub Figures : Type 0
Figures =
    (table 0
    ≡ 263644 ∷ 4195804 ∷ 8390108
    ∷ 17884 ∷ 263644 ∷ 525788
    ∷ 3548 ∷ 34268 ∷ 67036
    ∷ 2012 ∷ 9692 ∷ 17884 ∷ [])
    × (table 3
    ≡ 460252 ∷ 5965276 ∷ 12998108
    ∷ 30172 ∷ 374236 ∷ 813788
    ∷ 5084 ∷ 48092 ∷ 103036
    ∷ 2396 ∷ 13148 ∷ 26884 ∷ [])

abbrev pub quiet : ℕ → ℕ → ℕ
quiet w l = (2 * slot (record { weight = w; longest = l; framing = 0; shared = false }) + margin 0 + 1023) / line_rate

unfoldable pub QuietFigures : Type 0
QuietFigures =
    quiet 1 64 ∷ quiet 1 576 ∷ quiet 1 1500
    ∷ quiet 16 64 ∷ quiet 16 576 ∷ quiet 16 1500
    ∷ quiet 128 64 ∷ quiet 128 576 ∷ quiet 128 1500
    ∷ quiet 512 64 ∷ quiet 512 576 ∷ quiet 512 1500 ∷ []
    ≡ 132572 ∷ 2098652 ∷ 4195804
    ∷ 9692 ∷ 132572 ∷ 263644
    ∷ 2524 ∷ 17884 ∷ 34268
    ∷ 1756 ∷ 5596 ∷ 9692 ∷ []

unfoldable pub SharedFigures : Type 0
SharedFigures =
    worst_shared (margin 0) (record { weight = 512; longest = 1500; framing = 0; shared = true }) 0
    ∷ worst_shared (margin 0) (record { weight = 512; longest = 1500; framing = 0; shared = true }) 2
    ∷ worst_wait (margin 64) (record { weight = 512; longest = 1500; framing = 64; shared = false }) 0
    ∷ worst_shared (margin 64) (record { weight = 512; longest = 1500; framing = 64; shared = true }) 0 ∷ []
    ≡ 80884 ∷ 128884 ∷ 17948 ∷ 4112948 ∷ []

unfoldable pub HaltFigures : Type 0
HaltFigures =
    worst_wait (1024 * 256) (record { weight = 512; longest = 256; framing = 0; shared = false }) 0
    ∷ worst_wait (1024 * 256) (record { weight = 128; longest = 256; framing = 0; shared = false }) 0 ∷ []
    ≡ 2304 ∷ 8448 ∷ []

unfoldable pub OutThen : Type 0
OutThen =
    (calls : List Call) (past since rest : List Event) (r : Rec) → trace (fresh session_lanes) calls ≡ past ++ accepts 0 r 0 ∷ since ++ rest
    → 17884 ≤ bytes_sent session_lanes since → Out 0 r past since
