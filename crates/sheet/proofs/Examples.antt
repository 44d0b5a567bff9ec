-- Sheets worked by the definitions. Assumes nothing.
use mathlib.Core.Path.{◌≡◌, refl}
use mathlib.Core.Bool.{false}
use mathlib.Core.List.{[], ◌∷◌}
use mathlib.Core.Option.{some}
use lib.ListN.{set}
use Rattle.plan.specs.Judge.{lane_outside}
use Rattle.plan.specs.Read.{setup_read, setup_refused, no_lanes}
use Rattle.sheet.specs.Form.{line_step}
use Rattle.sheet.specs.Judge.{verdict}
use Rattle.sheet.specs.Read.{sheet_walk, read_sheet}

-- `5 1 64`
pub one_lane_lem : read_sheet (53 ∷ 32 ∷ 49 ∷ 32 ∷ 54 ∷ 52 ∷ 10 ∷ []) ≡ setup_read 2 (set no_lanes 5 (record { weight = 1; longest = 64; framing = 0; shared = false })) 1 7
unfolding read_sheet sheet_walk line_step verdict lane_outside
one_lane_lem = refl

pub empty-sheet : read_sheet [] ≡ setup_refused 81 (some 0)
unfolding read_sheet sheet_walk
empty-sheet = refl

-- `0 1 64` without its line feed
pub no-feed : read_sheet (48 ∷ 32 ∷ 49 ∷ 32 ∷ 54 ∷ 52 ∷ []) ≡ setup_refused 81 (some 6)
unfolding read_sheet sheet_walk line_step
no-feed = refl

-- `00`
pub leading-zero : read_sheet (48 ∷ 48 ∷ []) ≡ setup_refused 80 (some 1)
unfolding read_sheet sheet_walk line_step
leading-zero = refl

-- `123456`
pub sixth-digit : read_sheet (49 ∷ 50 ∷ 51 ∷ 52 ∷ 53 ∷ 54 ∷ []) ≡ setup_refused 80 (some 5)
unfolding read_sheet sheet_walk line_step
sixth-digit = refl

-- `0`, two spaces
pub two-spaces : read_sheet (48 ∷ 32 ∷ 32 ∷ []) ≡ setup_refused 80 (some 2)
unfolding read_sheet sheet_walk line_step
two-spaces = refl

-- `64 0 63`: 51 before 52 and 53; and the x behind it is not looked at
pub three-faults : read_sheet (54 ∷ 52 ∷ 32 ∷ 48 ∷ 32 ∷ 54 ∷ 51 ∷ 10 ∷ 120 ∷ []) ≡ setup_refused 51 (some 0)
unfolding read_sheet sheet_walk line_step verdict lane_outside
three-faults = refl

-- `0 1024 64`, `0 1 64`: 4 before 6
pub same-lane : read_sheet (48 ∷ 32 ∷ 49 ∷ 48 ∷ 50 ∷ 52 ∷ 32 ∷ 54 ∷ 52 ∷ 10 ∷ 48 ∷ 32 ∷ 49 ∷ 32 ∷ 54 ∷ 52 ∷ 10 ∷ []) ≡ setup_refused 4 (some 10)
unfolding read_sheet sheet_walk line_step verdict lane_outside
same-lane = refl

-- `0 1024 64`, `1 1 64`
pub too-heavy : read_sheet (48 ∷ 32 ∷ 49 ∷ 48 ∷ 50 ∷ 52 ∷ 32 ∷ 54 ∷ 52 ∷ 10 ∷ 49 ∷ 32 ∷ 49 ∷ 32 ∷ 54 ∷ 52 ∷ 10 ∷ []) ≡ setup_refused 6 (some 12)
unfolding read_sheet sheet_walk line_step verdict lane_outside
too-heavy = refl
