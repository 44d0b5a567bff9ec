-- What the test of one lane says.
--
--   OldLaneGood   what the rule then asked of a lane that is in the setup
--
-- Assumes nothing.
use Rattle.std.specs.Prelude.{ℕ, ◌≤◌, List}
use Rattle.rules.specs.Older.{old_depth}
use Rattle.table.specs.Means.{RowPaced}
use Rattle.lane_test.specs.Says.{LaneFine}
use Rattle.old_table.specs.Old.{old_row_at, old_lane}

pub record OldLaneGood (v : ℕ) (w : List ℕ) (k : ℕ) : Type 0 where
  pub fine : LaneFine v (old_row_at w k) (old_lane w k)
  pub paced : RowPaced (old_row_at w k)
  pub room : (old_row_at w k).count ≤ old_depth
