-- What a test of one lane says.
--
--   Says         a Bool that is true exactly if a statement holds; of crate `round_test`
--   TimeGood     the conditions on S, F and R, over a lane's row, i being its group
--   TrainsGood   a shared lane's trains and round are good, and the layout's own of them agrees
--   LaneFine     what the good-table rule asks of a lane that is in the setup, r being its row
--   LaneGood     the same of a lane of these words, and how the layout houses its records
--
-- Assumes nothing.
use Rattle.std.specs.Prelude.{◌≡◌, ℕ, ◌+◌, ◌*◌, ◌^◌, ◌<◌, List}
use Rattle.units.specs.Numbers.{round_down}
use Rattle.rounds.specs.Good.{GoodShared}
pub use Rattle.round_test.specs.Shared.{Says}
use Rattle.waiting.specs.Waiting.{GoodWaiting, held}
use Rattle.rules.specs.State.{Lane, first_of}
use Rattle.rules.specs.Setup.{margin}
use Rattle.rules.specs.Good.{Times}
use Rattle.table.specs.Layout.{row_at}
use Rattle.table.specs.Means.{given_of, RowAgrees, RowPaced, TrainsFit, Housed, shared_at, lane_of}
use Rattle.table.specs.declared.LaneRow.{LaneRow}

-- R6.6 of S and R, R6.7 of F: the one clock word of a lane is S or F, and its upper edge is the same
pub record TimeGood (v : ℕ) (l : LaneRow) (i : ℕ) : Type 0 where
  pub below : l.time.0 < v + 2 * 2 ^ i
  pub above : 0 < l.count → v < round_down (2 ^ i) l.time.0 + 2 * 2 ^ i + margin (given_of l).framing

pub record TrainsGood (w : List ℕ) (k : ℕ) (l : LaneRow) : Type 0 where
  pub lane : GoodShared l.longest.0 (shared_at w k)
  pub fit : TrainsFit w k l

pub record LaneFine (v : ℕ) (r : LaneRow) (l : Lane) : Type 0 where
  pub agrees : RowAgrees r
  pub paced : 0 < r.count → RowPaced r
  pub waiting : GoodWaiting l.given.longest l.waiting
  pub counted : held l.waiting ≡ r.count
  pub numbers : Times v l (first_of l)

pub record LaneGood (v : ℕ) (w : List ℕ) (k : ℕ) : Type 0 where
  pub fine : LaneFine v (row_at w k) (lane_of w k)
  pub housed : 0 < (row_at w k).count → Housed w k (row_at w k)
