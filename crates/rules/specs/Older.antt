-- The rule for a table made while a lane had room for 16 records (R7.3).
--
--   old_depth, old_edge   the room of a lane then, and the clock's edge
--   GoodOld             that rule, of the state that the table encodes
--
-- Nothing else of the rule has changed since, so it is today's and the two narrower numbers. Assumes nothing.
use Rattle.std.specs.Prelude.{ℕ, ◌+◌, ◌^◌, ◌≤◌, ◌<◌}
use Rattle.waiting.specs.Waiting.{held}
use Rattle.rules.specs.State.{State, lane_at}
use Rattle.rules.specs.Good.{Good}

abbrev pub old_depth : ℕ
old_depth = 16

abbrev pub old_edge : ℕ
old_edge = 2 ^ 62 + 2 ^ 42

pub record GoodOld (s : State) : Type 0 where
  pub good : Good s
  pub room : (k : ℕ) → held (lane_at s k).waiting ≤ old_depth
  pub clock : s.clock < old_edge
