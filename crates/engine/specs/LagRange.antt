-- The ends of lag's range.
--
--   Between    an integer above −low and below high
--   LagRange   what holds of a lane's lag
--
-- Assumes nothing.
use Rattle.std.specs.Prelude.{ℕ, suc, ◌+◌, ◌*◌, ◌^◌, ◌<◌, ◌≡◌, true, false, ℤ, pos, negsuc}
use Rattle.rules.specs.State.{State, slot, holds, lane_at}
use Rattle.rules.specs.Setup.{margin}
use Rattle.rules.specs.Calls.{lag_of}

-- `negsuc n` is −(n + 1)
abbrev pub Between : ℕ → ℕ → ℤ → Type 0
Between low high (pos n) = n < high
Between low high (negsuc n) = suc n < low

-- R15.17
pub record LagRange (s : State) (k : ℕ) : Type 0 where
  -- from R6.6: S < V + 2s, and V < R + 2s + M
  pub holding : holds (lane_at s k) ≡ true → Between (2 * slot (lane_at s k).given) (2 * slot (lane_at s k).given + margin (lane_at s k).given.framing) (lag_of s.clock (lane_at s k))
  -- at most 0, as R3.18 subtracts no less than V; from R6.7
  pub idle : holds (lane_at s k) ≡ false → Between (2 * slot (lane_at s k).given) 1 (lag_of s.clock (lane_at s k))
  -- of any lane, whatever its slot
  pub ends : Between (2 ^ 32) (2 ^ 32 + margin (lane_at s k).given.framing) (lag_of s.clock (lane_at s k))
