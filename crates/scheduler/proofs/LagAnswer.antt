-- What lag answers. Assumes nothing.
use Prim.Native.Nat.{ℕ}
use native.Mathlib.Omega.{arith}
use mathlib.Core.Path.{◌≡◌, sym, ◌∙◌}
use mathlib.Core.Bool.{Bool, true, false}
use lib.Dec.{ltb}
use lib.IntN.{ℤ}
use Rattle.std.specs.Prelude.{if◌then◌else◌}
use Rattle.rules.specs.State.{State, lane_at}
use Rattle.rules.specs.Calls.{lag, lagged, no, lag_of, do_lag, step}
use Rattle.table.specs.Means.{meant}
use Rattle.scheduler.proofs.Steps.{step-says}
use Rattle.engine.proofs.LagRange.{lag-range}
use Rattle.scheduler.specs.LagAnswer.{LagCall}

-- a lag that the rules answer is that of the lane
lag-is : (s : State) (j : ℕ) (z : ℤ) → lagged z ≡ (step s (lag j)).reply → z ≡ lag_of s.clock (lane_at s j)
unfolding step do_lag
lag-is s j z = go (ltb (lane_at s j).given.weight 1)
  where
    go : (b : Bool) → lagged z ≡ (if b then no 11 s else record { reply = lagged (lag_of s.clock (lane_at s j)); state = s }).reply → z ≡ lag_of s.clock (lane_at s j)
    go true e = let y : ◌≡◌ {A = ℕ} 0 1 = cc in absurd (omega arith)
    go false e = cc

pub lag-call : LagCall
unfolding LagCall
lag-call t u a j z g p e = (lag-is (meant t) j z (sym e ∙ step-says (lag j) t _ u g p), lag-range (meant t) g.core.good j)
