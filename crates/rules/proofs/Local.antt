-- Whether and why a put is refused depends on the lane's own setting and on what waits in it only. Assumes nothing.
use Prim.Native.Nat.{ℕ}
use mathlib.Core.Path.{◌≡◌}
use Rattle.rules.specs.State.{Rec, State, lane_at}
use Rattle.rules.specs.Calls.{put_refusal}

-- whatever the clock, S, F and the other lanes are
pub put_local : (s t : State) (j : ℕ) (r : Rec) → (lane_at s j).given ≡ (lane_at t j).given → (lane_at s j).waiting ≡ (lane_at t j).waiting → put_refusal s j r ≡ put_refusal t j r
unfolding put_refusal
put_local s t j r g w = rw (g, w)
