-- The first session (R16.3), computed, and the figures of R16.11. Assumes nothing.
use Prim.Native.Nat.{ℕ, zero, suc, ◌*◌, ◌≤◌, ◌<◌}
use native.Mathlib.Omega.{arith}
use mathlib.Core.Path.{◌≡◌, refl, ap}
use mathlib.Core.Logic.{◌⊎◌, inl, inr}
use mathlib.Core.Bool.{false}
use lib.Dec.{lit≤}
use lib.ListN.{replicate}
use Rattle.rules.specs.State.{Setting, no_setting, setting_at, rate, slot}
use Rattle.rules.specs.Setup.{InNumbers, framing_of, Setup}
use Rattle.rules.specs.Fair.{bytes_sent_of, Fair, Demand3, Compared, TwoLanes}
use Rattle.rules.specs.Examples.{session_lanes, Session, WaitsAtMost, SideBySide, TakenBack}
use Rattle.rules.proofs.Computes.{rules}
use Rattle.rules.proofs.Fair.{demand3}
use Rattle.rules.proofs.Fair as proved

pub session : Session
unfolding Session rules
session = refl

none-given : (n k : ℕ) → setting_at (replicate n no_setting) k ≡ no_setting
none-given zero k = refl
none-given (suc n) zero = refl
none-given (suc n) (suc k) = none-given n k

pub two_lanes_lem : Setup session_lanes
unfolding framing_of
two_lanes_lem = record { size = refl; each = each; some_lane = lit≤ tt; total = lit≤ tt; framing_high = lit≤ tt; framed = framed }
  where
    within : (w : ℕ) → 1 ≤ w → w ≤ 1024 → InNumbers (record { weight = w; longest = 1500; framing = 0; shared = false })
    within w lo hi = record { weight_low = lo; weight_high = hi; longest_low = lit≤ tt; longest_high = lit≤ tt }

    framed : (k : ℕ) → 0 < (setting_at session_lanes k).weight → (setting_at session_lanes k).framing ≡ framing_of session_lanes
    framed zero h = refl
    framed (suc zero) h = refl
    framed (suc (suc k)) h = ap (λ (g : Setting). g.framing) (none-given 62 k)

    each : (k : ℕ) → InNumbers (setting_at session_lanes k) ⊎ (setting_at session_lanes k ≡ no_setting)
    each zero = inl (within 512 (lit≤ tt) (lit≤ tt))
    each (suc zero) = inl (within 256 (lit≤ tt) (lit≤ tt))
    each (suc (suc k)) = inr (none-given 62 k)

its-framing : framing_of session_lanes ≡ 0
unfolding framing_of
its-framing = refl

its-slot : slot (setting_at session_lanes 0) ≡ 4194304
unfolding rules
its-slot = refl

pub waits : WaitsAtMost
unfolding WaitsAtMost Demand3 Fair
waits calls past stretch rest e h o =
    omega (arith, demand3 session_lanes two_lanes_lem calls past stretch rest e 0 h, ap (λ (n : ℕ). rate (setting_at session_lanes 0) * n) o, its-slot, its-framing)

slot-0 : slot (setting_at session_lanes 0) ≡ 4194304
slot-0 = its-slot

slot-1 : slot (setting_at session_lanes 1) ≡ 8388608
unfolding rules
slot-1 = refl

rate-0 : rate (setting_at session_lanes 0) ≡ 2048
unfolding rules
rate-0 = refl

rate-1 : rate (setting_at session_lanes 1) ≡ 4096
unfolding rules
rate-1 = refl

pub side_by_side : SideBySide
unfolding SideBySide TwoLanes Compared
side_by_side calls past stretch rest e h₀ h₁ =
    let x : ℕ = bytes_sent_of session_lanes 0 stretch in
    let y : ℕ = bytes_sent_of session_lanes 1 stretch in
    let a = proved.two_lanes_lem session_lanes two_lanes_lem calls past stretch rest e 0 1 h₀ h₁ in
    let b = proved.two_lanes_lem session_lanes two_lanes_lem calls past stretch rest e 1 0 h₁ h₀ in
    let c₀ = ap (λ (n : ℕ). n * x) rate-0 in
    let c₁ = ap (λ (n : ℕ). n * y) rate-1 in
    (omega (arith, a, c₀, c₁, slot-0, slot-1, its-framing), omega (arith, b, c₀, c₁, slot-0, slot-1, its-framing))

pub taken_back : TakenBack
unfolding TakenBack rules
taken_back = (refl, refl)
