-- Laws of c, the clock units for each byte of a lane: c w ≥ 2^20 > (c − 1) w. Assumes nothing.
use Prim.Native.Nat.{ℕ, zero, suc, ◌+◌, ◌-◌, ◌*◌, ◌^◌, ◌≤◌, ◌<◌}
use native.Mathlib.Nat.{mul-le-mul_left, div-add-mod, mod-lt, div-le_of_le-mul, div-zero, le_antisymm, le_of_suc-le-suc, lt_of_mul-lt-mul_right}
use mathlib.Core.Path.{◌≡◌}
use native.Mathlib.Omega.{arith}
use Rattle.units.specs.Numbers.{per_byte}
use Rattle.units.specs.Rules.{RateRule}

-- c w ≥ 2^20: c is rounded up, so weights never exceed the line
pub rate-weight-ge : (w : ℕ) → 0 < w → 2 ^ 20 ≤ per_byte w * w
unfolding per_byte
rate-weight-ge w h = omega (arith, div-add-mod (1048576 + (w - 1)) w, mod-lt (1048576 + (w - 1)) h)

-- 2^20 > (c − 1) w: c is the least such number, said as a sum
pub rate-weight-lt : (w : ℕ) → 0 < w → per_byte w * w < 2 ^ 20 + w
unfolding per_byte
rate-weight-lt w h = omega (arith, div-add-mod (1048576 + (w - 1)) w)

-- c is the only number between the two: what a stored c is tested by
pub rate-unique : (w c : ℕ) → 0 < w → 2 ^ 20 ≤ c * w → c * w < 2 ^ 20 + w → c ≡ per_byte w
rate-unique w c h lo hi =
    le_antisymm (le_of_suc-le-suc (lt_of_mul-lt-mul_right w (omega (arith, rate-weight-ge w h)))) (le_of_suc-le-suc (lt_of_mul-lt-mul_right w (omega (arith, rate-weight-lt w h))))

pub rate-rule : RateRule
unfolding RateRule
rate-rule w h = (record { enough = rate-weight-ge w h; close = rate-weight-lt w h }, λ c r. rate-unique w c h r.enough r.close)

pub rate-le : (w : ℕ) → per_byte w ≤ 2 ^ 20
unfolding per_byte
rate-le zero = omega (arith, div-zero (1048576 + (0 - 1)))
rate-le (suc w) = div-le_of_le-mul (suc w) (omega arith)

pub rate-ge : (w : ℕ) → 0 < w → w ≤ 1024 → 1024 ≤ per_byte w
rate-ge w p h = omega (arith, rate-weight-ge w p, mul-le-mul_left (per_byte w) h)
