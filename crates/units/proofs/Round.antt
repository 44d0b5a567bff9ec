-- Laws of rounding down to a multiple of a slot: R ≤ S < R + s, R is monotone, s divides R. Assumes nothing.
use Prim.Native.Nat.{ℕ, ◌+◌, ◌*◌, ◌/◌, ◌%◌, ◌≤◌, ◌<◌}
use native.Mathlib.Nat.{le_trans, mul-le-mul_right, div-add-mod', mod-lt, mod-le, le-div_iff_mul-le, div-mul-le_self, mul-mod_left}
use native.Mathlib.Omega.{arith}
use mathlib.Core.Path.{◌≡◌}
use Rattle.units.specs.Numbers.{round_down}
use Rattle.units.specs.Rules.{RoundRule}

pub round-le : (s x : ℕ) → round_down s x ≤ x
unfolding round_down
round-le s x = omega arith

pub lt-round-slot : (s x : ℕ) → 0 < s → x < round_down s x + s
unfolding round_down
lt-round-slot s x h = omega (arith, mod-lt x h, mod-le x s)

-- the quotient, times the slot
pub round-div : (s x : ℕ) → round_down s x ≡ x / s * s
unfolding round_down
round-div s x = omega (arith, div-add-mod' x s)

pub round_mono : (s x y : ℕ) → 0 < s → x ≤ y → round_down s x ≤ round_down s y
round_mono s x y p h =
    omega (arith, round-div s x, round-div s y, mul-le-mul_right s ((le-div_iff_mul-le p).1 (le_trans (div-mul-le_self x s) h)))

-- s divides R
pub round-mod : (s x : ℕ) → round_down s x % s ≡ 0
round-mod s x = rw (round-div, mul-mod_left)

pub round-rule : RoundRule
unfolding RoundRule
round-rule s x h = (round-le s x, lt-round-slot s x h, round-mod s x, λ y l. round_mono s x y h l)
