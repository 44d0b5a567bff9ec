-- The numbers of a lane (docs/RULES.md, R1 and R2). The code of `units` and the rules cite these same definitions.
--
--   per_byte w      c, the clock units for each byte of a lane of weight w
--   line_rate       the clock units that a byte costs the line, whatever its lane
--   least_power n   the least i with n ≤ 2 ^ i
--   Least n i      i is that number, said as a property
--   round_down s x  x rounded down to a multiple of s
--
-- Assumes nothing.
use Rattle.std.specs.Prelude.{ℕ, zero, suc, ◌+◌, ◌-◌, ◌/◌, ◌%◌, ◌^◌, ◌≤◌, true, false, leb}

-- R1.8. A lane that is not in the setup has weight 0, and c = 0.
unfoldable pub per_byte : ℕ → ℕ
per_byte w = (1048576 + (w - 1)) / w

-- R1.9
abbrev pub line_rate : ℕ
line_rate = 1024

-- the least exponent from i on with n ≤ 2 ^ exponent, if one of the next k is
unfoldable pub power_from : ℕ → ℕ → ℕ → ℕ
power_from zero i n = i
power_from (suc k) i n = elim (leb n (2 ^ i)) [ true ↦ i | false ↦ power_from k (suc i) n ]

-- R1.10, n being the charge of the lane's longest record times c. (No exponent above n is ever needed: n < 2 ^ n.)
unfoldable pub least_power : ℕ → ℕ
least_power n = power_from n 0 n

-- R1.10, the same as a property: 2 ^ i is at least n, and no smaller power of two is
pub record Least (n i : ℕ) : Type 0 where
  pub enough : n ≤ 2 ^ i
  pub none_below : (j : ℕ) → n ≤ 2 ^ j → i ≤ j

-- R2.5
unfoldable pub round_down : ℕ → ℕ → ℕ
round_down s x = x - x % s
