-- What c and the group index are, as properties: nothing else meets them; and what is true of R.
--
--   RateRule    R1.8: c w is 2 ^ 20 or more and below 2 ^ 20 + w, and no other number is such: c is the quotient, rounded up
--   PowerRule   R1.10: the definition by search is the least power, and there is one least only
--   RoundRule   R2.5: R ≤ S < R + s, s divides R, and a later S has no smaller R
--
-- Assumes nothing.
use Rattle.std.specs.Prelude.{ℕ, ◌+◌, ◌*◌, ◌%◌, ◌^◌, ◌≤◌, ◌<◌, ◌≡◌}
use Rattle.units.specs.Numbers.{per_byte, least_power, Least, round_down}

-- R1.8
pub record IsRate (w c : ℕ) : Type 0 where
  pub enough : 2 ^ 20 ≤ c * w
  pub close : c * w < 2 ^ 20 + w

unfoldable pub RateRule : Type 0
RateRule = (w : ℕ) → 0 < w → IsRate w (per_byte w) × ((c : ℕ) → IsRate w c → c ≡ per_byte w)

unfoldable pub PowerRule : Type 0
PowerRule = (n : ℕ) → Least n (least_power n) × ((i : ℕ) → Least n i → i ≡ least_power n)

unfoldable pub RoundRule : Type 0
RoundRule = (s x : ℕ) → 0 < s
    → (round_down s x ≤ x) × (x < round_down s x + s) × (round_down s x % s ≡ 0) × ((y : ℕ) → x ≤ y → round_down s x ≤ round_down s y)
