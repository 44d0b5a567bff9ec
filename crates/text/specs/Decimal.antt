-- Numbers as text (R10.13): plain decimal, no leading zeros, a minus sign below zero. Characters are ASCII bytes.
--
--   digits k n   the k lowest digits of n, highest first
--   Width n k    n has k digits
--   width        how many that is, for n below 10 ^ 20
--   decimal      a number of 0 or more
--   signed       any integer
--
-- Assumes nothing.
use Rattle.std.specs.Prelude.{ℕ, zero, suc, ◌+◌, ◌/◌, ◌%◌, ◌^◌, ◌≤◌, ◌<◌, true, false, List, [], ◌∷◌, ltb, ℤ, pos, negsuc}

-- '0' is 48, '-' is 45
unfoldable pub digits : ℕ → ℕ → List ℕ
digits zero n = []
digits (suc k) n = (48 + n / 10 ^ k % 10) ∷ digits k n

pub record Width (n k : ℕ) : Type 0 where
  pub some : 0 < k
  pub enough : n < 10 ^ k
  pub none_below : (j : ℕ) → 0 < j → n < 10 ^ j → k ≤ j

-- the least k from i on with n < 10 ^ k, if one of the next f is
unfoldable pub width_from : ℕ → ℕ → ℕ → ℕ
width_from zero i n = i
width_from (suc f) i n = elim (ltb n (10 ^ i)) [ true ↦ i | false ↦ width_from f (suc i) n ]

unfoldable pub width : ℕ → ℕ
width n = width_from 19 1 n

unfoldable pub decimal : ℕ → List ℕ
decimal n = digits (width n) n

unfoldable pub signed : ℤ → List ℕ
signed (pos n) = decimal n
signed (negsuc n) = 45 ∷ decimal (suc n)
