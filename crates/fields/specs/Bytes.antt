-- Numbers in bytes.
--
--   byte_at   the byte at a place, 0 past the end
--   big      the number of some bytes from a place on, high byte first
--   two      the bytes of a number of two bytes
--   as_field  the bytes of a field
--   Bytes    the elements of an input are bytes
--
-- Assumes nothing.
use Rattle.std.specs.Prelude.{ℕ, zero, suc, ◌+◌, ◌*◌, ◌^◌, ◌/◌, ◌%◌, ◌<◌, List, [], ◌∷◌, ◌++◌, length, get_or}

-- R8.1
abbrev pub byte_at : List ℕ → ℕ → ℕ
byte_at s at = get_or s at 0

-- R8.1: the first byte is the highest
unfoldable pub big : List ℕ → ℕ → ℕ → ℕ
big s at zero = 0
big s at (suc n) = byte_at s at * 256 ^ n + big s (at + 1) n

-- R8.1
abbrev pub two : ℕ → List ℕ
two n = n / 256 ∷ n % 256 ∷ []

-- R8.1: a byte of tag, two of length, the value
abbrev pub as_field : ℕ → List ℕ → List ℕ
as_field tag value = tag ∷ (two (length value) ++ value)

-- As those of any lent slice are.
abbrev pub Bytes : List ℕ → Type 0
Bytes s = (i : ℕ) → byte_at s i < 256
