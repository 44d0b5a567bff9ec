-- The digits of a 64-bit word: a word taken as four numbers of 16 bits, or two of 32.
--
--   digit b j x        digit j of x, of b bits, the lowest first
--   put_digit b j v x   x with digit j changed to v
--   WordStored         what a change of one word leaves: that word, every other word and byte, the length, and the bytes past any run of words that has it
--
-- Assumes nothing.
use Rattle.std.specs.Prelude.{◌≡◌, ℕ, ◌+◌, ◌*◌, ◌/◌, ◌%◌, ◌^◌, ◌<◌, List, length, drop, get_or}
use Rattle.words.specs.Words.{word_at}

unfoldable pub digit : ℕ → ℕ → ℕ → ℕ
digit b j x = x / 2 ^ (b * j) % 2 ^ b

-- the digits above it, it, and those below it
unfoldable pub put_digit : ℕ → ℕ → ℕ → ℕ → ℕ
put_digit b j v x = (x / 2 ^ (b * j + b) * 2 ^ b + v) * 2 ^ (b * j) + x % 2 ^ (b * j)

pub record WordStored (before after : List ℕ) (i v : ℕ) : Type 0 where
  pub same : word_at after i ≡ v
  pub others : (j : ℕ) → (j ≡ i → ⊥) → word_at after j ≡ word_at before j
  pub bytes : (a : ℕ) → (a / 8 ≡ i → ⊥) → get_or after a 0 ≡ get_or before a 0
  pub length : length after ≡ length before
  pub rest : (n : ℕ) → i < n → drop (n * 8) after ≡ drop (n * 8) before
