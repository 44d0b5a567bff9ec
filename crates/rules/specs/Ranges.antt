-- Which numbers a group and a set word can be.
--
--   GroupRange   R1.11, R4.5: a group within the numbers, with up to 64 framing bytes, lies in 16 to 31
--   WordRule     R4.5: bit i of the word of a test is the test at i, and the word of n tests is below 2 ^ n
--
-- Assumes nothing.
use Rattle.std.specs.Prelude.{ℕ, ◌/◌, ◌%◌, ◌^◌, ◌≤◌, ◌<◌, ◌≡◌, Bool}
use Rattle.units.specs.Plain.{word_of, count}
use Rattle.rules.specs.State.{Setting, group}
use Rattle.rules.specs.Setup.{InNumbers}

unfoldable pub GroupRange : Type 0
GroupRange = (g : Setting) → InNumbers g → g.framing ≤ 64 → (16 ≤ group g) × (group g ≤ 31)

unfoldable pub WordRule : Type 0
WordRule = (p : ℕ → Bool) (n : ℕ) → (word_of p n < 2 ^ n) × ((i : ℕ) → i < n → word_of p n / 2 ^ i % 2 ≡ count (p i))
