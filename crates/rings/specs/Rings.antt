-- The rings of numbers in bytes (R6.1): where they lie, and what stands in one.
--
--   Long                  bytes that are long enough for them
--   head_byte, count_byte   a ring's first place, and how many stand in it
--   place_byte             a place of a ring, counted on past the ring's end
--   ring_at                what stands in ring i, the first first
--   Rung                  what a change of one ring leaves: that ring, every other one, and the bytes below and past the rings
--
-- Assumes nothing.
use Rattle.std.specs.Prelude.{◌≡◌, ℕ, ◌+◌, ◌*◌, ◌%◌, ◌≤◌, ◌<◌, List, length, drop, get_or}
use Rattle.words.specs.Runs.{tab}
pub use Rattle.parts.specs.Parts.{ring_count, rings_from, rings_end}
use Rattle.parts.specs.Parts.{ring_places}

abbrev pub Long : List ℕ → Type 0
Long t = rings_end ≤ length t

abbrev pub head_byte : ℕ → ℕ
head_byte i = rings_from + i

abbrev pub count_byte : ℕ → ℕ
count_byte i = rings_from + ring_count + i

abbrev pub place_byte : ℕ → ℕ → ℕ
place_byte i p = rings_from + 2 * ring_count + ring_places * i + p % ring_places

-- n of ring i's places from the place h on
unfoldable pub ring_of : List ℕ → ℕ → ℕ → ℕ → List ℕ
ring_of t i h n = tab n (λ j. get_or t (place_byte i (h + j)) 0)

unfoldable pub ring_at : List ℕ → ℕ → List ℕ
ring_at t i = ring_of t i (get_or t (head_byte i) 0) (get_or t (count_byte i) 0)

pub record Rung (before after : List ℕ) (i : ℕ) (l : List ℕ) : Type 0 where
  pub ring : ring_at after i ≡ l
  pub others : (j : ℕ) → j < ring_count → (j ≡ i → ⊥) → ring_at after j ≡ ring_at before j
  pub below : (a : ℕ) → a < rings_from → get_or after a 0 ≡ get_or before a 0
  pub rest : drop rings_end after ≡ drop rings_end before
