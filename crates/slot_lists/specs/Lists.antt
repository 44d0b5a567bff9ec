-- The slot lists of a table (R6.1): for each group, 16 to 31, and each of its 32 list numbers the lanes that stand there, the first first.
--
--   groups_word, back_word   the words of the groups that have lanes, and of what was taken off the clock
--   start_word, map_word     group g's words: its start, and which of its lists have lanes
--   ring_number             the ring that keeps list b of group g
--   back_end                all lists of the greatest slots once round: what was taken off the clock counts up to here
--   map_of                  the word of group g's lists that have lanes; 0 where the group's own bit is not set
--   list_in                 list b of group g, m being the word of the group's lists that have lanes
--   list_at                 list b of group g
--   start_at                the stored start of group g; none where the group's own bit is not set
--   slot_of, list_of         the slot of a time in group g by the endless clock, and the number of its list
--   Fills                  R6.11: each list that a word marks has lanes
--   Solid                  R6.11: what is stored agrees with itself
--   Empty                  no group has lanes, and nothing was taken off the clock
--
-- Assumes nothing.
use Rattle.std.specs.Prelude.{◌≡◌, ℕ, ◌+◌, ◌-◌, ◌*◌, ◌/◌, ◌%◌, ◌^◌, ◌≤◌, ◌<◌, List, [], eqb, length, if◌then◌else◌}
use Rattle.std.proofs.Math.Option.{Option, none, some}
use Rattle.words.specs.Bits.{bit}
use Rattle.words.specs.Words.{word_at}
use Rattle.rings.specs.Rings.{ring_at}
pub use Rattle.parts.specs.Parts.{lowest_group, highest_group, slot_list_count, lists_from, groups_end}
use Rattle.parts.specs.Parts.{group_count}

abbrev pub groups_word : ℕ
groups_word = lists_from

abbrev pub back_word : ℕ
back_word = lists_from + 1

-- the words before group 16's are for all groups, so a group's number is its distance from the first
abbrev pub start_word : ℕ → ℕ
start_word g = lists_from + g

-- behind the starts of all groups
abbrev pub map_word : ℕ → ℕ
map_word g = lists_from + group_count + g

abbrev pub ring_number : ℕ → ℕ → ℕ
ring_number g b = slot_list_count * (g - lowest_group) + b

-- 2^36
abbrev pub back_end : ℕ
back_end = slot_list_count * 2 ^ highest_group

abbrev pub groups_at : List ℕ → ℕ
groups_at t = word_at t groups_word

abbrev pub back_at : List ℕ → ℕ
back_at t = word_at t back_word

unfoldable pub map_of : List ℕ → ℕ → ℕ
map_of t g = if eqb (bit g (groups_at t)) 1 then word_at t (map_word g) else 0

unfoldable pub list_in : List ℕ → ℕ → ℕ → ℕ → List ℕ
list_in t g m b = if eqb (bit b m) 1 then ring_at t (ring_number g b) else []

abbrev pub list_at : List ℕ → ℕ → ℕ → List ℕ
list_at t g b = list_in t g (map_of t g) b

unfoldable pub start_at : List ℕ → ℕ → Option ℕ
start_at t g = if eqb (bit g (groups_at t)) 1 then some (word_at t (start_word g)) else none

abbrev pub slot_of : List ℕ → ℕ → ℕ → ℕ
slot_of t g x = (x + back_at t) / 2 ^ g

abbrev pub list_of : List ℕ → ℕ → ℕ → ℕ
list_of t g x = slot_of t g x % slot_list_count

pub record Fills (t : List ℕ) (g m : ℕ) : Type 0 where
  pub narrow : m < 2 ^ slot_list_count
  pub filled : (b : ℕ) → b < slot_list_count → bit b m ≡ 1 → 0 < length (ring_at t (ring_number g b))

pub record Solid (t : List ℕ) : Type 0 where
  pub fills : (g : ℕ) → lowest_group ≤ g → g ≤ highest_group → Fills t g (map_of t g)
  pub groups : (g : ℕ) → bit g (groups_at t) ≡ 1 → (lowest_group ≤ g) × (g ≤ highest_group)
  pub some_list : (g : ℕ) → bit g (groups_at t) ≡ 1 → 0 < map_of t g
  pub high : groups_at t < 2 ^ (highest_group + 1)
  -- whole slots of every group; what matters of it is its remainder by 32 slots of the greatest
  pub back_whole : back_at t % 2 ^ highest_group ≡ 0
  pub back_small : back_at t < back_end

-- the other words, and the rings, mean nothing then
pub record Empty (t : List ℕ) : Type 0 where
  pub groups : groups_at t ≡ 0
  pub back : back_at t ≡ 0
