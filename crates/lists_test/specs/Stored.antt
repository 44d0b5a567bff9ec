-- What the stored slot lists are asked for, word by word.
--
--   slot_number   the number of the slot of a time in group g, by the endless clock
--   FitsSlot     lane k's own words: it is of group g, and its clock word lies in slot `at`
--   RingFine     a ring that keeps a list has lanes, and each of them fits
--   GroupFine    the words of a group that has lanes, and each of its rings that keeps a list
--   ListsStored   all groups, and the lanes in all lists are those that hold records, each once
--   Adds         a word of lanes, with those of a list more
--
-- Assumes nothing.
use Rattle.std.specs.Prelude.{◌≡◌, ℕ, ◌+◌, ◌-◌, ◌*◌, ◌/◌, ◌%◌, ◌^◌, ◌≤◌, ◌<◌, List, [], eqb, length, if◌then◌else◌, Option, Some, None}
use Rattle.units.specs.Plain.{times}
use Rattle.words.specs.Bits.{bit}
use Rattle.words.specs.Words.{word_at}
use Rattle.table.specs.Layout.{cells, row_at}
use Rattle.rings.specs.Rings.{ring_at}
use Rattle.slot_lists.specs.Lists.{groups_at, back_at, start_word, map_word, ring_number}
use Rattle.filing.specs.Filing.{flat}

-- what was taken off the clock is whole slots, so the two may be counted apart
abbrev pub slot_number : List ℕ → ℕ → ℕ → ℕ
slot_number t g x = x / 2 ^ g + back_at t / 2 ^ g

pub record FitsSlot (t : List ℕ) (k g at : ℕ) : Type 0 where
  pub group : (row_at (cells t) k).group ≡ g
  pub slot : slot_number t g (row_at (cells t) k).time.0 ≡ at

pub record RingFine (t : List ℕ) (i g at : ℕ) : Type 0 where
  pub some_lane : 0 < length (ring_at t i)
  pub fit : (k : ℕ) → 0 < times k (ring_at t i) → (k < 64) × FitsSlot t k g at

-- the slot of a group's start, and the slot of list b from there on
abbrev pub start_slot : List ℕ → ℕ → ℕ
start_slot t g = slot_number t g (word_at t (start_word g))

abbrev pub list_slot : List ℕ → ℕ → ℕ → ℕ
list_slot t g b = start_slot t g + (b + 32 - start_slot t g % 32) % 32

pub record GroupFine (t : List ℕ) (g : ℕ) : Type 0 where
  pub narrow : word_at t (map_word g) < 2 ^ 32
  pub whole : word_at t (start_word g) / 2 ^ g * 2 ^ g ≡ word_at t (start_word g)
  pub first : bit (start_slot t g % 32) (word_at t (map_word g)) ≡ 1
  pub rings : (b : ℕ) → b < 32 → bit b (word_at t (map_word g)) ≡ 1 → RingFine t (ring_number g b) g (list_slot t g b)

-- the lanes of a list of a group that has lanes, and of the group
abbrev pub ring_in : List ℕ → ℕ → ℕ → List ℕ
ring_in t g b = if eqb (bit b (word_at t (map_word g))) 1 then ring_at t (ring_number g b) else []

unfoldable pub group_in : List ℕ → ℕ → List ℕ
group_in t g = if eqb (bit g (groups_at t)) 1 then flat 32 (ring_in t g) else []

pub record ListsStored (t : List ℕ) (lanes : ℕ) : Type 0 where
  pub back_whole : back_at t % 2 ^ 31 ≡ 0
  pub back_small : back_at t < 2 ^ 36
  pub low : groups_at t % 65536 ≡ 0
  pub high : groups_at t < 2 ^ 32
  pub fine : (g : ℕ) → 16 ≤ g → g ≤ 31 → bit g (groups_at t) ≡ 1 → GroupFine t g
  pub once : (k : ℕ) → times k (flat 32 (group_in t)) ≡ bit k lanes

-- ---- what each walk says

abbrev pub NotListedYet : ℕ → List ℕ → Type 0
NotListedYet before l = (k : ℕ) → bit k before + times k l ≤ 1

abbrev pub Adds : ℕ → List ℕ → ℕ → Type 0
Adds before l after = (k : ℕ) → bit k after ≡ bit k before + times k l

unfoldable pub RingSays : List ℕ → ℕ → ℕ → ℕ → ℕ → Option ℕ → Type 0
RingSays t i g at before None = RingFine t i g at → NotListedYet before (ring_at t i) → ⊥
RingSays t i g at before (Some x) = RingFine t i g at × Adds before (ring_at t i) x

unfoldable pub GroupSays : List ℕ → ℕ → ℕ → Option ℕ → Type 0
GroupSays t g before None = GroupFine t g → NotListedYet before (flat 32 (ring_in t g)) → ⊥
GroupSays t g before (Some x) = GroupFine t g × Adds before (flat 32 (ring_in t g)) x
