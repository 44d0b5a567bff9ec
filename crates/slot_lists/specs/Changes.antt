-- What the functions on slot lists leave.
--
--   ListMoved      one list was changed, m and m' being the words of the group's lists before and after; no word is stored yet
--   Apart          the words below this part, what was taken off the clock, and the bytes past the rings stay
--   GroupStored    a group's words were stored
--   ListsEmptied   all groups were cleared
--   Lowered        the clock was taken back
--   Nearest        the first set bit of a word of lists from one of them on, in circular order
--   WithBit        a word with one bit set, or not
--
-- Assumes nothing.
use Rattle.std.specs.Prelude.{◌≡◌, Bool, ℕ, ◌+◌, ◌-◌, ◌%◌, ◌^◌, ◌≤◌, ◌<◌, List, eqb, get_or, drop, if◌then◌else◌}
use Rattle.std.proofs.Math.Option.{Option, none, some}
use Rattle.words.specs.Bits.{bit}
use Rattle.words.specs.Words.{word_at}
use Rattle.rings.specs.Rings.{ring_count, rings_from, rings_end, ring_at}
use Rattle.slot_lists.specs.Lists.{lowest_group, highest_group, slot_list_count, lists_from, ring_number, back_end, groups_at, back_at, map_of, list_in, start_at, Fills, Empty}

pub record ListMoved (before after : List ℕ) (g m m' b : ℕ) (l : List ℕ) : Type 0 where
  pub list : list_in after g m' b ≡ l
  pub others : (c : ℕ) → c < slot_list_count → (c ≡ b → ⊥) → list_in after g m' c ≡ list_in before g m c
  pub fills : Fills before g m → Fills after g m'
  pub rings : (i c : ℕ) → lowest_group ≤ i → i ≤ highest_group → c < slot_list_count → (i ≡ g → ⊥) → ring_at after (ring_number i c) ≡ ring_at before (ring_number i c)
  pub below : (a : ℕ) → a < rings_from → get_or after a 0 ≡ get_or before a 0
  pub rest : drop rings_end after ≡ drop rings_end before

pub record Apart (before after : List ℕ) : Type 0 where
  pub below : (j : ℕ) → j < lists_from → word_at after j ≡ word_at before j
  pub back : back_at after ≡ back_at before
  pub rest : drop rings_end after ≡ drop rings_end before

-- the group has lanes exactly if its word of lists is not 0
pub record GroupStored (before after : List ℕ) (g m r : ℕ) : Type 0 where
  pub apart : Apart before after
  pub map : map_of after g ≡ m
  pub maps : (i : ℕ) → lowest_group ≤ i → i ≤ highest_group → (i ≡ g → ⊥) → map_of after i ≡ map_of before i
  pub start : start_at after g ≡ (if eqb m 0 then none else some r)
  pub starts : (i : ℕ) → lowest_group ≤ i → i ≤ highest_group → (i ≡ g → ⊥) → start_at after i ≡ start_at before i
  pub group : bit g (groups_at after) ≡ (if eqb m 0 then 0 else 1)
  pub groups : (i : ℕ) → (i ≡ g → ⊥) → bit i (groups_at after) ≡ bit i (groups_at before)
  pub high : groups_at before < 2 ^ (highest_group + 1) → groups_at after < 2 ^ (highest_group + 1)
  pub rings : (i : ℕ) → i < ring_count → ring_at after i ≡ ring_at before i

pub record ListsEmptied (before after : List ℕ) : Type 0 where
  pub empty : Empty after
  pub below : (j : ℕ) → j < lists_from → word_at after j ≡ word_at before j
  pub rest : drop rings_end after ≡ drop rings_end before

abbrev pub earlier_by : ℕ → Option ℕ → Option ℕ
earlier_by d none = none
earlier_by d (some r) = some (r - d)

-- d was taken off the clock: the groups' starts are so much earlier, what was taken off is remembered, and no list moves
pub record Lowered (before after : List ℕ) (d : ℕ) : Type 0 where
  pub below : (j : ℕ) → j < lists_from → word_at after j ≡ word_at before j
  pub groups : groups_at after ≡ groups_at before
  pub back : back_at after ≡ (back_at before + d) % back_end
  pub maps : (g : ℕ) → lowest_group ≤ g → g ≤ highest_group → map_of after g ≡ map_of before g
  pub starts : (g : ℕ) → lowest_group ≤ g → g ≤ highest_group → start_at after g ≡ earlier_by d (start_at before g)
  pub rings : (i : ℕ) → i < ring_count → ring_at after i ≡ ring_at before i
  pub rest : drop rings_end after ≡ drop rings_end before

pub record WithBit (x k : ℕ) (on : Bool) (r : ℕ) : Type 0 where
  pub same : bit k r ≡ (if on then 1 else 0)
  pub others : (j : ℕ) → (k ≡ j → ⊥) → bit j r ≡ bit j x
  pub small : (n : ℕ) → k < n → x < 2 ^ n → r < 2 ^ n

pub record Nearest (map b d : ℕ) : Type 0 where
  pub near : d < slot_list_count
  pub set : bit ((b + d) % slot_list_count) map ≡ 1
  pub none_before : (j : ℕ) → j < d → bit ((b + j) % slot_list_count) map ≡ 0
