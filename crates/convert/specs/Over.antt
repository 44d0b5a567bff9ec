-- What the steps of the conversion leave. `old` are the bytes of the old table throughout.
--
--   Copied      the first n bytes are the old table's, and those past the table are as they were
--   Carried     what both layouts keep in the same places is the old table's, and the depth number is today's
--   Filled      n records of lane k, which has the old row l, stand in its new ring from place 0 on
--   unrolled    an old row with another clock word, its ring begun at place 0
--   LaneOver    lane k means what it meant, and its records are housed
--   LaneMoved   lane k is taken over, and no word but its clock word, its ring word and its places is changed
--   Over        the lanes below n are taken over
--
-- Assumes nothing.
use Rattle.std.specs.Prelude.{◌≡◌, true, ℕ, ◌+◌, ◌*◌, ◌≤◌, ◌<◌, List, get_or, drop}
use Rattle.rules.specs.State.{lane_depth}
use Rattle.parts.specs.Parts.{rows_from}
use Rattle.rings.specs.Rings.{rings_end}
use Rattle.slot_lists.specs.Lists.{lists_from}
use Rattle.table.specs.Layout.{SIZE, Behind, cells, depth_word, lane_word, lengths_cell, length_words, marks_cell, mark_words, row_at}
use Rattle.table.specs.Means.{present_at, lane_ring, PlacesFit, Housed, lane_of}
use Rattle.table.specs.declared.LaneRow.{LaneRow}
use Rattle.old_table.specs.Old.{old_ring, old_lane}

pub record Copied (old before after : List ℕ) (n : ℕ) : Type 0 where
  pub bytes : (a : ℕ) → a < n → get_or after a 0 ≡ get_or old a 0
  pub rest : drop SIZE after ≡ drop SIZE before

pub record Carried (old t : List ℕ) : Type 0 where
  pub single : (i : ℕ) → i < rows_from → (i ≡ depth_word → ⊥) → get_or (cells t) i 0 ≡ get_or (cells old) i 0
  pub settings : (k : ℕ) → k < 64 → get_or (cells t) (lane_word k) 0 ≡ get_or (cells old) (lane_word k) 0
  pub depth : get_or (cells t) depth_word 0 ≡ lane_depth
  pub lists : (a : ℕ) → lists_from * 8 ≤ a → a < rings_end → get_or t a 0 ≡ get_or old a 0

-- a cell that is no length and no mark of lane k
abbrev pub NoPlace : ℕ → ℕ → Type 0
NoPlace k i = ((lengths_cell + length_words * k ≤ i) → (i < lengths_cell + length_words * k + length_words) → ⊥) × ((marks_cell + mark_words * k ≤ i) → (i < marks_cell + mark_words * k + mark_words) → ⊥)

pub record Filled (old before after : List ℕ) (k : ℕ) (l : LaneRow) (n : ℕ) : Type 0 where
  pub kept : (i : ℕ) → NoPlace k i → get_or (cells after) i 0 ≡ get_or (cells before) i 0
  pub ring : lane_ring (cells after) k 0 n ≡ old_ring (cells old) k l.head n
  pub places : PlacesFit (cells after) k l
  pub rest : Behind before after

abbrev pub unrolled : LaneRow → ℕ → LaneRow
unrolled l x = record { longest = l.longest; framing = l.framing; weight = l.weight; group = l.group; rate = l.rate; shared = l.shared; time = record { 0 = x }; head = 0; count = l.count }

pub record LaneOver (old t : List ℕ) (k : ℕ) : Type 0 where
  pub lane : lane_of (cells t) k ≡ old_lane (cells old) k
  pub housed : present_at (cells t) k ≡ true → 0 < (row_at (cells t) k).count → Housed (cells t) k (row_at (cells t) k)

pub record LaneMoved (old before after : List ℕ) (k : ℕ) : Type 0 where
  pub kept : (i : ℕ) → ((lane_word k + 1 ≤ i) → (i < lane_word k + 3) → ⊥) → ((lengths_cell + length_words * k ≤ i) → (i < lengths_cell + length_words * k + length_words) → ⊥) → ((marks_cell + mark_words * k ≤ i) → (i < marks_cell + mark_words * k + mark_words) → ⊥) → get_or (cells after) i 0 ≡ get_or (cells before) i 0
  pub over : LaneOver old after k
  pub rest : Behind before after

pub record Over (old t : List ℕ) (n : ℕ) : Type 0 where
  pub carried : Carried old t
  pub lanes : (k : ℕ) → k < n → LaneOver old t k
