-- Tables made while a lane had room for 16 records (docs/RULES.md, R7): what their bytes mean, and when they are good.
--
--   old_size                 their fixed size, in bytes
--   old_row_at                lane k's row: the ring word is the first place + 16 times the number of records; c is all of the setting word above the group,
--                           where today's top bit says that trains share the lane. No lane was shared
--   old_place, old_entry_at    the word of lane k's place i, i counted on past the ring's end, and the record there: mark + 2^32 times length
--   old_ring, old_queue       n records of lane k's ring from the place h on; those that the lane holds
--   old_lane, old_meant       lane k; the state of a table's bytes
--   OldAgrees               what is stored beside the state agrees with it
--   OldTable, OldEncodes    a good table; when bytes encode a state
--
-- Clock, present lanes, framing, settings, clock words and slot lists stand where they stand today, so today's names read them. Words that mean nothing
-- then, today's depth number among them, are not looked at. Assumes nothing.
use Rattle.std.specs.Prelude.{◌≡◌, true, false, ℕ, ◌+◌, ◌*◌, ◌/◌, ◌%◌, ◌^◌, ◌≤◌, ◌<◌, List, length, get_or, if◌then◌else◌}
use Rattle.words.specs.Runs.{tab}
use Rattle.rounds.specs.Round.{BareRec}
use Rattle.waiting.specs.Waiting.{plain}
use Rattle.rules.specs.State.{Lane, State, no_lane}
use Rattle.rules.specs.Older.{old_depth, GoodOld}
use Rattle.alike.specs.Alike.{Alike}
use Rattle.parts.specs.Parts.{lane_count, lengths_from, rings_end}
use Rattle.slot_lists.specs.Lists.{back_at, list_at, start_at, Solid}
use Rattle.filing.specs.Filing.{in_aRow, Agrees}
use Rattle.table.specs.Layout.{cells, clock_word, lane_word, ring_word, rate_from, row_at}
use Rattle.table.specs.Means.{present_at, rec_of, given_of, timed_by_word, RowAgrees, RowPaced}
use Rattle.table.specs.declared.LaneRow.{LaneRow}
use Rattle.table.specs.declared.Entry.{Entry}

-- R7.1, R13.7: 45,056. The slot lists came last
abbrev pub old_size : ℕ
old_size = rings_end

-- R7.2
unfoldable pub old_row_at : List ℕ → ℕ → LaneRow
old_row_at w k =
    let l = row_at w k in
    let ring = get_or w (ring_word k) 0 in
    record {
      longest = l.longest;
      framing = l.framing;
      weight = l.weight;
      group = l.group;
      rate = record { 0 = get_or w (lane_word k) 0 / 2 ^ rate_from };
      shared = false;
      time = l.time;
      head = ring % old_depth;
      count = ring / old_depth;
    }

-- R7.2: the records lay behind the 64 rows
abbrev pub old_place : ℕ → ℕ → ℕ
old_place k i = lengths_from + old_depth * k + i % old_depth

-- R7.2
unfoldable pub old_entry_at : List ℕ → ℕ → ℕ → Entry
old_entry_at w k i = let e = get_or w (old_place k i) 0 in record { mark = e % 2 ^ 32; length = record { 0 = e / 2 ^ 32 } }

unfoldable pub old_ring : List ℕ → ℕ → ℕ → ℕ → List BareRec
old_ring w k h n = tab n (λ i. rec_of (old_entry_at w k (h + i)))

abbrev pub old_queue : List ℕ → ℕ → List BareRec
old_queue w k = old_ring w k (old_row_at w k).head (old_row_at w k).count

unfoldable pub old_lane : List ℕ → ℕ → Lane
old_lane w k = if present_at w k then timed_by_word (given_of (old_row_at w k)) (old_row_at w k).time.0 (plain (old_queue w k)) else no_lane

-- R7.2
unfoldable pub old_meant : List ℕ → State
old_meant t = record { clock = get_or (cells t) clock_word 0; lanes = tab lane_count (old_lane (cells t)); order = in_aRow (list_at t) }

-- R7.3
pub record OldAgrees (t : List ℕ) : Type 0 where
  pub rows : (k : ℕ) → k < lane_count → present_at (cells t) k ≡ true → RowAgrees (old_row_at (cells t) k)
  -- c and the group of each lane, one that was idle too
  pub paced : (k : ℕ) → k < lane_count → present_at (cells t) k ≡ true → RowPaced (old_row_at (cells t) k)
  pub solid : Solid t
  pub lists : Agrees (back_at t) (list_at t) (start_at t) (old_meant t)

-- R7.1, R7.3: the rule of that time, with h
pub record OldTable (t : List ℕ) : Type 0 where
  pub room : old_size ≤ length t
  pub good : GoodOld (old_meant t)
  pub agrees : OldAgrees t

pub record OldEncodes (t : List ℕ) (s : State) : Type 0 where
  pub room : old_size ≤ length t
  pub alike : Alike (old_meant t) s
  pub agrees : OldAgrees t
