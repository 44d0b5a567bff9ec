-- The state that a table's words mean, in the terms of `rules`.
--
--   present_at     lane k is in the setup: bit k of the word of present lanes
--   Next          the next lane in the setup
--   timed_by_word   a lane by its setting, its one clock word and what waits in it
--   waiting_of     what waits in a lane: a ring of records, or those of a shared lane's trains
--   lane_of        lane k; one that is not in the setup means nothing, whatever its words hold
--   state_of       the state of the first part's words, with a tie order
--   meant         the state of a table's bytes: the tie order is the slot lists, one behind the other
--   RowAgrees     the setting of a lane is within the numbers
--   RowPaced      c and the group that stand in a lane's row are those of its setting; Paces: so are these two numbers
--   PlacesFit     every place of a lane holds a length within the lane's numbers
--   TrainsFit     the row of a shared lane counts the records of all trains, and its round's number has no bit that means nothing
--   Housed        c and group, places and trains of a lane that holds records: while it is idle these words mean nothing
--   RowsFit       R6.10: what is stored beside the state: the depth; each present lane's setting and h within the numbers; how holding lanes are housed
--   Listed        the slot lists and the groups' starts are those of the lanes
--   Sound         what the inner functions rest on, in the middle of a call too
--   Leaves        what a function that stores in the first part leaves: a state, what is stored beside it, and every byte behind that part
--
-- Assumes nothing.
use Rattle.std.specs.Prelude.{◌≡◌, Bool, true, ℕ, zero, suc, ◌+◌, ◌≤◌, ◌<◌, List, eqb, get_or, set, if◌then◌else◌}
use Rattle.words.specs.Bits.{bit}
use Rattle.words.specs.Runs.{tab}
use Rattle.rounds.specs.Round.{BareRec, Shared, empty_shared, shared_held}
use Rattle.turns.specs.Turns.{shared_of, Ordered}
use Rattle.waiting.specs.Waiting.{Waiting, plain, shared, first}
use Rattle.rules.specs.State.{Setting, Lane, State, rate, group, no_lane, lane_depth}
use Rattle.rules.specs.Calls as rules
use Rattle.rules.specs.Setup.{InNumbers}
use Rattle.parts.specs.Parts.{lane_count}
use Rattle.slot_lists.specs.Lists.{back_at, list_at, start_at, Solid}
use Rattle.filing.specs.Filing.{in_aRow, Agrees}
use Rattle.table.specs.Layout.{Room, Behind, cells, clock_word, present_word, depth_word, place_in_lane, entry_at, row_at, round_at, train_number}
use Rattle.table.specs.declared.LaneRow.{LaneRow}
use Rattle.table.specs.declared.Entry.{Entry}
use Rattle.table.specs.declared.Pace.{Pace}

unfoldable pub present_at : List ℕ → ℕ → Bool
present_at w k = eqb (bit k (get_or w present_word 0)) 1

-- the first lane from a number on that a word of present lanes names; 64 where there is none
pub record Next (lanes from k : ℕ) : Type 0 where
  pub on : from ≤ k
  pub ends : k ≤ lane_count
  pub absent : (i : ℕ) → from ≤ i → i < k → bit i lanes ≡ 0
  pub present : k < lane_count → bit k lanes ≡ 1

-- a record as the rules have it, without its train
abbrev pub rec_of : Entry → BareRec
rec_of e = record { mark = e.mark; len = e.length.0 }

-- the n records of lane k's ring from the place h on
unfoldable pub lane_ring : List ℕ → ℕ → ℕ → ℕ → List BareRec
lane_ring w k h n = tab n (λ i. rec_of (entry_at w (place_in_lane k (h + i))))

abbrev pub given_of : LaneRow → Setting
given_of l = record { weight = l.weight; longest = l.longest.0; framing = l.framing.0; shared = l.shared }

-- the record at lane k's place i
unfoldable pub rec_at : List ℕ → ℕ → ℕ → BareRec
rec_at w k i = rec_of (entry_at w (place_in_lane k i))

-- R18.9: train j of a shared lane has its places 8 j to 8 j + 7
unfoldable pub shared_at : List ℕ → ℕ → Shared
shared_at w k = shared_of (rec_at w k) (train_number w k) (round_at w k)

-- the words of trains and round mean nothing while the lane holds no record
unfoldable pub shared_if : ℕ → Shared → Waiting
shared_if zero s = shared empty_shared
shared_if (suc n) s = shared s

unfoldable pub waiting_of : List ℕ → ℕ → LaneRow → Waiting
waiting_of w k l = if l.shared then shared_if l.count (shared_at w k) else plain (lane_ring w k l.head l.count)

-- One clock word x: F of an idle lane, whose S is 0 by definition; S of a holding one, whose F follows by R6.6.
unfoldable pub timed_by_word : Setting → ℕ → Waiting → Lane
timed_by_word g x w = rules.timed g x w (first w)

unfoldable pub row_lane : List ℕ → ℕ → LaneRow → Lane
row_lane w k l = timed_by_word (given_of l) l.time.0 (waiting_of w k l)

unfoldable pub lane_of : List ℕ → ℕ → Lane
lane_of w k = if present_at w k then row_lane w k (row_at w k) else no_lane

unfoldable pub state_of : List ℕ → List ℕ → State
state_of w order = record { clock = get_or w clock_word 0; lanes = tab lane_count (lane_of w); order = order }

-- R6.1. No call looks at the order of two lanes of different lists, so any row of the lists will do (crate alike).
abbrev pub meant : List ℕ → State
meant t = state_of (cells t) (in_aRow (list_at t))

-- ---- what is stored beside the state

-- R6.10: a lane is present exactly if it is in the setup
pub record RowAgrees (l : LaneRow) : Type 0 where
  pub numbers : InNumbers (given_of l)
  pub framing : l.framing.0 ≤ 64

-- R6.10: asked while the lane holds records
pub record RowPaced (l : LaneRow) : Type 0 where
  pub rated : l.rate.0 ≡ rate (given_of l)
  pub grouped : l.group ≡ group (given_of l)

-- R1.8, R1.10
pub record Paces (g : Setting) (p : Pace) : Type 0 where
  pub rated : p.rate.0 ≡ rate g
  pub grouped : p.group ≡ group g

-- R6.10: every place of a lane holds a length of 1 to the lane's longest, whether a record is there or not: so the test reads all places at once
abbrev pub PlacesFit : List ℕ → ℕ → LaneRow → Type 0
PlacesFit w k l = (i : ℕ) → i < lane_depth → (entry_at w (place_in_lane k i)).length.0 ≤ l.longest.0

-- R18.9
pub record TrainsFit (w : List ℕ) (k : ℕ) (l : LaneRow) : Type 0 where
  pub counted : shared_held (shared_at w k) ≡ l.count
  pub ordered : Ordered (round_at w k)

pub record Housed (w : List ℕ) (k : ℕ) (l : LaneRow) : Type 0 where
  pub paced : RowPaced l
  pub places : PlacesFit w k l
  pub trains : l.shared ≡ true → TrainsFit w k l

pub record RowsFit (w : List ℕ) : Type 0 where
  pub depth : get_or w depth_word 0 ≡ lane_depth
  pub housed : (k : ℕ) → k < lane_count → present_at w k ≡ true → 0 < (row_at w k).count → Housed w k (row_at w k)
  pub rows : (k : ℕ) → k < lane_count → present_at w k ≡ true → RowAgrees (row_at w k)

-- R6.11: each lane that holds records stands in the list of its group and of the slot of its S, and in no other; each group's start is the least R of its lanes
pub record Listed (t : List ℕ) : Type 0 where
  pub solid : Solid t
  pub agrees : Agrees (back_at t) (list_at t) (start_at t) (meant t)

-- ---- contracts

-- A lane has its new S before it is moved to another list, so this does not ask for `Listed`.
pub record Sound (t : List ℕ) : Type 0 where
  pub room : Room t
  pub beside : RowsFit (cells t)

pub record Leaves (before after : List ℕ) (s : State) : Type 0 where
  pub state : meant after ≡ s
  pub beside : RowsFit (cells before) → RowsFit (cells after)
  pub rest : Behind before after

-- ---- a state with one part changed

abbrev pub with_clock : State → ℕ → State
with_clock s v = record { clock = v; lanes = s.lanes; order = s.order }

abbrev pub with_lane : State → ℕ → Lane → State
with_lane s k l = record { clock = s.clock; lanes = set s.lanes k l; order = s.order }
