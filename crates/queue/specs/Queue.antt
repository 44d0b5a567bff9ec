-- What the first record of a lane is, what a record more and one less make of what waits, and of the words that it is kept in.
--
--   waiting   a record as the rules have it; bare: without its train
--   First     e is the lane's first record
--   Takes     e was the first record of lane k, and the lane is served
--   Ready     a shared lane's numbers take a record of the train more
--   Joins     both numbers tell of it
--   QueueMoved   lane k's places, trains or round changed, and no other word
--   Entered   one record more in lane k's words; Cleared: none is left
--   Fronts    which place the lane's first record stands at, and its train
--   Chosen    a shared lane whose first record has this length; Turned: it is handed out
--
-- Assumes nothing.
use Rattle.std.specs.Prelude.{◌≡◌, true, false, ℕ, ◌+◌, ◌<◌, List, [], ◌∷◌, ◌++◌, set}
use Rattle.std.proofs.Math.Option.{some}
use Rattle.rounds.specs.Round as round
use Rattle.rounds.specs.Round.{empty_shared, shared_put, shared_hand_out}
use Rattle.rounds.specs.Good.{GoodShared}
use Rattle.turns.specs.Turns.{head_of, count_of, named_of, turn_of, Ordered, Light, Puts}
use Rattle.turns.specs.Turns as turns
use Rattle.turns.specs.declared.Change.{Change}
use Rattle.waiting.specs.Waiting.{with_train}
use Rattle.rules.specs.State.{Rec, Lane, first_of, lane_at}
use Rattle.rules.specs.Calls.{served}
use Rattle.table.specs.Layout.{Now, Behind, cells, place_in_lane, entry_at, round_word, round_at, train_number, put_train}
use Rattle.table.specs.Means.{rec_at, lane_ring, shared_at, waiting_of, meant, PlacesFit, Leaves, with_lane}
use Rattle.table.specs.declared.LaneRow.{LaneRow}
use Rattle.table.proofs.Footprint.{Outside}
use Rattle.table.proofs.Untouched.{SameRows}
use Rattle.waiting.specs.Waiting as waits
use Rattle.queue.specs.declared.Item.{Item}
use Rattle.queue.specs.declared.FirstPlace.{FirstPlace}

abbrev pub waiting : Item → Rec
waiting e = record { train = e.train; mark = e.mark; len = e.length.0 }

abbrev pub bare_item : Item → round.BareRec
bare_item e = record { mark = e.mark; len = e.length.0 }

abbrev pub First : Lane → Item → Type 0
First l e = first_of l ≡ some (waiting e)

-- R3.11, R3.13: the first record is out, and the lane has the S and F of the next, or is idle.
pub record Takes (before after : List ℕ) (k : ℕ) (e : Item) : Type 0 where
  pub first : First (lane_at (meant before) k) e
  pub leaves : Leaves before after (with_lane (meant before) k (served (lane_at (meant before) k)))

-- ---- the words of a lane

pub record Ready (w : List ℕ) (k j : ℕ) : Type 0 where
  pub train : j < 8
  pub light : Light (train_number w k j)
  pub room : count_of (train_number w k j) < 8
  pub ordered : Ordered (round_at w k)
  pub starts : count_of (train_number w k j) ≡ 0 → named_of (round_at w k) < 8

-- p is the place for the record
pub record Joins (before after : List ℕ) (k j L p : ℕ) : Type 0 where
  pub change : Change
  pub now : Now before after (set (put_train (cells before) k j change.train) (round_word k) change.round)
  pub puts : Puts L (train_number (cells before) k j) (round_at (cells before) k) j change
  pub place : p ≡ turns.place_in_train j (head_of (train_number (cells before) k j) + count_of (train_number (cells before) k j))

pub record QueueMoved (before after : List ℕ) (k : ℕ) : Type 0 where
  pub outside : Outside (cells before) (cells after) k
  pub rows : SameRows (cells before) (cells after) k
  pub behind : Behind before after

pub record Entered (before after : List ℕ) (k : ℕ) (l : LaneRow) (e : Item) : Type 0 where
  pub moved : QueueMoved before after k
  pub fits : PlacesFit (cells before) k l → PlacesFit (cells after) k l
  pub plain : l.shared ≡ false → lane_ring (cells after) k l.head (l.count + 1) ≡ lane_ring (cells before) k l.head l.count ++ (bare_item e ∷ [])
  pub shared : l.shared ≡ true → shared_at (cells after) k ≡ shared_put l.longest.0 (shared_at (cells before) k) e.train (bare_item e)
  pub ordered : l.shared ≡ true → Ordered (round_at (cells after) k)

pub record Cleared (before after : List ℕ) (k : ℕ) (l : LaneRow) : Type 0 where
  pub moved : QueueMoved before after k
  pub fits : PlacesFit (cells after) k l
  pub shared : l.shared ≡ true → shared_at (cells after) k ≡ empty_shared
  pub ready : l.shared ≡ true → (j : ℕ) → j < 8 → Ready (cells after) k j

-- where the first record of what waits stands
pub record Fronts (w : List ℕ) (k : ℕ) (l : LaneRow) (f : FirstPlace) : Type 0 where
  pub first : waits.first (waiting_of w k l) ≡ some (with_train f.train (rec_at w k f.place))

-- the first record of a shared lane has this length
pub record Chosen (w : List ℕ) (k L n : ℕ) : Type 0 where
  pub good : GoodShared L (shared_at w k)
  pub ordered : Ordered (round_at w k)
  pub named : 0 < named_of (round_at w k)
  pub length : (rec_at w k (turns.place_in_train (turn_of (round_at w k)) (head_of (train_number w k (turn_of (round_at w k)))))).len ≡ n

pub record Turned (before after : List ℕ) (k L : ℕ) : Type 0 where
  pub moved : QueueMoved before after k
  pub places : (i : ℕ) → entry_at (cells after) (place_in_lane k i) ≡ entry_at (cells before) (place_in_lane k i)
  pub shared : shared_at (cells after) k ≡ shared_hand_out L (shared_at (cells before) k)
  pub ordered : Ordered (round_at (cells after) k)
