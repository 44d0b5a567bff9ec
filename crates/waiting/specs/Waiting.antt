-- What waits in one lane.
--
--   Waiting       the records of one lane
--   none_waiting   no record
--   first         the first record, the one that the lane hands out next
--   enter         a record more, of a train
--   hand_out       without the first record
--   held          how many records wait
--   queue_of       those of one train, first record first
--   full          no room for a record of a train
--   GoodWaiting   what the rule for a good table asks of it; waiting_test: the same as a test
--
-- L is the lane's longest record. proofs/Laws.antt and Sharing.antt have all that the rules know of these. Assumes nothing.
use Rattle.std.specs.Prelude.{ℕ, zero, suc, ◌≤◌, Bool, true, false, ◌&&◌, List, [], ◌∷◌, ◌++◌, leb, ltb, length}
use Rattle.std.proofs.Math.Option.{Option, none, some}
use Rattle.rounds.specs.Round as round
use Rattle.rounds.specs.Round.{TrainItem, Shared, train_at, train_count, train_depth}
use Rattle.rounds.specs.Good.{Lengths, GoodShared, every, length_test, good_test}

-- R1.7: how many records a lane has room for; lanes share no room
abbrev pub lane_depth : ℕ
lane_depth = 64

-- R1.5: a record with its train; a lane that is not shared has train 0 only
pub record Rec : Type 0 where
  pub train : ℕ
  pub mark : ℕ
  pub len : ℕ

abbrev pub bare : Rec → round.BareRec
bare r = record { mark = r.mark; len = r.len }

abbrev pub with_train : ℕ → round.BareRec → Rec
with_train k r = record { train = k; mark = r.mark; len = r.len }

-- R2.1, R18.1: a queue; in a shared lane one for each train, and their turns
pub data Waiting : Type 0 where
  plain : List round.BareRec → Waiting
  shared : Shared → Waiting

-- what waits in a lane, shared or not, at first
abbrev pub none_waiting : Bool → Waiting
none_waiting false = plain []
none_waiting true = shared round.empty_shared

abbrev pub head : List round.BareRec → Option Rec
head [] = none
head (r ∷ rs) = some (with_train 0 r)

unfoldable pub tail : List round.BareRec → List round.BareRec
tail [] = []
tail (r ∷ rs) = rs

abbrev pub item_of : Option TrainItem → Option Rec
item_of none = none
item_of (some x) = some (with_train x.train x.item)

-- R18.4: in a shared lane that of the train in turn
abbrev pub first : Waiting → Option Rec
first (plain q) = head q
first (shared s) = item_of (round.shared_first s)

unfoldable pub enter : ℕ → Waiting → Rec → Waiting
enter L (plain q) r = plain (q ++ (bare r ∷ []))
enter L (shared s) r = shared (round.shared_put L s r.train (bare r))

unfoldable pub hand_out : ℕ → Waiting → Waiting
hand_out L (plain q) = plain (tail q)
hand_out L (shared s) = shared (round.shared_hand_out L s)

unfoldable pub held : Waiting → ℕ
held (plain q) = length q
held (shared s) = round.shared_held s

-- R18.3: a lane that is not shared holds records of train 0 only
unfoldable pub queue_of : Waiting → ℕ → List round.BareRec
queue_of (plain q) zero = q
queue_of (plain q) (suc k) = []
queue_of (shared s) k = (train_at s k).queue

-- R1.7, R14.25, R14.46
unfoldable pub full : Waiting → ℕ → Bool
full (plain q) k = leb lane_depth (length q)
full (shared s) k = leb train_depth (length (train_at s k).queue)

-- R14.45, R18.3: a train that the lane knows
unfoldable pub known : Waiting → ℕ → Bool
known (plain q) k = leb k 0
known (shared s) k = ltb k train_count

-- the lane is shared
unfoldable pub is_shared : Waiting → Bool
is_shared (plain q) = false
is_shared (shared s) = true

-- ---- good

-- R6.4: no more records than the lane has room for
unfoldable pub GoodWaiting : ℕ → Waiting → Type 0
GoodWaiting L (plain q) = (length q ≤ lane_depth) × Lengths L q
GoodWaiting L (shared s) = GoodShared L s

unfoldable pub waiting_test : ℕ → Waiting → Bool
waiting_test L (plain q) = leb (length q) lane_depth && every (length_test L) q
waiting_test L (shared s) = good_test L s
