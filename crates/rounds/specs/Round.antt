-- One lane that up to 8 trains share, by deficit round robin (docs/RULES.md, R18).
--
--   BareRec         a waiting record without its train: its mark and its length
--   Train           a train's deficit and its queue, first record first
--   Shared          the trains by number, and the round: the trains that hold records in the order of their turns, the one in turn first
--   train_holds      train k holds a record
--   in_turn          train k is the one in turn
--   shared_first     the chosen record, with its train
--   begin           a turn begins
--   shared_put       a record for a train
--   shared_hand_out   the chosen record is handed out
--   shared_held      how many records wait
--
-- L is the lane's longest record, in bytes. Assumes nothing.
use Rattle.std.specs.Prelude.{ℕ, ◌+◌, ◌-◌, Bool, true, false, List, [], ◌∷◌, ◌++◌, leb, eqb, length, get_or, set, replicate, if◌then◌else◌}
use Rattle.std.proofs.Math.Option.{Option, none, some}
use Rattle.units.specs.Plain.{sum}

-- ---- what a shared lane holds

pub record BareRec : Type 0 where
  pub mark : ℕ
  pub len : ℕ

-- what stands past a queue's end
abbrev pub no_rec : BareRec
no_rec = record { mark = 0; len = 0 }

-- R18.2: a deficit counts bare bytes, without framing
pub record Train : Type 0 where
  pub deficit : ℕ
  pub queue : List BareRec

-- R18.2
pub record Shared : Type 0 where
  pub trains : List Train
  pub round : List ℕ

-- R18.2: the trains are numbered 0 to 7, and each has a queue of its own
abbrev pub train_count : ℕ
train_count = 8

-- R18.2
abbrev pub train_depth : ℕ
train_depth = 8

abbrev pub no_train : Train
no_train = record { deficit = 0; queue = [] }

abbrev pub queued? : List BareRec → Bool
queued? [] = false
queued? (r ∷ rs) = true

abbrev pub train_at : Shared → ℕ → Train
train_at s k = get_or s.trains k no_train

abbrev pub train_holds : Shared → ℕ → Bool
train_holds s k = queued? (train_at s k).queue

-- R18.2
abbrev pub in_turn : ℕ → List ℕ → Bool
in_turn k [] = false
in_turn k (j ∷ js) = eqb j k

-- a lane in which nothing waits
unfoldable pub empty_shared : Shared
empty_shared = record { trains = replicate train_count no_train; round = [] }

abbrev pub train_held : Train → ℕ
train_held t = length t.queue

abbrev pub shared_held : Shared → ℕ
shared_held s = sum train_held s.trains

-- ---- the chosen record

-- a record with its train
pub record TrainItem : Type 0 where
  pub train : ℕ
  pub item : BareRec

unfoldable pub first_of_train : ℕ → List BareRec → Option TrainItem
first_of_train k [] = none
first_of_train k (r ∷ rs) = some (record { train = k; item = r })

-- R18.4
unfoldable pub first_in_turn : List Train → List ℕ → Option TrainItem
first_in_turn ts [] = none
first_in_turn ts (k ∷ ks) = first_of_train k (get_or ts k no_train).queue

-- R18.4: the chosen record is the first of the train in turn: no put changes which train that is
unfoldable pub shared_first : Shared → Option TrainItem
shared_first s = first_in_turn s.trains s.round

-- ---- turns

-- R18.6: what a turn gives a train: the lane's longest
unfoldable pub raised : ℕ → Train → Train
raised L t = record { deficit = t.deficit + L; queue = t.queue }

-- R18.6: the turn of the round's first train begins
unfoldable pub begin : ℕ → List Train → List ℕ → Shared
begin L ts [] = record { trains = ts; round = [] }
begin L ts (k ∷ ks) = record { trains = set ts k (raised L (get_or ts k no_train)); round = k ∷ ks }

-- ---- put

unfoldable pub added : Train → BareRec → Train
added t r = record { deficit = t.deficit; queue = t.queue ++ (r ∷ []) }

-- R18.5: a train that held nothing goes behind the others; in an empty lane its turn begins at once
unfoldable pub join : ℕ → List Train → List ℕ → ℕ → Shared
join L ts [] k = begin L ts (k ∷ [])
join L ts (j ∷ js) k = record { trains = ts; round = j ∷ js ++ (k ∷ []) }

-- R18.5
unfoldable pub shared_put : ℕ → Shared → ℕ → BareRec → Shared
shared_put L s k r =
    let ts = set s.trains k (added (train_at s k) r) in
    if train_holds s k then record { trains = ts; round = s.round } else join L ts s.round k

-- ---- hand out

-- R18.7: the train in turn, k, with the deficit d, hands out the first of its records, and its deficit drops by that record's length; ks is the round behind
-- it. Left with no record it leaves the round, and its deficit is gone. While what is left covers its next record it stays in turn; else it goes behind the
-- others with the rest, and the next turn begins. (Alone in the round it is the next in turn again.)
unfoldable pub hand_of : ℕ → List Train → ℕ → List ℕ → ℕ → List BareRec → Shared
hand_of L ts k ks d [] = record { trains = ts; round = k ∷ ks }
hand_of L ts k ks d (r ∷ []) = begin L (set ts k no_train) ks
hand_of L ts k ks d (r ∷ r' ∷ rs) =
    let ts' = set ts k (record { deficit = d - r.len; queue = r' ∷ rs }) in
    if leb r'.len (d - r.len) then record { trains = ts'; round = k ∷ ks } else begin L ts' (ks ++ (k ∷ []))

-- R18.7
unfoldable pub hand_in : ℕ → List Train → List ℕ → Shared
hand_in L ts [] = record { trains = ts; round = [] }
hand_in L ts (k ∷ ks) = hand_of L ts k ks (get_or ts k no_train).deficit (get_or ts k no_train).queue

-- R18.7
unfoldable pub shared_hand_out : ℕ → Shared → Shared
shared_hand_out L s = hand_in L s.trains s.round
