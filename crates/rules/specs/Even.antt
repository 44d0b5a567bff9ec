-- R15.18: trains of one lane, their bare bytes sent while one holds records, and while two do.
--
--   HoldingTrain   train t of lane k holds a record after these events
--   train_bytes     the bare bytes of train t of lane k that these events handed out
--   OthersTight    the claim for every list of calls from a fresh table of the setup gs: while one train holds records, no other is sent more than it and three
--                  times the lane's longest, less 2
--   EvenTight      so two trains that both hold records are that near to each other
--   EvenTrains     the same with three times the longest, of any two
--
-- Assumes nothing.
use Rattle.std.specs.Prelude.{ℕ, ◌+◌, ◌*◌, ◌≤◌, ◌<◌, ◌≡◌, List, ◌++◌, length}
use Rattle.rounds.specs.Runs.{bytes}
use Rattle.rules.specs.State.{Setting, setting_at}
use Rattle.rules.specs.Calls.{Call, fresh}
use Rattle.rules.specs.Runs.{Event, trace, accepted_of, sent_of, of_train}

-- more records of it were accepted than handed out
abbrev pub HoldingTrain : ℕ → ℕ → List Event → Type 0
HoldingTrain k t es = length (of_train t (sent_of k es)) < length (of_train t (accepted_of k es))

abbrev pub train_bytes : ℕ → ℕ → List Event → ℕ
train_bytes k t es = bytes (of_train t (sent_of k es))

-- Any list of calls, any stretch of it, any lane, a train a of it that holds a record before the stretch and after each call in it, and any other train b,
-- which may come and go: what was sent of b is at most what was sent of a and three times the lane's longest, less 2.
unfoldable pub OthersTight : List Setting → Type 0
OthersTight gs =
    (calls : List Call) (past stretch rest : List Event) → trace (fresh gs) calls ≡ past ++ stretch ++ rest
    → (k a b : ℕ) → (a ≡ b → ⊥) → ((p q : List Event) → p ++ q ≡ stretch → HoldingTrain k a (past ++ p))
    → train_bytes k b stretch + 2 ≤ train_bytes k a stretch + 3 * (setting_at gs k).longest

-- trains a and b of lane k both hold a record before the stretch and after each call in it
abbrev pub BothThroughout : ℕ → ℕ → ℕ → List Event → List Event → Type 0
BothThroughout k a b past stretch = (p q : List Event) → p ++ q ≡ stretch → HoldingTrain k a (past ++ p) × HoldingTrain k b (past ++ p)

-- Any list of calls, any stretch of it, any lane and any two of its trains that both hold records throughout: what was sent of the one is at most what was sent
-- of the other and three times the lane's longest, less 2. So it is with the two exchanged.
unfoldable pub EvenTight : List Setting → Type 0
EvenTight gs =
    (calls : List Call) (past stretch rest : List Event) → trace (fresh gs) calls ≡ past ++ stretch ++ rest
    → (k a b : ℕ) → (a ≡ b → ⊥) → BothThroughout k a b past stretch
    → train_bytes k a stretch + 2 ≤ train_bytes k b stretch + 3 * (setting_at gs k).longest

unfoldable pub EvenTrains : List Setting → Type 0
EvenTrains gs =
    (calls : List Call) (past stretch rest : List Event) → trace (fresh gs) calls ≡ past ++ stretch ++ rest
    → (k a b : ℕ) → BothThroughout k a b past stretch
    → train_bytes k a stretch ≤ train_bytes k b stretch + 3 * (setting_at gs k).longest
