-- Lists of operations on a shared lane, each on the state that the last one left.
--
--   Op                        a put for a train; the chosen record handed out
--   shared_step, shared_after   the state after an operation; after a list of them
--   sent                      the record that an operation hands out
--   train_sent                 those of one train, in order
--   Even                      two trains that both hold records are sent nearly the same bytes
--   Others                    while one holds records, no other is sent much more than it
--
-- Assumes nothing.
use Rattle.std.specs.Prelude.{ℕ, ◌+◌, ◌*◌, ◌≤◌, ◌≡◌, Bool, true, ◌&&◌, List, [], ◌∷◌, ◌++◌, leb, ltb, eqb, length, if◌then◌else◌}
use Rattle.std.proofs.Math.Option.{Option, none, some}
use Rattle.units.specs.Plain.{sum}
use Rattle.rounds.specs.Round.{BareRec, Shared, TrainItem, train_count, train_depth, train_at, train_holds, shared_first, shared_put, shared_hand_out}
use Rattle.rounds.specs.Good.{GoodShared}

pub data Op : Type 0 where
  put_op : ℕ → BareRec → Op
  take_op : Op

-- 70 train over 7, 12 length, 71 train's queue full: none of these
unfoldable pub allows : ℕ → Shared → ℕ → BareRec → Bool
allows L s k r = ltb k train_count && leb 1 r.len && leb r.len L && ltb (length (train_at s k).queue) train_depth

unfoldable pub shared_step : ℕ → Shared → Op → Shared
shared_step L s (put_op k r) = if allows L s k r then shared_put L s k r else s
shared_step L s take_op = shared_hand_out L s

unfoldable pub sent : Shared → Op → Option TrainItem
sent s (put_op k r) = none
sent s take_op = shared_first s

-- train k's records of it
unfoldable pub item_of_train : ℕ → Option TrainItem → List BareRec
item_of_train k none = []
item_of_train k (some x) = if eqb x.train k then x.item ∷ [] else []

unfoldable pub shared_after : ℕ → Shared → List Op → Shared
shared_after L s [] = s
shared_after L s (o ∷ os) = shared_after L (shared_step L s o) os

unfoldable pub train_sent : ℕ → ℕ → Shared → List Op → List BareRec
train_sent L k s [] = []
train_sent L k s (o ∷ os) = item_of_train k (sent s o) ++ train_sent L k (shared_step L s o) os

-- bare bytes of train k
abbrev pub bytes : List BareRec → ℕ
bytes rs = sum (λ (r : BareRec). r.len) rs

-- both trains hold records
abbrev pub Both : Shared → ℕ → ℕ → Type 0
Both s a b = (train_holds s a ≡ true) × (train_holds s b ≡ true)

-- For any list of operations from a good state, any stretch of it (what comes before, and the stretch) and any two trains that both hold a record before it and
-- after each operation in it: the bytes sent of the one are at most those of the other and three times the longest, less 2. Less than
-- that would not hold (`Reached` of the rules' examples).
unfoldable pub Even : ℕ → Type 0
Even L = (s : Shared) → GoodShared L s → (past stretch : List Op) (a b : ℕ) → (a ≡ b → ⊥)
    → ((p q : List Op) → p ++ q ≡ stretch → Both (shared_after L s (past ++ p)) a b)
    → bytes (train_sent L a (shared_after L s past) stretch) + 2 ≤ bytes (train_sent L b (shared_after L s past) stretch) + 3 * L

-- For any list of operations from a good state, any stretch of it, a train a that holds a record before it and after each operation in it, and any other train b,
-- which may come and go: the bytes sent of b are at most those of a and three times the longest, less 2.
unfoldable pub Others : ℕ → Type 0
Others L = (s : Shared) → GoodShared L s → (past stretch : List Op) (a b : ℕ) → (a ≡ b → ⊥)
    → ((p q : List Op) → p ++ q ≡ stretch → train_holds (shared_after L s (past ++ p)) a ≡ true)
    → bytes (train_sent L b (shared_after L s past) stretch) + 2 ≤ bytes (train_sent L a (shared_after L s past) stretch) + 3 * L
