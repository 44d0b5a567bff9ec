-- A shared lane in numbers: one for each of its 8 trains, and one for the round.
--
--   head_of, count_of, deficit_of   the parts of a train's number: head + 8 count + 128 deficit; count_range, deficit_unit: how far a count goes, and this 128
--   place_in_train k i             which of the lane's 64 places is place i of train k, i counted on past the end of the train's 8
--   fours n r                    the n lowest numbers of four bits; name_range: how far such a number goes
--   named_of, order_of             the parts of the round's number: how many trains it names, from order_end on, and these, four bits each, the one in turn lowest
--   round_of, turn_of              the round, and the train in turn
--   shared_of at ts r             the shared lane: at has the records by place, ts the trains' numbers, r is the round's
--   with                         the trains' numbers with one changed
--   Ordered                      nothing stands behind the trains that the round names
--   NamesTrains                  the round names trains only
--   Light                        a train's number is that of a good lane
--   Puts, HandsOutTurn           what the two functions leave
--
-- L is the lane's longest record, in bytes. Assumes nothing.
use Rattle.std.specs.Prelude.{ℕ, zero, suc, ◌+◌, ◌*◌, ◌/◌, ◌%◌, ◌^◌, ◌≤◌, ◌<◌, ◌≡◌, Bool, true, List, [], ◌∷◌, eqb, if◌then◌else◌}
use Rattle.units.specs.Plain.{times}
use Rattle.words.specs.Runs.{tab}
use Rattle.rounds.specs.Round.{BareRec, Train, Shared, train_count, train_depth, shared_put, shared_hand_out}
use Rattle.turns.specs.declared.Change.{Change}

-- ---- a train

-- four bits, though a train holds 8 records at most: a count of 9 or more can be seen
abbrev pub count_range : ℕ
count_range = 16

-- 128
abbrev pub deficit_unit : ℕ
deficit_unit = train_depth * count_range

abbrev pub head_of : ℕ → ℕ
head_of t = t % train_depth

abbrev pub count_of : ℕ → ℕ
count_of t = t / train_depth % count_range

abbrev pub deficit_of : ℕ → ℕ
deficit_of t = t / deficit_unit

abbrev pub place_in_train : ℕ → ℕ → ℕ
place_in_train k i = train_depth * k + i % train_depth

-- the n records of train k from place h on
unfoldable pub train_ring : (ℕ → BareRec) → ℕ → ℕ → ℕ → List BareRec
train_ring at k h n = tab n (λ i. at (place_in_train k (h + i)))

unfoldable pub train_of : (ℕ → BareRec) → ℕ → ℕ → Train
train_of at k t = record { deficit = deficit_of t; queue = train_ring at k (head_of t) (count_of t) }

-- ---- the round

-- four bits, though trains are 0 to 7: a number that is no train can be seen
abbrev pub name_range : ℕ
name_range = 16

-- 2^32
abbrev pub order_end : ℕ
order_end = name_range ^ train_count

unfoldable pub fours : ℕ → ℕ → List ℕ
fours zero r = []
fours (suc n) r = r % name_range ∷ fours n (r / name_range)

abbrev pub named_of : ℕ → ℕ
named_of r = r / order_end

abbrev pub order_of : ℕ → ℕ
order_of r = r % order_end

unfoldable pub round_of : ℕ → List ℕ
round_of r = fours (named_of r) (order_of r)

-- the train in turn
abbrev pub turn_of : ℕ → ℕ
turn_of r = order_of r % name_range

-- R18.9
pub record Ordered (r : ℕ) : Type 0 where
  pub few : named_of r ≤ train_count
  pub fits : order_of r < name_range ^ named_of r

-- every number that the round names is one of a train
abbrev pub NamesTrains : ℕ → Type 0
NamesTrains r = (i : ℕ) → 0 < times i (round_of r) → i < train_count

-- ---- the lane

unfoldable pub trains_of : (ℕ → BareRec) → (ℕ → ℕ) → List Train
trains_of at ts = tab train_count (λ k. train_of at k (ts k))

-- R18.9
unfoldable pub shared_of : (ℕ → BareRec) → (ℕ → ℕ) → ℕ → Shared
shared_of at ts r = record { trains = trains_of at ts; round = round_of r }

unfoldable pub with : (ℕ → ℕ) → ℕ → ℕ → ℕ → ℕ
with ts k t i = if eqb i k then t else ts i

-- ---- contracts

-- no count is over 8, and no deficit is near the longest twice
abbrev pub Light : ℕ → Type 0
Light t = (count_of t ≤ train_depth) × (deficit_of t < 3000)

-- The records are those after the put: the new one stands in the place behind the train's last.
pub record Puts (L t r k : ℕ) (c : Change) : Type 0 where
  pub lane : (at : ℕ → BareRec) (ts : ℕ → ℕ) → ts k ≡ t
      → shared_of at (with ts k c.train) c.round ≡ shared_put L (shared_of at ts r) k (at (place_in_train k (head_of t + count_of t)))
  pub ordered : Ordered c.round
  pub small : c.train < 2 ^ 32

-- where a turn begins, the deficit of the train then in turn grows by the longest
unfoldable pub turn_begun : ℕ → Bool → (ℕ → ℕ) → ℕ → ℕ → ℕ
turn_begun L b ts r = if b then with ts (turn_of r) (ts (turn_of r) + deficit_unit * L) else ts

-- of a lane whose first record is of this length, and the one behind it, where there is one, of the next length
pub record HandsOutTurn (t r length next : ℕ) (c : Change) : Type 0 where
  pub lane : (L : ℕ) (at : ℕ → BareRec) (ts : ℕ → ℕ) → ts (turn_of r) ≡ t
      → (at (place_in_train (turn_of r) (head_of t))).len ≡ length → (at (place_in_train (turn_of r) (head_of t + 1))).len ≡ next
      → shared_of at (turn_begun L c.begins (with ts (turn_of r) c.train) c.round) c.round ≡ shared_hand_out L (shared_of at ts r)
  pub ordered : Ordered c.round
  -- so small that a turn may still add its longest
  pub small : c.train < 2 ^ 20
  pub turn : c.begins ≡ true → turn_of c.round < train_count
