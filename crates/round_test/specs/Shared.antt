-- What the test of one shared lane says.
--
--   numbers_at    the numbers of 8 trains that stand in the halves of bytes, from a half on
--   lengths_at    the lengths of 64 places, each less one in a quarter of bytes, from a quarter on
--   LengthsFit   every place holds a length of 1 to the longest, a record there or not
--   TrainFine    what a train's number must be, the train named in the round or not, in turn or not, length being that of its first record
--   below        the sum of a function over the numbers below n
--   held_below    the records of the first n trains
--   HoldsSome    a train's number has 1 to 8 records
--   at_least      1 if a number is at least another one, else 0
--   holding      1 for a train's number that is more than a head, else 0
--   covering     1 if a train's deficit covers a length, else 0
--   SoundTrain   what is asked of a train's number before it is held to the round
--   Seen         the word of the trains that eight numbers of four bits name
--   Wanted       the tally that the trains of a round must make
--   Tallied      the trains' numbers are sound, and make that tally
--   SharedGood   the lane is good, and holds so many records
--
-- Assumes nothing.
use Rattle.std.specs.Prelude.{ℕ, zero, suc, ◌+◌, ◌-◌, ◌*◌, ◌/◌, ◌%◌, ◌^◌, ◌≤◌, ◌<◌, min, ◌≡◌, Bool, true, false, List, [], ◌∷◌}
use Rattle.units.specs.Plain.{times}
use Rattle.words.specs.Bits.{bit}
use Rattle.words.specs.Words.{word_at}
use Rattle.digits.specs.Digits.{digit}
use Rattle.rounds.specs.Round.{BareRec, train_count, train_depth, shared_held}
use Rattle.rounds.specs.Good.{GoodShared}
use Rattle.turns.specs.Turns.{head_of, count_of, deficit_of, place_in_train, fours, shared_of, Ordered}

abbrev pub Says : Bool → Type 0 → Type 0
Says true P = P
Says false P = P → ⊥

abbrev pub numbers_at : List ℕ → ℕ → ℕ → ℕ
numbers_at t from k = digit 32 ((from + k) % 2) (word_at t ((from + k) / 2))

abbrev pub lengths_at : List ℕ → ℕ → ℕ → ℕ
lengths_at t from p = digit 16 ((from + p) % 4) (word_at t ((from + p) / 4)) + 1

abbrev pub LengthsFit : ℕ → (ℕ → ℕ) → Type 0
LengthsFit L lengths = (p : ℕ) → p < train_count * train_depth → lengths p ≤ L

-- a train that is not named has a head at most; one that is has records, and a deficit as the rule for a good table asks
unfoldable pub TrainFine : ℕ → ℕ → Bool → ℕ → ℕ → Type 0
TrainFine L zero turn t length = t < 8
TrainFine L (suc n) true t length = (0 < count_of t) × (count_of t ≤ train_depth) × (length ≤ deficit_of t) × (deficit_of t < 2 * L)
TrainFine L (suc n) false t length = (0 < count_of t) × (count_of t ≤ train_depth) × (deficit_of t < length)

-- ---- the trains' numbers

unfoldable pub below : (ℕ → ℕ) → ℕ → ℕ
below f zero = 0
below f (suc n) = below f n + f n

abbrev pub held_below : (ℕ → ℕ) → ℕ → ℕ
held_below ts n = below (λ k. count_of (ts k)) n

abbrev pub HoldsSome : ℕ → Type 0
HoldsSome t = (0 < count_of t) × (count_of t ≤ train_depth)

abbrev pub at_least : ℕ → ℕ → ℕ
at_least b x = 1 - (b - x)

abbrev pub holding : ℕ → ℕ
holding t = at_least 8 t

abbrev pub covering : ℕ → ℕ → ℕ
covering t length = at_least length (deficit_of t)

-- more than a head is 1 to 8 records; and a deficit that covers the first of them is no greater than one turn makes it
abbrev pub SoundTrain : ℕ → ℕ → ℕ → Type 0
SoundTrain L t length = (8 ≤ t → HoldsSome t) × (length ≤ deficit_of t → deficit_of t < 2 * L)

-- ---- the round and the trains

pub record Seen (order r : ℕ) : Type 0 where
  pub small : r < 256
  pub bits : (k : ℕ) → k < train_count → bit k r ≡ min 1 (times k (fours 8 order))

-- the trains named, how many they are, and the one in turn
pub record Wanted (order named r : ℕ) : Type 0 where
  pub names : ℕ
  pub seen : Seen order names
  pub is : r ≡ names + 256 * named + 4096 * (2 ^ (order % 16) % 256)

-- the trains that hold are those named, as many as there are names; the deficit of the one in turn covers its first record, and of no other one
pub record Tallied (L : ℕ) (ts lengths : ℕ → ℕ) (order named : ℕ) : Type 0 where
  pub each : (k : ℕ) → k < train_count → SoundTrain L (ts k) (lengths (place_in_train k (head_of (ts k))))
  pub names : (k : ℕ) → k < train_count → holding (ts k) ≡ min 1 (times k (fours 8 order))
  pub number : below (λ k. holding (ts k)) train_count ≡ named
  pub turn : (k : ℕ) → k < train_count → covering (ts k) (lengths (place_in_train k (head_of (ts k)))) ≡ times k (order % 16 ∷ [])

-- ---- the lane

-- ts are the trains' numbers, r is the round's; of the records only their lengths count
pub record SharedGood (L : ℕ) (ts lengths : ℕ → ℕ) (r count : ℕ) : Type 0 where
  pub ordered : Ordered r
  pub lane : (at : ℕ → BareRec) → ((p : ℕ) → p < train_count * train_depth → (at p).len ≡ lengths p) → GoodShared L (shared_of at ts r)
  pub held : (at : ℕ → BareRec) → shared_held (shared_of at ts r) ≡ count
