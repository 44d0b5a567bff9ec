-- The promise of a call that shows a table, whole: for every slice, every argument and every answer. The table is lent to be read, so it stays.
--
--   view_of      what is shown, as the definitions give it
--   view_reply   an answer as the definitions give it
--   Shows       the promise
--   FindIs      what is found of a lane's row
--   SpotIs      where a train's record is found
--
-- Assumes nothing.
use Rattle.std.specs.Prelude.{ℕ, ◌≤◌, ◌<◌, ◌≡◌, ◌⊎◌, true, false, List, length, get_or, Result, Ok, Err}
use Rattle.std.proofs.Math.Option.{none}
use Rattle.rounds.specs.Round.{no_rec}
use Rattle.waiting.specs.Waiting.{queue_of, known}
use Rattle.rules.specs.State.{lane_at, lane_depth, no_lane}
use Rattle.rules.specs.Reads as rules
use Rattle.rules.specs.declared.Refusal.{Refusal}
use Rattle.rules.specs.declared.Refusal.TheVariants.{NotGood, NoLane, NothingHeld, NoTrain}
use Rattle.table.specs.Layout.{cells, row_at, place_in_lane, entry_at}
use Rattle.table.specs.Means.{present_at, rec_of, meant}
use Rattle.table.specs.declared.LaneRow.{LaneRow}
use Rattle.pages.specs.Device.{Device}
use Rattle.paged.specs.Paged.{EncodesDevice, GoodUnit}
use Rattle.show.specs.Views.{Ask, View, clock_is, setting_is, backlog_is, record_is, edition_is, wait_is, view_refused, view}
use Rattle.show.specs.declared.Shown.{Shown}
use Rattle.show.specs.declared.Shown.TheVariants.{Clock, Setting, Backlog, Record, Edition, Wait}

abbrev pub view_of : Shown → View
view_of (Clock v) = clock_is v.0
view_of (Setting g) = setting_is (record { weight = g.weight; longest = g.longest.0; framing = g.framing.0; shared = g.shared }) g.group
view_of (Backlog b) = backlog_is b.count b.time.0
view_of (Record r) = record_is r.lane (record { train = r.train; mark = r.mark; len = r.length.0 })
view_of (Edition e) = edition_is e.last e.waiting
view_of (Wait w) = wait_is w.asked w.tight

abbrev pub view_reply : Result Shown Refusal → View
view_reply (Ok s) = view_of s
view_reply (Err x) = view_refused (rules.number x) (rules.place_of x)

pub record Shows (a : Ask) (t : List ℕ) (r : Result Shown Refusal) : Type 0 where
  -- R17.1: 10 for bytes that are no good table
  pub not_good : (GoodUnit t → ⊥) → view_reply r ≡ view_refused 10 none
  -- R17.1: on a good table, of any origin: what any unit shows that the bytes encode
  pub shown : GoodUnit t → (d : Device) → EncodesDevice t d → view_reply r ≡ view d a

-- l is the row of lane k, which the setup has
abbrev pub RowFound : List ℕ → ℕ → LaneRow → Type 0
RowFound t k l = GoodUnit t × (k < 64) × (present_at (cells t) k ≡ true) × (l ≡ row_at (cells t) k) × (l.head < lane_depth)

abbrev pub FindIs : List ℕ → ℕ → Result LaneRow Refusal → Type 0
FindIs t k (Ok l) = RowFound t k l
FindIs t k (Err x) = ((GoodUnit t → ⊥) × (x ≡ NotGood)) ⊎ ((GoodUnit t × (lane_at (meant t) k ≡ no_lane)) × (x ≡ NoLane))

-- of train j's record with i before it; p is a place of lane k
abbrev pub SpotIs : List ℕ → ℕ → ℕ → ℕ → Result ℕ Refusal → Type 0
SpotIs t k j i (Ok p) =
    (known (lane_at (meant t) k).waiting j ≡ true)
    × (i < length (queue_of (lane_at (meant t) k).waiting j))
    × (get_or (queue_of (lane_at (meant t) k).waiting j) i no_rec ≡ rec_of (entry_at (cells t) (place_in_lane k p)))
SpotIs t k j i (Err x) =
    ((known (lane_at (meant t) k).waiting j ≡ false) × (x ≡ NoTrain))
    ⊎ ((known (lane_at (meant t) k).waiting j ≡ true) × (length (queue_of (lane_at (meant t) k).waiting j) ≤ i) × (x ≡ NothingHeld))
