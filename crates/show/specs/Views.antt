-- What a unit shows (docs/RULES.md, R17).
--
--   Ask      what a host asks for: the clock; a lane's setting; its backlog; the record of a train with i of that train before it;
--            the editions; how long a record can wait at worst that was put to a lane with n ahead
--   View     what it is told
--   time_of   a lane's time: S while it holds records, F while it is idle
--   waiting_edition   the edition of a page that waits, 0 where none does
--   view     what a unit shows, by the refusals' numbers: 11 for a lane that is not in the setup, 70 for a train that the lane does not know, 16 for a record
--            that is not there
--
--   wait_of   that wait: as the fair share has it for every setup, and by the costliest record of the setup in force; 13, or 71 in a shared lane, for an n that
--            no accepted put reports
--
-- Assumes nothing.
use Rattle.std.specs.Prelude.{ℕ, ◌*◌, not, List, ltb, length, get_or, if◌then◌else◌}
use Rattle.std.proofs.Math.Option.{Option, none, some}
use Rattle.units.specs.Numbers.{line_rate}
use Rattle.rounds.specs.Round as round
use Rattle.waiting.specs.Waiting.{held, queue_of, known, with_train}
use Rattle.rules.specs.State.{Rec, Setting, Lane, group, room_of, holds, lane_at, setup_of}
use Rattle.rules.specs.Setup.{framing_of, longest_charge, margin}
use Rattle.rules.specs.Waits.{worst_of}
use Rattle.pages.specs.Device.{Page, Device}

-- R17.2 to R17.5, R17.7, R17.9, R17.10
pub data Ask : Type 0 where
  clock : Ask
  lane : ℕ → Ask
  backlog : ℕ → Ask
  waits : ℕ → ℕ → ℕ → Ask
  edition : Ask
  wait : ℕ → ℕ → Ask

-- R17.2 to R17.5, R17.7, R17.9, R17.10
pub data View : Type 0 where
  clock_is : ℕ → View
  -- a setting, and its group index
  setting_is : Setting → ℕ → View
  -- how many wait, of all trains of the lane, and the lane's time
  backlog_is : ℕ → ℕ → View
  -- its lane, and the record
  record_is : ℕ → Rec → View
  -- the edition last taken, and that of the page that waits
  edition_is : ℕ → ℕ → View
  -- bytes: as the fair share has it for every setup, and by the costliest record of this one
  wait_is : ℕ → ℕ → View
  view_refused : ℕ → Option ℕ → View

-- R17.4
abbrev pub time_of : Lane → ℕ
time_of l = if holds l then l.start else l.finish

-- R17.5, R17.7: of train t of lane k; the records stand in the order in which the lane hands out those of this train. A lane that is not shared knows train 0
-- only.
abbrev pub record_of : ℕ → Lane → ℕ → ℕ → View
record_of k l t i =
    if not (known l.waiting t) then view_refused 70 none
    else if ltb i (length (queue_of l.waiting t)) then record_is k (with_train t (get_or (queue_of l.waiting t) i round.no_rec))
    else view_refused 16 none

-- R17.3: 11 for a lane that is not in the setup
abbrev pub of_present : Lane → View → View
of_present l v = if ltb l.given.weight 1 then view_refused 11 none else v

-- R17.9: no page that waits has edition 0 (crate editions)
abbrev pub waiting_edition : Option Page → ℕ
waiting_edition none = 0
waiting_edition (some p) = p.edition

-- R17.10: bytes of all lanes together before the record is out (rules/specs/Waits.antt, `OutBy`, `OutByShared`)
abbrev pub wait_of : List Setting → Setting → ℕ → View
wait_of gs g n =
    if ltb n (room_of g) then wait_is (worst_of (margin (framing_of gs)) g n) (worst_of (line_rate * longest_charge gs) g n)
    else view_refused (if g.shared then 71 else 13) none

-- R17.9, R17.2 to R17.5, R17.7, R17.10
unfoldable pub view : Device → Ask → View
view d clock = clock_is d.state.clock
view d (lane k) = of_present (lane_at d.state k) (setting_is (lane_at d.state k).given (group (lane_at d.state k).given))
view d (backlog k) = of_present (lane_at d.state k) (backlog_is (held (lane_at d.state k).waiting) (time_of (lane_at d.state k)))
view d (waits k t i) = of_present (lane_at d.state k) (record_of k (lane_at d.state k) t i)
view d edition = edition_is d.edition (waiting_edition d.waiting)
view d (wait k n) = of_present (lane_at d.state k) (wait_of (setup_of d.state) (lane_at d.state k).given n)
