-- A good state: what a good table (docs/RULES.md, R6) asks of the state that it encodes, field by field.
--
-- proofs/GoodTest.antt computes it, and shows that the two agree. Assumes nothing.
use Rattle.std.specs.Prelude.{ℕ, ◌+◌, ◌*◌, ◌<◌, ◌≡◌, true, if◌then◌else◌}
use Rattle.std.proofs.Math.Option.{Option, none, some}
use Rattle.units.specs.Plain.{times}
use Rattle.waiting.specs.Waiting.{is_shared, GoodWaiting}
use Rattle.rules.specs.State.{Rec, Lane, State, clock_edge, charge, rate, slot, start_r, first_of, holds, eligible, lane_at, setup_of}
use Rattle.rules.specs.Setup.{Setup, margin}

-- R6.6 of a lane with its first record, R6.7 of an idle one. Whole numbers are compared as sums.
abbrev pub Times : ℕ → Lane → Option Rec → Type 0
Times v l none = l.finish < v + 2 * slot l.given
Times v l (some r) =
    (l.finish ≡ l.start + charge l.given r.len * rate l.given)
    × (l.start < v + 2 * slot l.given)
    × (v < start_r l + 2 * slot l.given + margin l.given.framing)

pub record Good (s : State) : Type 0 where
  -- R6.3
  pub setup : Setup (setup_of s)
  -- R6.4: no more records than there is room for, each of length 1 to the lane's longest; in a shared lane deficits and a round that its rule can make
  pub waiting : (k : ℕ) → GoodWaiting (lane_at s k).given.longest (lane_at s k).waiting
  -- R6.4: a lane that the setup makes shared keeps its records by trains, and no other does
  pub kind : (k : ℕ) → is_shared (lane_at s k).waiting ≡ (lane_at s k).given.shared
  -- R6.5
  pub clock : s.clock < clock_edge
  -- R6.6, R6.7
  pub numbers : (k : ℕ) → Times s.clock (lane_at s k) (first_of (lane_at s k))
  -- R6.8
  pub live : (k : ℕ) → holds (lane_at s k) ≡ true → (i : ℕ) × (eligible s.clock (lane_at s i) ≡ true)
  -- R2.7, R6.9: the tie order has each lane that holds records once, and no other
  pub order : (k : ℕ) → times k s.order ≡ (if holds (lane_at s k) then 1 else 0)
