-- What the rules speak of: a state of the scheduler, and the numbers of a lane.
--
--   Rec          a waiting record: its mark and its length
--   Setting      what the setup gives a lane: weight, longest, the line's framing bytes h, and whether several trains share it
--   Lane         a setting, S, F and what waits (crate `waiting`)
--   State        the clock V, a lane for each number, and the tie order
--   charge       what a record of a length costs: its length and h
--   rate         c, the clock units for each byte of a lane
--   group, slot  the group index i, and s = 2 ^ i
--   room_of       how many records the lane's queue has room for, or each of its trains' queues
--   clock_far     where a put takes the clock back first, by a multiple of clock_step that leaves clock_kept or more; clock_edge: where no good table's clock comes
--   start_r       R, the rounded start; finish_r: R + 2s, the rounded finish
--   holds        the lane holds a record; eligible: and its R is at most V
--
-- Assumes nothing.
use Rattle.std.specs.Prelude.{ℕ, ◌+◌, ◌*◌, ◌^◌, Bool, true, false, ◌&&◌, ◌||◌, List, [], ◌∷◌, map, leb, get_or, if◌then◌else◌}
use Rattle.std.proofs.Math.Option.{Option, none, some}
use Rattle.units.specs.Numbers.{per_byte, least_power, round_down}
use Rattle.rounds.specs.Round.{train_depth}
pub use Rattle.waiting.specs.Waiting.{Rec, lane_depth}
use Rattle.waiting.specs.Waiting.{Waiting, none_waiting, first}

-- ---- what a state holds

-- R2.1, R18.1
pub record Setting : Type 0 where
  pub weight : ℕ
  pub longest : ℕ
  pub framing : ℕ
  pub shared : Bool

-- R2.1
pub record Lane : Type 0 where
  pub given : Setting
  pub start : ℕ
  pub finish : ℕ
  pub waiting : Waiting

-- R2.1: the lanes stand by number; one that is not in the setup has weight 0. The tie order names the lanes that hold records, in the
-- order in which they got their S. It is a list and no counter, so nothing in it can run out.
pub record State : Type 0 where
  pub clock : ℕ
  pub lanes : List Lane
  pub order : List ℕ

-- ---- the numbers of a lane

-- R1.6, with figures in R16.13. The rest of the rules and the proofs know of a charge only that it grows with the length.
unfoldable pub charge : Setting → ℕ → ℕ
charge g n = n + g.framing

-- R1.8
abbrev pub rate : Setting → ℕ
rate g = per_byte g.weight

-- R1.10, by what the longest record is charged for (R16.13)
unfoldable pub group : Setting → ℕ
group g = least_power (charge g g.longest * rate g)

-- R1.10
unfoldable pub slot : Setting → ℕ
slot g = 2 ^ group g

-- R1.7
abbrev pub room_of : Setting → ℕ
room_of g = if g.shared then train_depth else lane_depth

-- R2.5
abbrev pub start_r : Lane → ℕ
start_r l = round_down (slot l.given) l.start

-- R2.5
abbrev pub finish_r : Lane → ℕ
finish_r l = start_r l + 2 * slot l.given

abbrev pub some? : Option Rec → Bool
some? none = false
some? (some r) = true

-- R2.2
abbrev pub first_of : Lane → Option Rec
first_of l = first l.waiting

-- R2.2
abbrev pub holds : Lane → Bool
holds l = some? (first_of l)

-- R2.6: V has reached its R
unfoldable pub eligible : ℕ → Lane → Bool
eligible v l = holds l && leb (start_r l) v

-- ---- the ends of the clock

-- R5.1, as the two that follow
abbrev pub clock_far : ℕ
clock_far = 2 ^ 61

-- R5.1: the greatest slot, so that no rounding sees it taken off
abbrev pub clock_step : ℕ
clock_step = 2 ^ 31

-- R5.1: more than any lane that holds a record is behind the clock
abbrev pub clock_kept : ℕ
clock_kept = 2 ^ 33

-- R6.5
abbrev pub clock_edge : ℕ
clock_edge = 2 ^ 62 + 2 ^ 44

-- ---- the lanes together

abbrev pub no_setting : Setting
no_setting = record { weight = 0; longest = 0; framing = 0; shared = false }

-- R2.1
abbrev pub no_lane : Lane
no_lane = record { given = no_setting; start = 0; finish = 0; waiting = none_waiting false }

abbrev pub setting_at : List Setting → ℕ → Setting
setting_at gs k = get_or gs k no_setting

abbrev pub lane_at : State → ℕ → Lane
lane_at s k = get_or s.lanes k no_lane

-- R3.19
abbrev pub setup_of : State → List Setting
setup_of s = map (λ (l : Lane). l.given) s.lanes

unfoldable pub any_holds : List Lane → Bool
any_holds [] = false
any_holds (l ∷ ls) = holds l || any_holds ls
