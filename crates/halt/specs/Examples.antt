-- The halt's setup and its neighbours, byte for byte, and what reading gives of each.
--
--   halt_lane_field   a lane field with its longest
--   halt_bytes       the halt's setup in a format, with some bytes behind the format field, and the last lane's number
--   short_bytes      the same lanes with no longest given
--   HaltShown       which of them are the halt's
--
-- Assumes nothing.
use Rattle.std.specs.Prelude.{ℕ, ◌≡◌, List, [], ◌∷◌, ◌++◌}
use Rattle.plan.specs.Read.{setup_read, read_setup}
use Rattle.plan.specs.Examples.{end_field}
use Rattle.halt.specs.Halt.{halt_setup, OtherPlan}

-- 01 0002, and the format v
abbrev pub format : ℕ → List ℕ
format v = 1 ∷ 0 ∷ 2 ∷ 0 ∷ v ∷ []

-- 10 0005 k, a weight of two bytes, and 0100: 256
abbrev pub halt_lane_field : ℕ → ℕ → ℕ → List ℕ
halt_lane_field k high low = 16 ∷ 0 ∷ 5 ∷ k ∷ high ∷ low ∷ 1 ∷ 0 ∷ []

abbrev pub halt_bytes : ℕ → List ℕ → ℕ → List ℕ
halt_bytes v behind last = format v ++ (behind ++ (halt_lane_field 0 2 0 ++ (halt_lane_field 1 1 0 ++ (halt_lane_field 2 0 128 ++ (halt_lane_field last 0 128 ++ end_field)))))

-- 10 0003 k, and a weight of two bytes
abbrev pub short_field : ℕ → ℕ → ℕ → List ℕ
short_field k high low = 16 ∷ 0 ∷ 3 ∷ k ∷ high ∷ low ∷ []

abbrev pub short_bytes : ℕ → List ℕ
short_bytes v = format v ++ (short_field 0 2 0 ++ (short_field 1 1 0 ++ (short_field 2 0 128 ++ (short_field 3 0 128 ++ end_field))))

-- 11 0001, and h
abbrev pub framing_field : ℕ → List ℕ
framing_field h = 17 ∷ 0 ∷ 1 ∷ h ∷ []

-- R20.7
pub record HaltShown : Type 0 where
  pub format_1 : read_setup (halt_bytes 1 [] 3) ≡ setup_read 1 halt_setup 4 40
  pub format_2 : read_setup (halt_bytes 2 [] 3) ≡ setup_read 2 halt_setup 4 40
  -- no framing bytes, written out
  pub no_framing : read_setup (halt_bytes 2 (framing_field 0) 3) ≡ setup_read 2 halt_setup 4 44
  pub one_framing : OtherPlan (read_setup (halt_bytes 2 (framing_field 1) 3))
  -- the same weights in other lanes
  pub other_lanes : OtherPlan (read_setup (halt_bytes 2 [] 4))
  -- a longest that is left out is 1,500 or 576
  pub short_1 : OtherPlan (read_setup (short_bytes 1))
  pub short_2 : OtherPlan (read_setup (short_bytes 2))
