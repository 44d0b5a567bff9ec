-- The setup of the first session (R16.1), written; and with 0x11. Assumes nothing.
use mathlib.Core.Path.{◌≡◌, refl}
use mathlib.Core.Bool.{true, false}
use mathlib.Core.List.{[], ◌∷◌, ◌++◌}
use lib.ListN.{set}
use Rattle.rules.specs.Setup.{framing_of}
use Rattle.plan.specs.Read.{no_lanes}
use Rattle.plan.specs.Examples.{format_field, end_field, session_setup, two_lanes}
use Rattle.plan_writer.specs.Format.{bytes_of}
use Rattle.plan_writer.specs.Write.{lane_fields, setup_bytes, setup_size}

pub session-written : setup_bytes (record { format = 1; lanes = two_lanes 512 256 1500; count = 2 }) ≡ session_setup
unfolding setup_bytes bytes_of lane_fields framing_of
session-written = refl

pub session-size : setup_size (record { format = 1; lanes = two_lanes 512 256 1500; count = 2 }) ≡ 24
unfolding framing_of
session-size = refl

-- one lane, 12 framing bytes: 01 0002 0001, 11 0001 0C, 10 0005 03 0400 0040, 7F 0000
pub framed-written : setup_bytes (record { format = 1; lanes = set no_lanes 3 (record { weight = 1024; longest = 64; framing = 12; shared = false }); count = 1 })
    ≡ format_field ++ (17 ∷ 0 ∷ 1 ∷ 12 ∷ 16 ∷ 0 ∷ 5 ∷ 3 ∷ 4 ∷ 0 ∷ 0 ∷ 64 ∷ []) ++ end_field
unfolding setup_bytes bytes_of lane_fields framing_of
framed-written = refl

-- the same lane in format 2: 01 0002 0002, 10 0005 03 0400 0240, 7F 0000
pub second-written : setup_bytes (record { format = 2; lanes = set no_lanes 3 (record { weight = 1024; longest = 576; framing = 0; shared = false }); count = 1 })
    ≡ 1 ∷ 0 ∷ 2 ∷ 0 ∷ 2 ∷ 16 ∷ 0 ∷ 5 ∷ 3 ∷ 4 ∷ 0 ∷ 2 ∷ 64 ∷ end_field
unfolding setup_bytes bytes_of lane_fields framing_of
second-written = refl

-- a shared lane: 12 0001 03 behind its 0x10
pub shared-written : setup_bytes (record { format = 2; lanes = set no_lanes 3 (record { weight = 1024; longest = 576; framing = 0; shared = true }); count = 1 })
    ≡ 1 ∷ 0 ∷ 2 ∷ 0 ∷ 2 ∷ 16 ∷ 0 ∷ 5 ∷ 3 ∷ 4 ∷ 0 ∷ 2 ∷ 64 ∷ 18 ∷ 0 ∷ 1 ∷ 3 ∷ end_field
unfolding setup_bytes bytes_of lane_fields framing_of
shared-written = refl
