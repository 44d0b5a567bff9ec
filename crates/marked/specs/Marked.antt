-- Examples with their numbers (docs/RULES.md, R16), one table under one statement; and one of a lane that two trains share (R18.10).
--
--   alone     the settings of a setup whose only lane is lane 0
--   Given     of any list of just these public calls, on any table that `make` left for the settings: their replies and what the bytes mean
--   to_third   the calls of the first session up to its third take
--   to_full    65 puts to lane 0, a take, a put
--   turns     puts of trains 5 and 2 of lane 0, and takes; a train that the lane does not know
--   Marked    the table
--
-- What depends on a table is said of the public calls' own answers and of the state that the table's bytes mean; `session`, `lone` and `light` say that a
-- setup of these settings can be read, so that `make` leaves such a table; `junction` says it of a lane
-- that is shared.
--
-- Assumes nothing.
use Rattle.std.specs.Prelude.{ℕ, zero, suc, ◌≡◌, true, false, List, [], ◌∷◌, ◌++◌, map, replicate, set}
use Rattle.std.proofs.Math.Option.{none, some}
use Rattle.std.proofs.Math.IntN.{sub_ℕ}
use Rattle.rules.specs.State.{Setting, State, rate, group, lane_at}
use Rattle.rules.specs.Calls.{Call, put, take, sets, lag, Reply, accepted, taken, words, lagged, refused}
use Rattle.rules.specs.Runs.{Event}
use Rattle.pages.specs.Device.{ruled}
use Rattle.pages.specs.Offers.{DeviceEvent, of_rules}
use Rattle.plan.specs.Read.{no_lanes, read_setup, setup_read, setup_refused}
use Rattle.plan.specs.Examples.{format_field, end_field, session_setup, two_weights, two_lanes}
use Rattle.table.specs.Means.{meant}
use Rattle.scheduler.specs.Chain.{Chain, Begins}
use Rattle.scheduler.specs.Demands.{calls_of}

abbrev pub setting : ℕ → ℕ → Setting
setting w n = record { weight = w; longest = n; framing = 0; shared = false }

abbrev pub shared_setting : ℕ → ℕ → Setting
shared_setting w n = record { weight = w; longest = n; framing = 0; shared = true }

abbrev pub alone : Setting → List Setting
alone g = set no_lanes 0 g

abbrev pub Given : List Setting → List Call → (List Reply → State → Type 0) → Type 0
Given gs calls P =
    (t u : List ℕ) (es : List DeviceEvent) → Begins gs t → Chain t es u → calls_of es ≡ map ruled calls → P (map (λ (e : Event). e.reply) (of_rules es)) (meant u)

-- R16.3, without its last take
abbrev pub to_third : List Call
to_third = put 0 0 1 1000 ∷ put 1 0 2 1000 ∷ put 0 0 3 500 ∷ sets ∷ take ∷ take ∷ take ∷ []

abbrev pub to_third_replies : List Reply
to_third_replies = accepted 0 ∷ accepted 0 ∷ accepted 1 ∷ words 12582912 0 0 0 ∷ taken 0 0 1 1000 ∷ taken 0 0 3 500 ∷ taken 1 0 2 1000 ∷ []

abbrev pub to_full : List Call
to_full = replicate 65 (put 0 0 7 1000) ++ (take ∷ put 0 0 8 1000 ∷ [])

-- R18.10: train 5's turn begins with the first put: its 100 bytes cover one record, and with nothing left over it goes behind train 2. That one sends 60, keeps
-- 40, which does not cover the next 60, and goes behind train 5. With its next turn it has 140, so that it sends two.
abbrev pub turns : List Call
turns = put 0 5 1 100 ∷ put 0 5 2 100 ∷ put 0 2 3 60 ∷ put 0 2 4 60 ∷ put 0 2 5 60 ∷ put 0 8 6 60 ∷ take ∷ take ∷ take ∷ take ∷ take ∷ take ∷ []

abbrev pub turns_replies : List Reply
turns_replies =
    accepted 0 ∷ accepted 1 ∷ accepted 0 ∷ accepted 1 ∷ accepted 2 ∷ refused 70 none
    ∷ taken 0 5 1 100 ∷ taken 0 2 3 60 ∷ taken 0 5 2 100 ∷ taken 0 2 4 60 ∷ taken 0 2 5 60 ∷ refused 16 none ∷ []

-- n accepted puts to one lane, one after another: each finds those before it
unfoldable pub accepted_to : ℕ → List Reply
accepted_to zero = []
accepted_to (suc n) = accepted_to n ++ (accepted n ∷ [])

pub record Marked : Type 0 where
  -- R16.1: the setup of that session, read from its bytes
  pub session : read_setup session_setup ≡ setup_read 1 (two_lanes 512 256 1500) 2 24
  -- R16.2
  pub lane0 : (rate (setting 512 1500) ≡ 2048) × (group (setting 512 1500) ≡ 22)
  -- R16.2
  pub lane1 : (rate (setting 256 1500) ≡ 4096) × (group (setting 256 1500) ≡ 23)
  -- R16.3: V, and both lanes' F, after the third take, from where R16.4 goes on
  pub m1 : Given (two_lanes 512 256 1500) to_third (λ rs s.
      (rs ≡ to_third_replies) × (s.clock ≡ 2560000) × ((lane_at s 0).finish ≡ 3072000) × ((lane_at s 1).finish ≡ 4096000))
  -- R16.4: then a put to lane 0, whose S is its F and ahead of V
  pub m2 : Given (two_lanes 512 256 1500) (to_third ++ (put 0 0 4 100 ∷ lag 0 ∷ [])) (λ rs s.
      (rs ≡ to_third_replies ++ (accepted 0 ∷ lagged (sub_ℕ 0 512000) ∷ []))
      × (s.clock ≡ 2560000)
      × ((lane_at s 0).start ≡ 3072000)
      × ((lane_at s 0).finish ≡ 3276800))
  -- R16.7: the least weight, on both sides of an edge between two groups
  pub m3 : (rate (setting 1 64) ≡ 1048576) × (group (setting 1 64) ≡ 26) × (group (setting 1 65) ≡ 27)
  -- R16.7: the first of these lanes alone: 01 0002 0001, 10 0005 00 0001 0040, 7F 0000
  pub light : read_setup (format_field ++ (16 ∷ 0 ∷ 5 ∷ 0 ∷ 0 ∷ 1 ∷ 0 ∷ 64 ∷ []) ++ end_field) ≡ setup_read 1 (alone (setting 1 64)) 1 16
  -- R16.7: V after a put and a take there, and after a second put, which moves it to R
  pub m4 : Given (alone (setting 1 64)) (put 0 0 1 64 ∷ take ∷ []) (λ rs s. s.clock ≡ 65536)
      × Given (alone (setting 1 64)) (put 0 0 1 64 ∷ take ∷ put 0 0 2 64 ∷ []) (λ rs s. s.clock ≡ 67108864)
  -- R16.8: the lowest group and the highest
  pub m5 : (group (setting 1024 64) ≡ 16) × (group (setting 1 1500) ≡ 31)
  -- R16.8: c is rounded up
  pub m6 : rate (setting 3 1500) ≡ 349526
  -- the setup for R16.9: 01 0002 0001, 10 0005 00 0200 05DC, 7F 0000
  pub lone : read_setup (format_field ++ (16 ∷ 0 ∷ 5 ∷ 0 ∷ 2 ∷ 0 ∷ 5 ∷ 220 ∷ []) ++ end_field) ≡ setup_read 1 (alone (setting 512 1500)) 1 16
  -- R16.9: one lane takes 64 records and not one more, and has room again after a take
  pub m7 : Given (alone (setting 512 1500)) to_full (λ rs s. rs ≡ accepted_to 64 ++ (refused 13 none ∷ taken 0 0 7 1000 ∷ accepted 63 ∷ []))
  -- R16.10: the greatest sum of weights, and one more, which gives 6 at the weight that goes over
  pub m8 : (read_setup (two_weights 24) ≡ setup_read 1 (two_lanes 1000 24 1500) 2 22) × (read_setup (two_weights 25) ≡ setup_refused 6 (some 17))
  -- the setup for R18.10, of its shared lane alone: 01 0002 0001, 10 0005 00 0200 0064, 12 0001 00, 7F 0000
  pub junction : read_setup (format_field ++ (16 ∷ 0 ∷ 5 ∷ 0 ∷ 2 ∷ 0 ∷ 0 ∷ 100 ∷ 18 ∷ 0 ∷ 1 ∷ 0 ∷ []) ++ end_field) ≡ setup_read 1 (alone (shared_setting 512 100)) 1 20
  -- R18.10: its trains take turns, each answer with its train
  pub trains : Given (alone (shared_setting 512 100)) turns (λ rs s. rs ≡ turns_replies)
