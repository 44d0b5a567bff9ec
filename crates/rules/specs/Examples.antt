-- The first session (R16.3) over the rules, and figures for its two lanes.
--
--   session_lanes   the session's setup: lane 0 of weight 512, lane 1 of weight 256, longest 1,500
--   Session       its eight requests and the rules' replies to them
--   WaitsAtMost   in any list of calls, while lane 0 holds a record and none of its bytes is sent, fewer than 17,884 bytes are
--   SideBySide    in any list of calls, while both lanes hold records: lane 0's bytes and twice lane 1's differ by less than 26,076
--   TakenBack     a put that takes the clock back, with its numbers
--
-- Assumes nothing.
use Rattle.std.specs.Prelude.{◌+◌, ◌*◌, ◌<◌, ◌≡◌, false, List, [], ◌∷◌, ◌++◌, map, replicate}
use Rattle.std.proofs.Math.Option.{none}
use Rattle.waiting.specs.Waiting.{plain}
use Rattle.rules.specs.State.{Setting, no_setting, setting_at, no_lane, State, lane_at}
use Rattle.rules.specs.Calls.{Call, put, take, sets, Reply, accepted, taken, words, refused, fresh, step}
use Rattle.rules.specs.Runs.{Event, trace}
use Rattle.rules.specs.Fair.{bytes_sent, bytes_sent_of, Holding}

abbrev pub session_lanes : List Setting
session_lanes = record { weight = 512; longest = 1500; framing = 0; shared = false } ∷ record { weight = 256; longest = 1500; framing = 0; shared = false } ∷ replicate 62 no_setting

abbrev pub replies : List Event → List Reply
replies es = map (λ (e : Event). e.reply) es

-- R16.3: put 0/1/1000, put 1/2/1000, put 0/3/500, sets, four takes
unfoldable pub Session : Type 0
Session =
    replies (trace (fresh session_lanes) (put 0 0 1 1000 ∷ put 1 0 2 1000 ∷ put 0 0 3 500 ∷ sets ∷ take ∷ take ∷ take ∷ take ∷ []))
    ≡ accepted 0 ∷ accepted 0 ∷ accepted 1 ∷ words 12582912 0 0 0 ∷ taken 0 0 1 1000 ∷ taken 0 0 3 500 ∷ taken 1 0 2 1000 ∷ refused 16 none ∷ []

-- R16.11, by R15.8 with O = 0: 4 slots of 2^22 and 1,536,000 make 18,313,216, which is 1,024 times 17,884
unfoldable pub WaitsAtMost : Type 0
WaitsAtMost = (calls : List Call) (past stretch rest : List Event)
    → trace (fresh session_lanes) calls ≡ past ++ stretch ++ rest
    → ((p q : List Event) → p ++ q ≡ stretch → Holding 0 (past ++ p))
    → bytes_sent_of session_lanes 0 stretch ≡ 0
    → bytes_sent session_lanes stretch < 17884

-- R16.11, by R15.10: c is 2,048 and 4,096, the slots 2^22 and 2^23: 4 slots of each and twice 1,536,000 make 53,403,648, which is 2,048 times 26,076
unfoldable pub SideBySide : Type 0
SideBySide = (calls : List Call) (past stretch rest : List Event)
    → trace (fresh session_lanes) calls ≡ past ++ stretch ++ rest
    → ((p q : List Event) → p ++ q ≡ stretch → Holding 0 (past ++ p))
    → ((p q : List Event) → p ++ q ≡ stretch → Holding 1 (past ++ p))
    → (bytes_sent_of session_lanes 0 stretch < 2 * bytes_sent_of session_lanes 1 stretch + 26076)
    × (2 * bytes_sent_of session_lanes 1 stretch < bytes_sent_of session_lanes 0 stretch + 26076)

-- ---- a put that takes the clock back

-- V is 2^61 + 12,345, so K is 2^61 - 2^33; lane 0 waits since V - 1,000, and lane 1 is idle with an F below K
abbrev pub late : State
late = record {
  clock = 2305843009213706297;
  lanes = record { given = setting_at session_lanes 0; start = 2305843009213705297; finish = 2305843009215753297; waiting = plain (record { mark = 1; len = 1000 } ∷ []) }
      ∷ record { given = setting_at session_lanes 1; start = 0; finish = 2305843000000000000; waiting = plain [] }
      ∷ replicate 62 no_lane;
  order = 0 ∷ [];
}

-- R16.12: after it V is 2^33 + 12,345, lane 0 waits since 1,000 before that, and lane 1 begins at V
unfoldable pub TakenBack : Type 0
TakenBack =
    ((step late (put 1 0 2 1000)).state.clock ≡ 8589946937)
    × (lane_at (step late (put 1 0 2 1000)).state 0 ∷ lane_at (step late (put 1 0 2 1000)).state 1 ∷ []
    ≡ record { given = setting_at session_lanes 0; start = 8589945937; finish = 8591993937; waiting = plain (record { mark = 1; len = 1000 } ∷ []) }
    ∷ record { given = setting_at session_lanes 1; start = 8589946937; finish = 8594042937; waiting = plain (record { mark = 2; len = 1000 } ∷ []) } ∷ [])
