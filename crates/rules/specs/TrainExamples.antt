-- A shared lane, computed.
--
--   junction          the setup: lane 0 is shared, its longest 100 bytes; lane 1 is not
--   TrainsTakeTurns   two trains take turns
--   TrainRefusals     70 before 12, in either lane; a train's ninth record
--   Reached           two trains that hold records throughout, of which one is sent three times the longest less 2 more than the other
--
-- Assumes nothing.
use Rattle.std.specs.Prelude.{◌≡◌, true, false, List, [], ◌∷◌, ◌++◌, replicate}
use Rattle.std.proofs.Math.Option.{none}
use Rattle.rules.specs.State.{Setting, no_setting}
use Rattle.rules.specs.Calls.{Call, put, take, accepted, taken, refused, fresh}
use Rattle.rules.specs.Runs.{after, trace}
use Rattle.rules.specs.Even.{train_bytes}
use Rattle.rules.specs.Examples.{replies}

-- R18.10
abbrev pub junction : List Setting
junction =
    record { weight = 512; longest = 100; framing = 0; shared = true } ∷ record { weight = 256; longest = 100; framing = 0; shared = false } ∷ replicate 62 no_setting

-- R18.10: train 5's turn begins with the first put: its 100 bytes cover one record, and with nothing left over it goes behind train 2. That one sends 60, keeps
-- 40, which does not cover the next 60, and goes behind train 5. With its next turn it has 140, so that it sends two.
unfoldable pub TrainsTakeTurns : Type 0
TrainsTakeTurns =
    replies (trace (fresh junction)
    (put 0 5 1 100 ∷ put 0 5 2 100 ∷ put 0 2 3 60 ∷ put 0 2 4 60 ∷ put 0 2 5 60 ∷ take ∷ take ∷ take ∷ take ∷ take ∷ take ∷ []))
    ≡ accepted 0 ∷ accepted 1 ∷ accepted 0 ∷ accepted 1 ∷ accepted 2
    ∷ taken 0 5 1 100 ∷ taken 0 2 3 60 ∷ taken 0 5 2 100 ∷ taken 0 2 4 60 ∷ taken 0 2 5 60 ∷ refused 16 none ∷ []

-- R14.40, R14.45 and R14.46, in the lanes of R18.10
unfoldable pub TrainRefusals : Type 0
TrainRefusals =
    replies (trace (fresh junction) (put 0 8 0 0 ∷ put 1 1 0 0 ∷ put 0 7 0 0 ∷ replicate 9 (put 0 2 1 10) ++ (put 0 3 9 10 ∷ [])))
    ≡ refused 70 none ∷ refused 70 none ∷ refused 12 none
    ∷ accepted 0 ∷ accepted 1 ∷ accepted 2 ∷ accepted 3 ∷ accepted 4 ∷ accepted 5 ∷ accepted 6 ∷ accepted 7 ∷ refused 71 none ∷ accepted 0 ∷ []

-- R18.11: one lane of longest 64 that trains 0 and 1 share. Before the stretch train 0 is left with 63 and train 1 with nothing; train 0's turn begins, with
-- 127.
abbrev pub uneven : List Setting
uneven = record { weight = 512; longest = 64; framing = 0; shared = true } ∷ replicate 63 no_setting

-- R18.11
abbrev pub uneven_past : List Call
uneven_past = put 0 0 1 1 ∷ put 0 0 2 64 ∷ put 0 0 3 63 ∷ put 0 0 4 64 ∷ put 0 0 5 64 ∷ put 0 1 6 64 ∷ put 0 1 7 1 ∷ put 0 1 8 64 ∷ take ∷ take ∷ []

-- R18.11
unfoldable pub Reached : Type 0
Reached =
    (replies (trace (after (fresh uneven) uneven_past) (take ∷ take ∷ take ∷ take ∷ [])) ≡ taken 0 0 2 64 ∷ taken 0 0 3 63 ∷ taken 0 1 7 1 ∷ taken 0 0 4 64 ∷ [])
    × (train_bytes 0 0 (trace (after (fresh uneven) uneven_past) (take ∷ take ∷ take ∷ take ∷ [])) ≡ 191)
    × (train_bytes 0 1 (trace (after (fresh uneven) uneven_past) (take ∷ take ∷ take ∷ take ∷ [])) ≡ 1)
