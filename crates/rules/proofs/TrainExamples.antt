-- A shared lane, computed: the examples of specs/TrainExamples.antt, and a random run whose replies an independent program worked out. Assumes nothing.
use mathlib.Core.Path.{◌≡◌, refl}
use mathlib.Core.Bool.{true}
use mathlib.Core.List.{[], ◌∷◌}
use mathlib.Core.Option.{none}
use lib.ListN.{replicate}
use Rattle.rules.specs.State.{no_setting}
use Rattle.rules.specs.Calls.{put, take, accepted, taken, refused, fresh}
use Rattle.rules.specs.Runs.{trace, sent_in, of_lane, sent_of, of_train}
use Rattle.rules.specs.Examples.{replies}
use Rattle.rules.specs.TrainExamples.{TrainsTakeTurns, TrainRefusals, Reached}
use Rattle.rules.proofs.Computes.{rules}

pub turns : TrainsTakeTurns
unfolding TrainsTakeTurns rules
turns = refl

pub train-refusals : TrainRefusals
unfolding TrainRefusals rules
train-refusals = refl

pub reached : Reached
unfolding Reached sent_in of_lane sent_of of_train rules
reached = (refl, refl, refl)

-- a random run of one shared lane, against an independent program
pub shared-run : replies (trace (fresh (record { weight = 512; longest = 100; framing = 0; shared = true } ∷ replicate 63 no_setting)) (put 0 1 0 50 ∷ take ∷ put 0 0 2 46 ∷ take ∷ take ∷ put 0 0 5 55 ∷ put 0 1 6 11 ∷ take ∷ put 0 0 8 28 ∷ take ∷ take ∷ put 0 3 11 6 ∷ take ∷ put 0 1 13 37 ∷ put 0 0 14 73 ∷ put 0 1 15 13 ∷ take ∷ take ∷ put 0 0 18 72 ∷ put 0 1 19 63 ∷ take ∷ put 0 2 21 59 ∷ take ∷ put 0 2 23 31 ∷ take ∷ take ∷ put 0 2 26 67 ∷ put 0 2 27 93 ∷ put 0 0 28 15 ∷ put 0 1 29 96 ∷ put 0 3 30 53 ∷ put 0 0 31 97 ∷ take ∷ take ∷ take ∷ put 0 2 35 76 ∷ put 0 3 36 8 ∷ take ∷ take ∷ put 0 0 39 7 ∷ take ∷ put 0 3 41 36 ∷ take ∷ take ∷ put 0 3 44 45 ∷ put 0 0 45 63 ∷ put 0 2 46 16 ∷ take ∷ put 0 3 48 10 ∷ put 0 3 49 70 ∷ put 0 1 50 104 ∷ put 0 2 51 90 ∷ put 0 2 52 87 ∷ take ∷ take ∷ put 0 1 55 19 ∷ put 0 1 56 1 ∷ put 0 1 57 33 ∷ put 0 1 58 53 ∷ put 0 2 59 16 ∷ []))
    ≡ accepted 0 ∷ taken 0 1 0 50 ∷ accepted 0 ∷ taken 0 0 2 46 ∷ refused 16 none ∷ accepted 0 ∷ accepted 0 ∷ taken 0 0 5 55 ∷ accepted 0 ∷ taken 0 1 6 11 ∷ taken 0 0 8 28 ∷ accepted 0 ∷ taken 0 3 11 6 ∷ accepted 0 ∷ accepted 0 ∷ accepted 1 ∷ taken 0 1 13 37 ∷ taken 0 1 15 13 ∷ accepted 1 ∷ accepted 0 ∷ taken 0 0 14 73 ∷ accepted 0 ∷ taken 0 1 19 63 ∷ accepted 1 ∷ taken 0 0 18 72 ∷ taken 0 2 21 59 ∷ accepted 1 ∷ accepted 2 ∷ accepted 0 ∷ accepted 0 ∷ accepted 0 ∷ accepted 1 ∷ taken 0 2 23 31 ∷ taken 0 0 28 15 ∷ taken 0 1 29 96 ∷ accepted 2 ∷ accepted 1 ∷ taken 0 3 30 53 ∷ taken 0 3 36 8 ∷ accepted 1 ∷ taken 0 2 26 67 ∷ accepted 0 ∷ taken 0 0 31 97 ∷ taken 0 0 39 7 ∷ accepted 1 ∷ accepted 0 ∷ accepted 2 ∷ taken 0 2 27 93 ∷ accepted 2 ∷ accepted 3 ∷ refused 12 none ∷ accepted 2 ∷ accepted 3 ∷ taken 0 3 41 36 ∷ taken 0 3 44 45 ∷ accepted 0 ∷ accepted 1 ∷ accepted 2 ∷ accepted 3 ∷ accepted 4 ∷ []
unfolding rules
shared-run = refl
