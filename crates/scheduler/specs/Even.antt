-- R15.18: the trains of one lane, of a list from the fresh table of the setup gs: bare bytes sent of one and of another, counted from the list's own answers.
--
--   EvenCalls          while two trains both hold records, neither is sent more than three times the lane's longest ahead of the other
--   EvenTightCalls     .. less 2, which is reached (crate rules, specs/TrainExamples.antt)
--   OthersTightCalls   while one train holds records, no other is sent more than that ahead of it, whether it holds some throughout or not
--
-- A train holds a record where more of its records were accepted than handed out. Refused calls are in the list. In a lane that is not shared no train but 0
-- ever holds one. Assumes nothing.
use Rattle.std.specs.Prelude.{ℕ, ◌+◌, ◌*◌, ◌≤◌, ◌≡◌, List, ◌++◌}
use Rattle.rules.specs.State.{Setting, setting_at}
use Rattle.rules.specs.Even.{HoldingTrain, train_bytes}
use Rattle.pages.specs.Offers.{DeviceEvent, of_rules, in_force}

-- a train holds a record before the stretch and after each call in it
abbrev pub TrainThroughout : ℕ → ℕ → List DeviceEvent → List DeviceEvent → Type 0
TrainThroughout k t past stretch = (p q : List DeviceEvent) → p ++ q ≡ stretch → HoldingTrain k t (of_rules (past ++ p))

-- Any stretch of the list (what comes before it, the stretch, what follows), any lane k and any two of its trains that both hold a record before the stretch
-- and after each call in it. The two may be exchanged, so this bounds the difference either way.
unfoldable pub EvenCalls : List Setting → List DeviceEvent → Type 0
EvenCalls gs es =
    (past stretch rest : List DeviceEvent) → es ≡ past ++ stretch ++ rest
    → (k a b : ℕ) → TrainThroughout k a past stretch → TrainThroughout k b past stretch
    → train_bytes k a (of_rules stretch) ≤ train_bytes k b (of_rules stretch) + 3 * (setting_at (in_force gs past) k).longest

unfoldable pub EvenTightCalls : List Setting → List DeviceEvent → Type 0
EvenTightCalls gs es =
    (past stretch rest : List DeviceEvent) → es ≡ past ++ stretch ++ rest
    → (k a b : ℕ) → (a ≡ b → ⊥) → TrainThroughout k a past stretch → TrainThroughout k b past stretch
    → train_bytes k a (of_rules stretch) + 2 ≤ train_bytes k b (of_rules stretch) + 3 * (setting_at (in_force gs past) k).longest

-- train a holds a record throughout, and b may come and go
unfoldable pub OthersTightCalls : List Setting → List DeviceEvent → Type 0
OthersTightCalls gs es =
    (past stretch rest : List DeviceEvent) → es ≡ past ++ stretch ++ rest
    → (k a b : ℕ) → (a ≡ b → ⊥) → TrainThroughout k a past stretch
    → train_bytes k b (of_rules stretch) + 2 ≤ train_bytes k a (of_rules stretch) + 3 * (setting_at (in_force gs past) k).longest
