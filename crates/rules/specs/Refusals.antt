-- When the rules refuse by 10 and by 16.
--
--   NotTen        a reply other than 10
--   RulesNotTen   R14.22: no reply of the rules is 10: they know no bytes, and 10 is said of bytes alone
--   NothingHeld   R3.15: on a good state take and look are refused, by 16, only where no lane holds a record
--
-- Assumes nothing.
use Rattle.std.specs.Prelude.{ℕ, ◌≡◌, false, ◌⊎◌}
use Rattle.std.proofs.Math.Option.{none}
use Rattle.rules.specs.State.{State, holds, lane_at}
use Rattle.rules.specs.Calls.{Call, take, look, Reply, accepted, taken, seen, words, lagged, restarted, refused, step}
use Rattle.rules.specs.Good.{Good}

abbrev pub NotTen : Reply → Type 0
NotTen (accepted n) = Unit {0}
NotTen (taken j t m n) = Unit {0}
NotTen (seen j t m n) = Unit {0}
NotTen (words a b c d) = Unit {0}
NotTen (lagged z) = Unit {0}
NotTen restarted = Unit {0}
NotTen (refused n p) = n ≡ 10 → ⊥

unfoldable pub RulesNotTen : Type 0
RulesNotTen = (s : State) (c : Call) → NotTen (step s c).reply

unfoldable pub NothingHeld : Type 0
NothingHeld = (s : State) → Good s
    → ((step s take).reply ≡ refused 16 none) ⊎ ((step s look).reply ≡ refused 16 none)
    → (k : ℕ) → holds (lane_at s k) ≡ false
