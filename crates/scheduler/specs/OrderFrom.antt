-- R15.12: each accepted record is handed out once, in its train's order, or is still held, of every list of public calls from any good table, whatever its
-- origin: what a train of a lane held and what was accepted is what was handed out and what it still holds. (By R6.13 such a list may meet a 10; that call
-- changes nothing.)
-- Assumes nothing.
use Rattle.std.specs.Prelude.{ℕ, ◌≡◌, List, ◌++◌}
use Rattle.waiting.specs.Waiting.{queue_of}
use Rattle.rules.specs.State.{lane_at}
use Rattle.rules.specs.Runs.{accepted_of, sent_of, of_train}
use Rattle.pages.specs.Offers.{DeviceEvent, of_rules}
use Rattle.table.specs.Means.{meant}
use Rattle.paged.specs.Paged.{GoodUnit}
use Rattle.scheduler.specs.Chain.{Chain}

unfoldable pub OrderFrom : Type 0
OrderFrom =
    (b u : List ℕ) (es : List DeviceEvent) → GoodUnit b → Chain b es u
    → (k t : ℕ) → queue_of (lane_at (meant b) k).waiting t ++ of_train t (accepted_of k (of_rules es)) ≡ of_train t (sent_of k (of_rules es)) ++ queue_of (lane_at (meant u) k).waiting t
