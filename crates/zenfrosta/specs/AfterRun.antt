-- R15.4: public calls on the table that a session's run left. The run's requests led to that table, and so the requests and then these calls are one list from
-- the fresh table of the session's setup: all that holds after `make` holds after a run.
--
--   run_events   the requests of a run with their answers
--   ByRun       a run's table is one that its requests led to
--   AfterRun    all of `Demands`, of the requests and then the calls; of the requests alone where there are no calls
--
-- Both are of every run that made a table: `RunLists` (session/specs/Requests.antt) gives its `ListsRequests`. Assumes nothing.
use Rattle.std.specs.Prelude.{ℕ, List, ◌++◌, map, length}
use Rattle.rules.specs.State.{Setting}
use Rattle.pages.specs.Device.{fresh_device, ruled}
use Rattle.pages.specs.Offers.{DeviceEvent, device_trace}
use Rattle.scheduler.specs.Chain.{Chain, Led}
use Rattle.scheduler.specs.Demands.{Demands}
use Rattle.walk.specs.Script.{run_of}
use Rattle.walk.specs.declared.RunResult.{RunResult}
use Rattle.session.specs.Ran.{Ran}
use Rattle.session.specs.Requests.{requests_of, ListsRequests}

abbrev pub run_events : List ℕ → ℕ → List Setting → ℕ → List DeviceEvent
run_events s limit gs at = device_trace (fresh_device gs) (map ruled (requests_of limit s at))

unfoldable pub ByRun : Type 0
ByRun =
    (s : List ℕ) (limit : ℕ) (t t' a a' : List ℕ) (r : RunResult) → Ran s limit t t' a a' r
    → (l : ListsRequests s limit (run_of s limit (length t) (length a))) → Led l.settings (run_events s limit l.settings l.at) t'

unfoldable pub AfterRun : Type 0
AfterRun =
    (s : List ℕ) (limit : ℕ) (t t' a a' : List ℕ) (r : RunResult) → Ran s limit t t' a a' r
    → (l : ListsRequests s limit (run_of s limit (length t) (length a))) (calls : List DeviceEvent) (u : List ℕ) → Chain t' calls u
    → Demands l.settings (run_events s limit l.settings l.at ++ calls) u
