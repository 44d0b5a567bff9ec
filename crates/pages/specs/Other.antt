-- A unit over other rules, as those of the endless clock (h): where the rules give the same answers, the units do.
--
--   SameRules      from a fresh state of any setup the other rules give the same answers, and the same lanes hold records
--   SameUnits      the units give the same answers, offers of pages included
--   EndlessPages   the endless clock's, from each change of setup on: the same answers, editions and waiting pages, and states that stand beside each other
--
-- Assumes nothing.
use Rattle.std.specs.Prelude.{ℕ, ◌≡◌, List}
use Rattle.rules.specs.State.{Setting, holds, lane_at}
use Rattle.rules.specs.Setup.{Setup}
use Rattle.rules.specs.Calls.{Call, fresh}
use Rattle.rules.specs.Runs.{after, trace}
use Rattle.rules.specs.Endless.{Rules, after_by, trace_by, endless, Beside}
use Rattle.pages.specs.Device.{Device, fresh_device, DeviceCall}
use Rattle.pages.specs.Offers.{device_after_by, device_after, device_trace_by, device_trace, AllRead}

unfoldable pub SameRules : Rules → Type 0
SameRules go =
    (gs : List Setting) → Setup gs → (calls : List Call)
    → (trace_by go (fresh gs) calls ≡ trace (fresh gs) calls) × ((k : ℕ) → holds (lane_at (after_by go (fresh gs) calls) k) ≡ holds (lane_at (after (fresh gs) calls) k))

unfoldable pub SameUnits : Rules → Type 0
SameUnits go = (gs : List Setting) → Setup gs → (calls : List DeviceCall) → AllRead calls → device_trace_by go (fresh_device gs) calls ≡ device_trace (fresh_device gs) calls

-- R19.16
pub record DeviceBeside (d e : Device) : Type 0 where
  pub edition : e.edition ≡ d.edition
  pub waiting : e.waiting ≡ d.waiting
  pub by : ℕ
  pub state : Beside by d.state e.state

-- R19.16
unfoldable pub EndlessPages : Type 0
EndlessPages =
    (gs : List Setting) → Setup gs → (calls : List DeviceCall) → AllRead calls
    → (device_trace (fresh_device gs) calls ≡ device_trace_by endless (fresh_device gs) calls)
    × DeviceBeside (device_after (fresh_device gs) calls) (device_after_by endless (fresh_device gs) calls)
