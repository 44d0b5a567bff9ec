-- What one call does to a unit's page and edition: what the code of the calls needs.
--
--   KeepsPage          the rule for a waiting page is kept by every call, on a table of any origin
--   OnlyTake           of the six calls only take brings a page into force: the others leave page and edition as they are
--
-- Assumes nothing.
use Rattle.std.specs.Prelude.{ℕ, ◌≡◌}
use Rattle.waiting.specs.Waiting.{GoodWaiting}
use Rattle.rules.specs.State.{lane_at}
use Rattle.rules.specs.Calls.{Call, take, step}
use Rattle.pages.specs.Device.{Device, DeviceCall, ruled, device_step}
use Rattle.pages.specs.Offers.{Read}
use Rattle.pages.specs.Claims.{GoodPage}

-- R19.11
unfoldable pub KeepsPage : Type 0
KeepsPage = (d : Device) → GoodPage d d.waiting → (c : DeviceCall) → Read c → (let e = (device_step d c).device in GoodPage e e.waiting)

-- R19.9
unfoldable pub OnlyTake : Type 0
OnlyTake =
    (d : Device) → ((k : ℕ) → GoodWaiting (lane_at d.state k).given.longest (lane_at d.state k).waiting) → GoodPage d d.waiting → (c : Call) → (c ≡ take → ⊥)
    → (device_step d (ruled c)).device ≡ record { state = (step d.state c).state; edition = d.edition; waiting = d.waiting }
