-- Units that no call tells apart: their states are alike, and the last edition and the waiting page are the same.
--
--   AlikeDevice, RespectsDevice   two such units; two outcomes with the same reply that leave such units
--   DeviceRespects                every call respects it
--
-- Assumes nothing.
use Rattle.std.specs.Prelude.{◌≡◌}
use Rattle.pages.specs.Device.{Device, DeviceCall, DeviceOutcome, device_step}
use Rattle.pages.specs.Claims.{GoodDevice}
use Rattle.alike.specs.Alike.{Alike}

pub record AlikeDevice (d e : Device) : Type 0 where
  pub state : Alike d.state e.state
  pub edition : d.edition ≡ e.edition
  pub waiting : d.waiting ≡ e.waiting

pub record RespectsDevice (x y : DeviceOutcome) : Type 0 where
  pub reply : x.reply ≡ y.reply
  pub device : AlikeDevice x.device y.device

unfoldable pub DeviceRespects : Type 0
DeviceRespects = (d e : Device) → GoodDevice d → AlikeDevice d e → (c : DeviceCall) → RespectsDevice (device_step d c) (device_step e c)
