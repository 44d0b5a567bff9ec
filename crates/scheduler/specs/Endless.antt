-- R15.16: a clock that doesn't stop, of a list from the fresh table of the setup gs which led to the bytes u.
--
--   EndlessCalls   R5.4: every answer, those of sets and lag too, is the one that the endless rules give, and what the bytes encode stands beside their state
--   ClockEarly     R5.5: while the clock of the table stays below 2^61 + 2^44
--
-- A scheduler that never takes the clock back would meet the first alone, up to the day on which its words run over; so the two are promised together.
-- Assumes nothing.
use Rattle.std.specs.Prelude.{ℕ, ◌+◌, ◌^◌, ◌<◌, ◌≡◌, List}
use Rattle.rules.specs.State.{Setting}
use Rattle.rules.specs.Endless.{endless}
use Rattle.pages.specs.Device.{Device, fresh_device}
use Rattle.pages.specs.Offers.{DeviceEvent, device_after_by, device_trace_by}
use Rattle.pages.specs.Other.{DeviceBeside}
use Rattle.paged.specs.Paged.{EncodesDevice}
use Rattle.scheduler.specs.Chain.{calls_of}

-- of a unit that the bytes encode, its edition and the page that waits being the endless one's: V, and S and F of each lane that holds records, are a multiple of 2^31 below the endless clock's, and so is the greater
-- of F and V of each idle lane; settings, records and the tie order are the same
pub record EndlessCalls (gs : List Setting) (es : List DeviceEvent) (u : List ℕ) : Type 0 where
  pub answers : device_trace_by endless (fresh_device gs) (calls_of es) ≡ es
  pub device : Device
  pub table : EncodesDevice u device
  pub beside : DeviceBeside device (device_after_by endless (fresh_device gs) (calls_of es))

unfoldable pub ClockEarly : List ℕ → Type 0
ClockEarly u = (d : Device) → EncodesDevice u d → d.state.clock < 2 ^ 61 + 2 ^ 44
