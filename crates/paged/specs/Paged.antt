-- A whole table, its page's part among it: the unit that its bytes mean (crate pages, `Device`).
--
--   part_of          the bytes behind the core: the page's part (crate editions)
--   device_of        the unit that a table's bytes mean
--   EncodesDevice   when a table's bytes encode a unit
--   GoodUnit        a good table, its waiting page included
--   GoodEncodesDevice, EncodesGoodDevice   the two go together: proofs/Units.antt
--
-- Assumes nothing.
use Rattle.std.specs.Prelude.{ℕ, ◌≤◌, ◌≡◌, List, length, drop}
use Rattle.rules.specs.State.{any_holds}
use Rattle.pages.specs.Device.{Device}
use Rattle.pages.specs.Claims.{GoodDevice}
use Rattle.editions.specs.Part.{last_in, waiting_in, Fits, GoodPart}
use Rattle.table.specs.Layout.{SIZE, table_size}
use Rattle.table.specs.Means.{meant}
use Rattle.table.specs.Encodes.{Encodes}
use Rattle.good.specs.Table.{GoodTable}

-- R19.12
abbrev pub part_of : List ℕ → List ℕ
part_of t = drop SIZE t

-- R19.12
unfoldable pub device_of : List ℕ → Device
device_of t = record { state = meant t; edition = last_in (part_of t); waiting = waiting_in (part_of t) }

-- R19.12
pub record EncodesDevice (t : List ℕ) (d : Device) : Type 0 where
  pub room : table_size ≤ length t
  pub core : Encodes t d.state
  pub edition : last_in (part_of t) ≡ d.edition
  pub waiting : waiting_in (part_of t) ≡ d.waiting
  pub fits : Fits (part_of t)

-- R6.2, R19.11
pub record GoodUnit (t : List ℕ) : Type 0 where
  pub room : table_size ≤ length t
  pub core : GoodTable t
  pub part : GoodPart (any_holds (meant t).lanes) (part_of t)

-- R19.12: a good table encodes the unit that its words mean, so no promise about a good table's units is empty
unfoldable pub GoodEncodesDevice : Type 0
GoodEncodesDevice = (t : List ℕ) → GoodUnit t → EncodesDevice t (device_of t) × GoodDevice (device_of t)

-- R19.12: and bytes that encode a good unit are a good table
unfoldable pub EncodesGoodDevice : Type 0
EncodesGoodDevice = (t : List ℕ) (d : Device) → EncodesDevice t d → GoodDevice d → GoodUnit t
