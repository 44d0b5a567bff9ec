-- What the inner functions on a whole table ask and leave.
--
--   Filed         a table whose slot lists are those of its lanes, and its lanes those of a setup, wherever its clock stands: in the middle of a call too
--   PageReady     a page that waits has a setup
--   Rests         a table of which all this holds, with its page's part: what a take leaves before a page comes into force
--   LeadsDevice   the bytes encode a unit then, and those past the table are as they were
--
-- Assumes nothing.
use Rattle.std.specs.Prelude.{ℕ, ◌≤◌, ◌≡◌, List, length, drop}
use Rattle.std.proofs.Math.Option.{Option, none, some}
use Rattle.waiting.specs.Waiting.{GoodWaiting}
use Rattle.rules.specs.State.{lane_at, setup_of}
use Rattle.rules.specs.Setup.{Setup}
use Rattle.pages.specs.Device.{Page, Device}
use Rattle.editions.specs.Part.{waiting_in, Fits}
use Rattle.table.specs.Layout.{table_size}
use Rattle.table.specs.Means.{meant, Sound, Listed}
use Rattle.paged.specs.Paged.{part_of, EncodesDevice}

pub record Filed (t : List ℕ) : Type 0 where
  pub sound : Sound t
  pub listed : Listed t
  pub setup : Setup (setup_of (meant t))
  pub waiting : (k : ℕ) → GoodWaiting (lane_at (meant t) k).given.longest (lane_at (meant t) k).waiting

abbrev pub PageReady : Option Page → Type 0
PageReady none = Unit {0}
PageReady (some p) = Setup p.settings

pub record Rests (t : List ℕ) : Type 0 where
  pub room : table_size ≤ length t
  pub filed : Filed t
  pub fits : Fits (part_of t)
  pub page : PageReady (waiting_in (part_of t))

pub record LeadsDevice (before after : List ℕ) (d : Device) : Type 0 where
  pub encodes : EncodesDevice after d
  pub rest : drop table_size after ≡ drop table_size before
