-- A unit with settings pages (docs/RULES.md, R19): what it holds, its calls, and what each answers. (`Unit` is a name of the prover's library, so it is a device here.)
--
--   Page           what a page that was read says: its edition and its settings
--   Device         a state of the rules, the edition last taken, and perhaps a page that waits
--   in_force_of      a page that came into force: the fresh state of its settings
--   fresh_device    that of a setup: edition 0, and nothing waits
--   DeviceCall     a call of the rules, the offer of a page that was read, or of one that was not
--   DeviceReply    an answer of the rules, a refused offer's too; in force; waits
--   settled_device  a page that waited is in force where nothing is held
--   device_step     any call; device_step_by: with other rules for the calls of the rules
--
-- Assumes nothing.
use Rattle.std.specs.Prelude.{ℕ, max, List, leb, if◌then◌else◌}
use Rattle.std.proofs.Math.Option.{Option, none, some}
use Rattle.rules.specs.State.{Setting, State, any_holds}
use Rattle.rules.specs.Calls.{Call, Reply, refused, fresh, step}
use Rattle.rules.specs.Endless.{Rules}

-- R19.6
pub record Page : Type 0 where
  pub edition : ℕ
  pub settings : List Setting

-- R19.6
pub record Device : Type 0 where
  pub state : State
  pub edition : ℕ
  pub waiting : Option Page

-- R19.8: its edition is the last one taken then, and nothing waits
unfoldable pub in_force_of : Page → Device
in_force_of p = record { state = fresh p.settings; edition = p.edition; waiting = none }

-- a table that was made has taken no page yet
abbrev pub start_page : List Setting → Page
start_page gs = record { edition = 0; settings = gs }

-- R19.6
abbrev pub fresh_device : List Setting → Device
fresh_device gs = in_force_of (start_page gs)

-- a page that does not read is refused by the reader's number and place, before its edition is looked at
pub data DeviceCall : Type 0 where
  ruled : Call → DeviceCall
  offer : Page → DeviceCall
  unread : ℕ → ℕ → DeviceCall

pub data DeviceReply : Type 0 where
  answered : Reply → DeviceReply
  in_force_now waits_now : DeviceReply

pub record DeviceOutcome : Type 0 where
  pub reply : DeviceReply
  pub device : Device

-- R19.8, R19.9.
-- After a call of the rules: a page waits as long as a record is held. (The call that leaves none held is a take: specs/OneCall.antt.) The call has answered by
-- the setup before.
unfoldable pub settled_device : State → ℕ → Option Page → Device
settled_device s n none = record { state = s; edition = n; waiting = none }
settled_device s n (some p) = if any_holds s.lanes then record { state = s; edition = n; waiting = some p } else in_force_of p

-- R14.47, R19.7: the greatest edition that was taken or waits
unfoldable pub newest_edition : ℕ → Option Page → ℕ
newest_edition n none = n
newest_edition n (some p) = max n p.edition

-- R14.47, R19.7, R19.8: 60 where the edition is no newer than that. With nothing held the page is in force at once; else it waits, in place of one that waited.
unfoldable pub do_offer : Device → Page → DeviceOutcome
do_offer d p =
    if leb p.edition (newest_edition d.edition d.waiting) then record { reply = answered (refused 60 none); device = d }
    else if any_holds d.state.lanes then record { reply = waits_now; device = record { state = d.state; edition = d.edition; waiting = some p } }
    else record { reply = in_force_now; device = in_force_of p }

-- R19.9
unfoldable pub device_step_by : Rules → Device → DeviceCall → DeviceOutcome
device_step_by go d (ruled c) =
    let o = go d.state c in
    record { reply = answered o.reply; device = settled_device o.state d.edition d.waiting }
device_step_by go d (offer p) = do_offer d p
device_step_by go d (unread n at) = record { reply = answered (refused n (some at)); device = d }

-- R19.7
abbrev pub device_step : Device → DeviceCall → DeviceOutcome
device_step = device_step_by step
