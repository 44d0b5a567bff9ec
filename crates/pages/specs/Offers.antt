-- Lists of calls to a unit with pages, and what can be counted from their arguments and answers alone.
--
--   device_after, device_trace   the unit after a list of calls; the calls with their answers; device_after_by, device_trace_by: with other rules
--   Read, AllRead              the pages that were read are setups within the numbers, and one that was not is refused by a number of its own, not by a table's 10
--   of_rules                    the events of the rules' own calls: all counting of records and bytes is over these
--   Held                       a lane holds a record after these events, by the count of its records; held_test: the same as a test; any_held: some lane does
--   newest                     the page last accepted, in force or waiting
--   until_free                  the events up to the last point at which no lane held a record
--   page_in                     the page in force after these events; in_force: its settings, the setup in force
--
-- Assumes nothing.
use Rattle.std.specs.Prelude.{ℕ, ◌≡◌, Bool, List, [], ◌∷◌, ◌++◌, ltb, length, if◌then◌else◌}
use Rattle.units.specs.Plain.{any_below}
use Rattle.rules.specs.State.{Setting}
use Rattle.rules.specs.Setup.{Setup}
use Rattle.rules.specs.Calls.{step}
use Rattle.rules.specs.Runs.{Event, accepted_of, sent_of}
use Rattle.rules.specs.Endless.{Rules}
use Rattle.rules.specs.Fair.{Holding}
use Rattle.pages.specs.Device.{Page, Device, start_page, DeviceCall, ruled, offer, unread, DeviceReply, answered, in_force_now, waits_now, device_step_by}

unfoldable pub device_after_by : Rules → Device → List DeviceCall → Device
device_after_by go d [] = d
device_after_by go d (c ∷ cs) = device_after_by go (device_step_by go d c).device cs

pub record DeviceEvent : Type 0 where
  pub call : DeviceCall
  pub reply : DeviceReply

abbrev pub event_of : Device → DeviceCall → DeviceEvent
event_of d c = record { call = c; reply = (device_step_by step d c).reply }

unfoldable pub device_trace_by : Rules → Device → List DeviceCall → List DeviceEvent
device_trace_by go d [] = []
device_trace_by go d (c ∷ cs) = record { call = c; reply = (device_step_by go d c).reply } ∷ device_trace_by go (device_step_by go d c).device cs

abbrev pub device_after : Device → List DeviceCall → Device
device_after = device_after_by step

abbrev pub device_trace : Device → List DeviceCall → List DeviceEvent
device_trace = device_trace_by step

unfoldable pub Read : DeviceCall → Type 0
Read (ruled c) = Unit {0}
Read (offer p) = Setup p.settings
Read (unread n at) = n ≡ 10 → ⊥

unfoldable pub AllRead : List DeviceCall → Type 0
AllRead [] = Unit {0}
AllRead (c ∷ cs) = Read c × AllRead cs

-- ---- counts: an offer puts no record and hands none out

unfoldable pub of_rule : DeviceCall → DeviceReply → List Event
of_rule (ruled c) (answered a) = record { call = c; reply = a } ∷ []
of_rule (ruled c) in_force_now = []
of_rule (ruled c) waits_now = []
of_rule (offer p) r = []
of_rule (unread n at) r = []

-- R15.5
unfoldable pub of_rules : List DeviceEvent → List Event
of_rules [] = []
of_rules (e ∷ es) = of_rule e.call e.reply ++ of_rules es

abbrev pub Held : ℕ → List DeviceEvent → Type 0
Held k es = Holding k (of_rules es)

unfoldable pub held_test : ℕ → List Event → Bool
held_test k es = ltb (length (sent_of k es)) (length (accepted_of k es))

unfoldable pub any_held : List DeviceEvent → Bool
any_held es = any_below (λ (k : ℕ). held_test k (of_rules es)) 64

-- ---- the page in force

-- a page is accepted where its answer is that it is in force, or that it waits
unfoldable pub accepted_page : Page → DeviceCall → DeviceReply → Page
accepted_page old (ruled c) r = old
accepted_page old (offer p) (answered a) = old
accepted_page old (offer p) in_force_now = p
accepted_page old (offer p) waits_now = p
accepted_page old (unread n at) r = old

-- R19.13
unfoldable pub newest : Page → List DeviceEvent → Page
newest old [] = old
newest old (e ∷ es) = newest (accepted_page old e.call e.reply) es

-- of `past ++ rest`, the events up to the last point at which no lane held a record, where `best` are those up to the last such point of `past`
unfoldable pub free_from : List DeviceEvent → List DeviceEvent → List DeviceEvent → List DeviceEvent
free_from best past [] = best
free_from best past (e ∷ es) =
    let now = past ++ (e ∷ []) in
    free_from (if any_held now then best else now) now es

-- R19.13
abbrev pub until_free : List DeviceEvent → List DeviceEvent
until_free es = free_from [] [] es

-- R19.13.
-- A page waits only while a record is held. So in force is the page last accepted by the last point at which no lane held one; before any, the setup that the
-- table was made with.
unfoldable pub page_in : List Setting → List DeviceEvent → Page
page_in gs es = newest (start_page gs) (until_free es)

-- R15.5, R19.13
abbrev pub in_force : List Setting → List DeviceEvent → List Setting
in_force gs es = (page_in gs es).settings
