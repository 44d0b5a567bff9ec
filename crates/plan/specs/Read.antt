-- What reading a setup answers: the promise of `read_plan` and of `read_setup`.
--
--   SetupReply  what reading answers
--   setup_walk   the fields of a setup, from a place on
--   read_plan    the reply at a place of an input
--   read_setup   the reply where the setup is the whole input, as for making a table
--   setup_reply  the code's answer as a `SetupReply`
--
-- Assumes nothing.
use Rattle.std.specs.Prelude.{ℕ, zero, suc, ◌-◌, false, true, List, map, ltb, length, set, replicate, Result, Ok, Err, if◌then◌else◌}
use Rattle.std.proofs.Math.Option.{Option, some}
use Rattle.rules.specs.State.{Setting, no_setting, setting_at}
use Rattle.rules.specs.Reads.{number, place_of}
use Rattle.rules.specs.declared.Refusal.{Refusal}
use Rattle.fields.specs.Item.{whole_field, bad_field}
use Rattle.plan.specs.Fields.{ends}
use Rattle.plan.specs.Judge.{given, judged_at, seen_after}
use Rattle.plan.specs.declared.Lane as lane
use Rattle.plan.specs.declared.Plan.{Plan}
use Rattle.plan.specs.declared.Reading.{Reading}
use Rattle.plan.specs.declared.judge.Seen.{Seen}
use Rattle.plan.specs.declared.parse.SetupField.{SetupField}
use Rattle.plan.specs.declared.parse.SetupField.TheVariants.{Format, Lane, Framing, Shared, End}

-- A setup that was read: its format, its settings by lane number, how many lanes it has, and the place after its 0x7F. Or a refusal: its number and its place.
pub data SetupReply : Type 0 where
  setup_read : ℕ → List Setting → ℕ → ℕ → SetupReply
  setup_refused : ℕ → Option ℕ → SetupReply

-- Before the first field nothing is fixed ..
abbrev pub nothing_seen : Seen
nothing_seen = record { begun = false; opening = false; laned = false; format = 0; framing = 0; floor = 0; total = 0; count = 0 }

-- .. and no lane is there.
abbrev pub no_lanes : List Setting
no_lanes = replicate 64 no_setting

-- R8.17: the setting of a lane that trains share
abbrev pub as_shared : Setting → Setting
as_shared g = record { weight = g.weight; longest = g.longest; framing = g.framing; shared = true }

-- A lane field gives its lane a setting, in a setup of format v and on a line with h framing bytes; 0x12 makes a lane shared.
abbrev pub placed : ℕ → ℕ → List Setting → SetupField → List Setting
placed v h gs (Format w) = gs
placed v h gs (Lane l) = set gs l.lane (given v h l)
placed v h gs (Framing w) = gs
placed v h gs (Shared k) = set gs k (as_shared (setting_at gs k))
placed v h gs End = gs

-- R8.2. Fields in order, from a place on, each judged by those before it. The walk stops at a field that is refused, and at 0x7F, which ends the setup; behind
-- any other field it goes on. A field has three bytes or more, so there is a turn for each byte left, and after them no byte is left.
unfoldable pub setup_walk : ℕ → List ℕ → Seen → List Setting → ℕ → SetupReply
setup_walk zero s seen gs at = setup_refused 1 (some (length s))
setup_walk (suc turns) s seen gs at = elim (judged_at seen s at) [
  | bad_field n p ↦ setup_refused n p
  | whole_field f next ↦
      if ends f then setup_read seen.format gs seen.count next
      else setup_walk turns s (seen_after seen f) (placed seen.format seen.framing gs f) next
]

-- R8.2, R10.6: a setup from a place on, to its own 0x7F. A place past the end is one with no byte left.
unfoldable pub read_plan : List ℕ → ℕ → SetupReply
read_plan s at = setup_walk (length s - at) s nothing_seen no_lanes at

-- R8.14, R14.6: 4 at a byte behind the 0x7F
abbrev pub setup_closed : List ℕ → SetupReply → SetupReply
setup_closed s (setup_read v gs n at) = if ltb at (length s) then setup_refused 4 (some at) else setup_read v gs n at
setup_closed s (setup_refused n p) = setup_refused n p

-- R8.14: the setup is the whole input, and its 0x7F is the last.
unfoldable pub read_setup : List ℕ → SetupReply
read_setup s = setup_closed s (read_plan s 0)

-- ---- the code's answer

-- A lane of a plan, as the rules have it.
abbrev pub setting_of : lane.Lane → Setting
setting_of l = record { weight = l.weight; longest = l.longest; framing = l.framing; shared = l.shared }

-- A plan's lanes, by number.
abbrev pub settings : Plan → List Setting
settings p = map setting_of p.lanes

-- The code's answer, a refusal by its number.
abbrev pub setup_reply : Result Reading Refusal → SetupReply
setup_reply (Ok r) = setup_read r.plan.format (settings r.plan) r.plan.count r.next
setup_reply (Err x) = setup_refused (number x) (place_of x)
