-- Writing a setup (docs/RULES.md, R9): the fields of a plan, and the promise of `write_setup`.
--
--   Planned      a plan as the promises speak of it; planned: that of the code's plan, its lanes by number
--   Within       a plan within the numbers
--   lane_fields   the fields of its lanes; shareds: how many are shared
--   plan_fields   the fields of a plan, in order; setup_bytes: their bytes; setup_size: how many
--   Writes       the promise: what is answered, and the buffer after it, for every plan and every buffer
--
-- Assumes nothing.
use Rattle.std.specs.Prelude.{ℕ, zero, suc, ◌+◌, ◌*◌, ◌≤◌, ◌<◌, ◌≡◌, Bool, true, false, ◌⊎◌, List, [], ◌∷◌, ◌++◌, ltb, eqb, length, drop, Result, Ok, Err, if◌then◌else◌}
use Rattle.std.specs.Prelude.{Some}
use Rattle.std.proofs.Math.Option.{Option, some, none}
use Rattle.units.specs.Plain.{sum}
use Rattle.rules.specs.State.{Setting, no_setting, setting_at}
use Rattle.rules.specs.Setup.{InNumbers, Setup, framing_of}
use Rattle.plan.specs.Judge.{known_format}
use Rattle.plan.specs.Read.{settings}
use Rattle.plan.specs.Accepted.{LaneFields, framed, shared_behind, fields_of, setup_fields, present}
use Rattle.plan.specs.declared.Plan.{Plan}
use Rattle.plan.specs.declared.parse.LaneField.{LaneField}
use Rattle.plan.specs.declared.parse.SetupField.{SetupField}
use Rattle.plan.specs.declared.parse.SetupField.TheVariants.{Lane}
use Rattle.plan_writer.specs.Format.{field_bytes, bytes_of}
use Rattle.plan_writer.specs.declared.Unwritten.{Unwritten}
use Rattle.plan_writer.specs.declared.Unwritten.TheVariants.{Outside, Short}

-- ---- plans

-- R9.1, R9.10. A format, a setting for each lane number, and how many lanes there are said to be.
pub record Planned : Type 0 where
  pub format : ℕ
  pub lanes : List Setting
  pub count : ℕ

-- The settings from lane k on, n of them.
unfoldable pub numbered_from : ℕ → ℕ → List Setting → List Setting
numbered_from k zero gs = []
numbered_from k (suc n) gs = setting_at gs k ∷ numbered_from (suc k) n gs

-- Lanes 0 to 63. These are the whole list where it has 64 elements, as a plan's array has.
abbrev pub numbered : List Setting → List Setting
numbered gs = numbered_from 0 64 gs

-- The code's plan.
abbrev pub planned : Plan → Planned
planned p = record { format = p.format; lanes = numbered (settings p); count = p.count }

-- R9.1. Within the numbers: the format is a known one, the lanes are a setup of the rules (one to 64 of them, an absent one all zero, each weight, longest, the
-- sum and the framing bytes in their numbers, one framing number for all), and the count is how many are there.
pub record Within (p : Planned) : Type 0 where
  pub format : known_format p.format ≡ true
  pub setup : Setup p.lanes
  pub count : present p.lanes ≡ p.count

-- R9.1. A lane of a plan: in the numbers, or not there and all zero.
abbrev pub Either : Setting → Type 0
Either g = InNumbers g ⊎ (g ≡ no_setting)

-- The same on a line that has h framing bytes: a lane that is there has these.
abbrev pub Fitting : ℕ → Setting → Type 0
Fitting h g = (InNumbers g × (g.framing ≡ h)) ⊎ (g ≡ no_setting)

-- A test tells whether something holds.
pub record Tells (b : Bool) (P : Type 0) : Type 0 where
  pub yes : b ≡ true → P
  pub no : b ≡ false → P → ⊥

-- ---- the fields of a plan

-- The field of lane k: its longest is always written out.
abbrev pub lane_field : ℕ → Setting → LaneField
lane_field k g = record { lane = k; weight = g.weight; longest = Some g.longest }

abbrev pub lane_fields_of : ℕ → Setting → LaneFields
lane_fields_of k g = record { lane = lane_field k g; shared = g.shared }

-- The fields of each lane that is there; the first setting is that of lane k.
unfoldable pub lane_fields : ℕ → List Setting → List LaneFields
lane_fields k [] = []
lane_fields k (g ∷ gs) = if ltb 0 g.weight then lane_fields_of k g ∷ lane_fields (suc k) gs else lane_fields (suc k) gs

-- 0x11 is written where the number is not 0.
abbrev pub unless_zero : ℕ → Option ℕ
unless_zero h = if eqb h 0 then none else some h

-- R9.2: 0x01 with the plan's format, 0x11 where there are framing bytes, the fields of each lane, 0x7F.
abbrev pub plan_fields : Planned → List SetupField
plan_fields p = setup_fields p.format (unless_zero (framing_of p.lanes)) (lane_fields 0 p.lanes)

-- R9.2
unfoldable pub setup_bytes : Planned → List ℕ
setup_bytes p = bytes_of (plan_fields p)

-- The bytes of parts of it, for the code that writes them: a lane's 0x10, and that with its 0x12.
abbrev pub own_bytes : ℕ → Setting → List ℕ
own_bytes k g = field_bytes (Lane (lane_field k g))

abbrev pub lane_bytes : ℕ → Setting → List ℕ
lane_bytes k g = own_bytes k g ++ bytes_of (shared_behind g.shared k)

abbrev pub lanes_bytes : ℕ → List Setting → List ℕ
lanes_bytes k gs = bytes_of (fields_of (lane_fields k gs))

unfoldable pub framing_bytes : ℕ → List ℕ
framing_bytes h = bytes_of (framed (unless_zero h))

-- Four bytes for 0x11, where it stands.
abbrev pub framing_size : ℕ → ℕ
framing_size h = if eqb h 0 then 0 else 4

-- Eight bytes for a lane, and four for 0x12.
abbrev pub lane_size : Setting → ℕ
lane_size g = if g.shared then 12 else 8

-- How many lanes are shared.
abbrev pub shareds : List Setting → ℕ
shareds gs = sum (λ (g : Setting). if g.shared then 1 else 0) gs

-- R9.2. Five bytes for 0x01, three for 0x7F, eight for each lane, four for each that is shared.
abbrev pub setup_size : Planned → ℕ
setup_size p = 8 + framing_size (framing_of p.lanes) + 8 * present p.lanes + 4 * shareds p.lanes

-- ---- the promise

-- What writing answers: the exact size, or a refusal's number. These refusals have no place.
pub data WriteReply : Type 0 where
  written_size : ℕ → WriteReply
  not_written : ℕ → WriteReply

-- R9.3
abbrev pub unwritten_number : Unwritten → ℕ
unwritten_number Outside = 55
unwritten_number Short = 56

-- The code's answer.
abbrev pub write_reply : Result ℕ Unwritten → WriteReply
write_reply (Ok n) = written_size n
write_reply (Err x) = not_written (unwritten_number x)

-- R9.3, R9.4, R14.16, R14.17, R14.41. A plan outside the numbers is refused by 55, whatever the buffer; one within them by 56 where the buffer is shorter than
-- its exact size; the buffer stays for both. Else the answer is the size, the plan's bytes stand first in the buffer, and those past them stay.
pub record Writes (p : Planned) (before : List ℕ) (answer : Result ℕ Unwritten) (after : List ℕ) : Type 0 where
  pub outside : (Within p → ⊥) → (write_reply answer ≡ not_written 55) × (after ≡ before)
  pub short : Within p → length before < setup_size p → (write_reply answer ≡ not_written 56) × (after ≡ before)
  pub written : Within p → setup_size p ≤ length before → (write_reply answer ≡ written_size (setup_size p)) × (after ≡ setup_bytes p ++ drop (setup_size p) before)
