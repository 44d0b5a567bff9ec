-- A field of a setup, judged by the fields before it (docs/RULES.md, R8): the refusals 4, 50 to 54, and 6.
--
--   known_format the formats that are read; default_of: what each means by a longest that is left out
--   longest_of   R8.9: a lane field's longest, given or not; longest_right: whether it is in the numbers
--   given       the setting that a lane field gives its lane, in a setup of a format and on a line with h framing bytes
--   last_lane    the last lane number
--   misplaced   refusal 4
--   outside     what is wrong with a field's own numbers: refusals 50 to 54; Inside: nothing
--   Numbered    a lane that 0x12 names is one of the 64
--   over        what is wrong with the weights so far: refusal 6
--   faults      the table: fault, number, place from the field's tag; offset: that place alone
--   faulted     a fault's refusal, or what the rest decides; settled: the same of the code's answer
--   judged_at    the field at a place, or its first refusal in the order 1, 2, 3, 1, 4, 50 to 54, 6
--   seen_after   what the fields so far fix for the next one, after one more
--
-- Assumes nothing.
use Rattle.std.specs.Prelude.{ℕ, ◌+◌, ◌≤◌, Bool, true, false, not, ◌||◌, ◌&&◌, List, Option, Some, None, Result, Ok, Err, ◌≡◌, ltb, leb, eqb, if◌then◌else◌}
use Rattle.std.proofs.Math.Option.{some}
use Rattle.rules.specs.State.{Setting}
use Rattle.rules.specs.Reads.{number, place_of}
use Rattle.rules.specs.declared.Refusal.{Refusal}
use Rattle.fields.specs.Item.{whole_field, bad_field}
use Rattle.plan.specs.Fields.{SetupItem, setup_item_at}
use Rattle.plan.specs.declared.judge.Fault.{Fault}
use Rattle.plan.specs.declared.judge.Fault.TheVariants.{BadFormat, BadLane, BadWeight, BadLongest, BadFraming, TotalOver}
use Rattle.plan.specs.declared.judge.Seen.{Seen}
use Rattle.plan.specs.declared.parse.LaneField.{LaneField}
use Rattle.plan.specs.declared.parse.SetupField.{SetupField}
use Rattle.plan.specs.declared.parse.SetupField.TheVariants.{Format, Lane, Framing, Shared, End}

-- R8.7. The formats that are read.
abbrev pub known_format : ℕ → Bool
known_format v = eqb v 1 || eqb v 2

-- R8.9. The longest of a lane field that has none: 1,500 in format 1, 576 in format 2.
abbrev pub default_of : ℕ → ℕ
default_of v = if eqb v 1 then 1500 else 576

abbrev pub longest_of : ℕ → Option ℕ → ℕ
longest_of v (Some n) = n
longest_of v None = default_of v

-- R8.9. In a setup of format v a lane field gives its lane a weight and a longest; the framing bytes are the line's.
abbrev pub given : ℕ → ℕ → LaneField → Setting
given v h l = record { weight = l.weight; longest = longest_of v l.longest; framing = h; shared = false }

-- R14.5: a second 0x01 (R8.7), 0x11 elsewhere than directly behind it (R8.8), a lane field in front of it or not above the last lane (R8.10), 0x7F with no lane
-- (R8.12), which a first 0x7F is; and 0x12 elsewhere than directly behind the 0x10 of the lane that it names (R8.17).
abbrev pub misplaced : Seen → SetupField → Bool
misplaced seen (Format v) = seen.begun
misplaced seen (Lane l) = not seen.begun || ltb l.lane seen.floor
misplaced seen (Framing h) = not seen.opening
misplaced seen (Shared k) = not seen.laned || not (eqb (k + 1) seen.floor)
misplaced seen End = eqb seen.count 0

-- From the least to the most, both among them.
abbrev pub within : ℕ → ℕ → ℕ → Bool
within low high n = leb low n && leb n high

-- R8.10. A longest is 64 to 1,500; one that is left out is right in every format.
abbrev pub longest_right : Option ℕ → Bool
longest_right (Some n) = within 64 1500 n
longest_right None = true

-- R8.10. Lanes are numbered 0 to 63.
abbrev pub last_lane : ℕ
last_lane = 63

-- R8.10, R14.8 to R14.10: the first of a lane field's numbers that is outside R1.1 to R1.3
unfoldable pub lane_outside : LaneField → Option Fault
lane_outside l =
    if not (leb l.lane last_lane) then Some BadLane
    else (if not (within 1 1024 l.weight) then Some BadWeight
    else (if not (longest_right l.longest) then Some BadLongest else None))

-- R8.8. The line's framing bytes are 0 to 64.
abbrev pub most_framing : ℕ
most_framing = 64

-- R8.7, R8.8, R14.7, R14.11. A format is 1 or 2, framing at most 64; of a lane field's numbers the first one that is outside, in the order of their bytes.
abbrev pub outside : SetupField → Option Fault
outside (Format v) = if known_format v then None else Some BadFormat
outside (Lane l) = lane_outside l
outside (Framing h) = if ltb most_framing h then Some BadFraming else None
outside (Shared k) = None
outside End = None

-- A field whose numbers are all inside.
abbrev pub Inside : SetupField → Type 0
Inside f = outside f ≡ None

-- A lane that is said to be shared is one of the 64: the walk has met its 0x10.
abbrev pub Numbered : SetupField → Type 0
Numbered (Format v) = Unit {0}
Numbered (Lane l) = Unit {0}
Numbered (Framing h) = Unit {0}
Numbered (Shared k) = k ≤ last_lane
Numbered End = Unit {0}

-- R8.11, R14.12: more than 1,024 with this field's weight.
abbrev pub over : Seen → SetupField → Option Fault
over seen (Format v) = None
over seen (Lane l) = if ltb 1024 (seen.total + l.weight) then Some TotalOver else None
over seen (Framing h) = None
over seen (Shared k) = None
over seen End = None

-- R8.13, R14.7 to R14.12. The table of faults: the refusal's number, and its place, counted from the field's tag: the first byte of the number that is wrong.
abbrev pub faults : Fault → ℕ × ℕ
faults BadFormat = (50, 3)
faults BadLane = (51, 3)
faults BadWeight = (52, 4)
faults BadLongest = (53, 6)
faults BadFraming = (54, 3)
faults TotalOver = (6, 4)

-- R8.13. A fault's place from the tag; where there is none, 0.
abbrev pub offset : Option Fault → ℕ
offset None = 0
offset (Some x) = (faults x).1

-- A fault of the field at a place refuses it; else the rest decides.
abbrev pub faulted : ℕ → Option Fault → SetupItem → SetupItem
faulted at None rest = rest
faulted at (Some x) rest = bad_field (faults x).0 (some (at + (faults x).1))

-- The same of the code's answer: its refusal, or what the rest decides.
abbrev pub settled : {A : Type 0} → Result A Refusal → SetupItem → SetupItem
settled (Ok x) rest = rest
settled (Err x) rest = bad_field (number x) (place_of x)

-- R8.3, R14.36. In a field 1 (header), 2, 3, 1 (value), 4, then its own numbers, then 6.
abbrev pub judged : Seen → ℕ → SetupItem → SetupItem
judged seen at (bad_field n p) = bad_field n p
judged seen at (whole_field f next) =
    if misplaced seen f then bad_field 4 (some at) else faulted at (outside f) (faulted at (over seen f) (whole_field f next))

-- R8.3. The field at a place, judged by the fields before it.
unfoldable pub judged_at : Seen → List ℕ → ℕ → SetupItem
judged_at seen s at = judged seen at (setup_item_at s at)

-- A field that is taken: the format begins the setup, and 0x11 may follow; 0x11 gives the line's framing bytes; 0x12 closes its lane; a lane field raises the
-- least number that may follow, and adds its weight and itself.
abbrev pub seen_after : Seen → SetupField → Seen
seen_after seen (Format v) = record { begun = true; opening = true; laned = false; format = v; framing = seen.framing; floor = seen.floor; total = seen.total; count = seen.count }
seen_after seen (Lane l) = record { begun = true; opening = false; laned = true; format = seen.format; framing = seen.framing; floor = l.lane + 1; total = seen.total + l.weight; count = seen.count + 1 }
seen_after seen (Framing h) = record { begun = true; opening = false; laned = false; format = seen.format; framing = h; floor = seen.floor; total = seen.total; count = seen.count }
seen_after seen (Shared k) = record { begun = true; opening = false; laned = false; format = seen.format; framing = seen.framing; floor = seen.floor; total = seen.total; count = seen.count }
seen_after seen End = seen
