-- What reading a sheet answers: the promise of `read_sheet`.
--
--   sheet_walk   the sheet from a place on
--   sheet_format R12.6: the format of a plan that comes from a sheet
--   read_sheet   R12.2, R12.6: the reply for a whole sheet: a plan of that format with no framing bytes and no shared lane, or a refusal
--
-- Assumes nothing.
use Rattle.std.specs.Prelude.{ℕ, ◌+◌, Bool, true, false, not, ◌&&◌, List, [], ◌∷◌, Ok, Err, ltb, if◌then◌else◌}
use Rattle.std.proofs.Math.Option.{some}
use Rattle.rules.specs.State.{Setting}
use Rattle.rules.specs.Reads.{number, place_of}
use Rattle.plan.specs.Judge.{seen_after}
use Rattle.plan.specs.Read.{SetupReply, setup_read, setup_refused, no_lanes, placed}
use Rattle.plan.specs.declared.judge.Seen.{Seen}
use Rattle.plan.specs.declared.parse.SetupField.TheVariants.{Lane}
use Rattle.sheet.specs.Form.{new_line, line_step}
use Rattle.sheet.specs.Judge.{verdict, row_field}
use Rattle.sheet.specs.declared.form.Part as part
use Rattle.sheet.specs.declared.form.Part.TheVariants as parts
use Rattle.sheet.specs.declared.form.Line.{Line}
use Rattle.sheet.specs.declared.form.Step.TheVariants.{More, Whole, Wrong}

abbrev pub sheet_format : ℕ
sheet_format = 2

-- Before the first line: no lane, no framing bytes, and any lane number may follow.
abbrev pub none_seen : Seen
none_seen = record { begun = true; opening = false; laned = false; format = sheet_format; framing = 0; floor = 0; total = 0; count = 0 }

-- Nothing of a line is read.
abbrev pub blank : part.Part → Bool → Bool
blank parts.Lane begun = not begun
blank parts.Weight begun = false
blank parts.Longest begun = false

-- R12.2. The bytes from a place on, within a line f. R12.3, R14.18: 80 at a byte with which the form does not go on. A line that is whole is judged before the
-- next one is looked at: it is refused, or its lane is placed on a line with no framing bytes, and the next line begins. R14.19: 81 at the end, where no line was
-- read or one is begun.
unfoldable pub sheet_walk : Seen → List Setting → Line → ℕ → List ℕ → SetupReply
sheet_walk seen gs f at [] = if blank f.part f.begun && ltb 0 seen.count then setup_read sheet_format gs seen.count at else setup_refused 81 (some at)
sheet_walk seen gs f at (b ∷ bs) = elim (line_step f at b) [
  | Wrong ↦ setup_refused 80 (some at)
  | More f₁ ↦ sheet_walk seen gs f₁ (at + 1) bs
  | Whole r ↦ elim (verdict seen r) [
    | Err x ↦ setup_refused (number x) (place_of x)
    | Ok done ↦ sheet_walk (seen_after seen (Lane (row_field r))) (placed sheet_format 0 gs (Lane (row_field r))) (new_line (at + 1)) (at + 1) bs
  ]
]

unfoldable pub read_sheet : List ℕ → SetupReply
read_sheet s = sheet_walk none_seen no_lanes (new_line 0) 0 s
