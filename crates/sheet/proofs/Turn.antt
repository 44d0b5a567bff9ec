-- One turn of `sheet_walk`, as a function of what the byte did and of what the rest of the walk answers, so that a proof can go by cases of it.
--
--   after_line   at the end of a line, which was judged
--   after-byte   at any byte
--
-- Assumes nothing.
use Prim.Native.Nat.{ℕ, ◌+◌}
use mathlib.Core.List.{List}
use mathlib.Core.Option.{some}
use Rattle.std.specs.Prelude.{Err, Ok}
use Rattle.rules.specs.State.{Setting}
use Rattle.rules.specs.Reads.{number, place_of}
use Rattle.plan.specs.Judge.{seen_after}
use Rattle.plan.specs.Read.{SetupReply, setup_refused, placed}
use Rattle.plan.specs.declared.judge.Seen.{Seen}
use Rattle.plan.specs.declared.parse.SetupField.TheVariants.{Lane}
use Rattle.sheet.specs.Form.{new_line}
use Rattle.sheet.specs.Judge.{Verdict, verdict, row_field}
use Rattle.sheet.specs.Read.{sheet_format}
use Rattle.sheet.specs.declared.form.Line.{Line}
use Rattle.sheet.specs.declared.form.Row.{Row}
use Rattle.sheet.specs.declared.form.Step.{Step}
use Rattle.sheet.specs.declared.form.Step.TheVariants.{More, Whole, Wrong}

abbrev pub after_line : Seen → List Setting → ℕ → Row → Verdict → (Seen → List Setting → Line → SetupReply) → SetupReply
after_line seen gs at r v go = elim v [
  | Err x ↦ setup_refused (number x) (place_of x)
  | Ok done ↦ go (seen_after seen (Lane (row_field r))) (placed sheet_format 0 gs (Lane (row_field r))) (new_line at)
]

abbrev pub after-byte : Seen → List Setting → ℕ → Step → (Seen → List Setting → Line → SetupReply) → SetupReply
after-byte seen gs at d go = elim d [
  | Wrong ↦ setup_refused 80 (some at)
  | More f ↦ go seen gs f
  | Whole r ↦ after_line seen gs (at + 1) r (verdict seen r) go
]
