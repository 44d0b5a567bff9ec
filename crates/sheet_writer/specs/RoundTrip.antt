-- Writing and reading sheets go back and forth (R12.9): the promises, of the two calls' own answers. (`WritesSheet` is what `write_sheet` ensures, and
-- `setup_reply r ≡ read_sheet s` what `read_sheet` does.) Theorems of these names in small letters are in proofs/Calls.antt.
--
--   SheetReadsBack    what was written is read as the same lanes; the format is not given back
--   SheetWritesBack   a sheet that is read comes back as its own bytes
--   SheetSizeMost     R12.7: no sheet of a plan within the numbers has more than 698 bytes
--
-- Assumes nothing.
use Rattle.std.specs.Prelude.{ℕ, ◌≤◌, ◌≡◌, List, ◌++◌, length, drop, take, Result, Ok}
use Rattle.plan.specs.Read.{setup_read, setup_reply}
use Rattle.plan.specs.declared.Plan.{Plan}
use Rattle.plan.specs.declared.Reading.{Reading}
use Rattle.plan_writer.specs.Write.{Planned, planned, Within, written_size}
use Rattle.sheet.specs.Read.{sheet_format, read_sheet}
use Rattle.sheet_writer.specs.Write.{sheet_size, sheet_write_reply, WritesSheet}
use Rattle.sheet_writer.specs.declared.Unwritten.{Unwritten}

unfoldable pub SheetReadsBack : Type 0
SheetReadsBack =
    (p : Plan) (before after : List ℕ) (a : Result ℕ Unwritten) (k : ℕ) → WritesSheet (planned p) before a after → sheet_write_reply a ≡ written_size k
    → read_sheet (take k after) ≡ setup_read sheet_format (planned p).lanes p.count k

unfoldable pub SheetWritesBack : Type 0
SheetWritesBack =
    (s : List ℕ) (r : Reading) → setup_reply (Ok r) ≡ read_sheet s
    → (before after : List ℕ) (a : Result ℕ Unwritten) → WritesSheet (planned r.plan) before a after → length s ≤ length before
    → (sheet_write_reply a ≡ written_size (length s)) × (after ≡ s ++ drop (length s) before)

unfoldable pub SheetSizeMost : Type 0
SheetSizeMost = (p : Planned) → Within p → sheet_size p ≤ 698
