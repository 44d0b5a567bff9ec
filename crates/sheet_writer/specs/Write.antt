-- Writing a sheet (R12.8): the promise of `write_sheet`. What the sheet of a plan is, `sheet_bytes`, is the reader's (crate `sheet`, specs/Text.antt), and which
-- plans are within the numbers the setup writer's (crate `plan_writer`, specs/Write.antt).
--
--   sheet_of       the sheet of a plan; sheet_size: how many bytes it has
--   WritesSheet   the promise: what is answered, and the buffer after it, for every plan and every buffer
--
-- Assumes nothing.
use Rattle.std.specs.Prelude.{ℕ, ◌≤◌, ◌<◌, ◌≡◌, List, ◌++◌, length, drop, Result, Ok, Err}
use Rattle.rules.specs.Setup.{framing_of}
use Rattle.plan_writer.specs.Write.{Planned, Within, WriteReply, written_size, not_written, shareds}
use Rattle.sheet.specs.Text.{sheet_bytes}
use Rattle.sheet_writer.specs.declared.Unwritten.{Unwritten}
use Rattle.sheet_writer.specs.declared.Unwritten.TheVariants.{Outside, NoSheet, Short}

-- R12.7. A line for each lane, by number.
abbrev pub sheet_of : Planned → List ℕ
sheet_of p = sheet_bytes p.lanes

abbrev pub sheet_size : Planned → ℕ
sheet_size p = length (sheet_of p)

-- A sheet says nothing of framing bytes and of shared lanes.
abbrev pub Bare : Planned → Type 0
Bare p = (framing_of p.lanes ≡ 0) × (shareds p.lanes ≡ 0)

abbrev pub unwritten_sheet_number : Unwritten → ℕ
unwritten_sheet_number Outside = 55
unwritten_sheet_number NoSheet = 82
unwritten_sheet_number Short = 56

-- The code's answer. These refusals have no place.
abbrev pub sheet_write_reply : Result ℕ Unwritten → WriteReply
sheet_write_reply (Ok n) = written_size n
sheet_write_reply (Err x) = not_written (unwritten_sheet_number x)

-- R14.16, R14.17, R14.21, R14.41. A plan outside the numbers is refused by 55, whatever else; one within them that has framing bytes or a shared lane by 82;
-- one that a sheet can say by 56 where the buffer is shorter than its exact size; the buffer stays for all three. Else the answer is the size, the sheet stands
-- first in the buffer, and the bytes past it stay.
pub record WritesSheet (p : Planned) (before : List ℕ) (answer : Result ℕ Unwritten) (after : List ℕ) : Type 0 where
  pub outside : (Within p → ⊥) → (sheet_write_reply answer ≡ not_written 55) × (after ≡ before)
  pub no_sheet : Within p → (Bare p → ⊥) → (sheet_write_reply answer ≡ not_written 82) × (after ≡ before)
  pub short : Within p → Bare p → length before < sheet_size p → (sheet_write_reply answer ≡ not_written 56) × (after ≡ before)
  pub written : Within p → Bare p → sheet_size p ≤ length before → (sheet_write_reply answer ≡ written_size (sheet_size p)) × (after ≡ sheet_of p ++ drop (sheet_size p) before)
