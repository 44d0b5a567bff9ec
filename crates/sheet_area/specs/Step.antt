-- The promises of the two calls on a sheet and a plan area (R12.10), whole: for all bytes and every length.
--
--   SheetReadStep         the promise of `read_sheet`
--   SheetWriteStep        the promise of `write_sheet`
--   SheetAreaWritesBack   a sheet that is read into an area comes back as its own bytes
--   SheetAreaReadsBack    what was written from an area is read, into any area, as the same lanes; the format is not given back
--
-- Theorems of the last two names in small letters are in proofs/Back.antt. Assumes nothing.
use Rattle.std.specs.Prelude.{ℕ, ◌+◌, ◌≤◌, ◌<◌, ◌≡◌, List, ◌++◌, length, drop, take, Result}
use Rattle.words.specs.Words.{word_at}
use Rattle.plan_writer.specs.Write.{written_size, not_written}
use Rattle.plan_area.specs.Area.{AreaRoom, plan_in, AreaWithin}
use Rattle.plan_area.specs.Step.{area_lanes, area_reply, AreaRead}
use Rattle.rules.specs.declared.Refusal.{Refusal}
use Rattle.sheet.specs.Read.{read_sheet}
use Rattle.sheet_writer.specs.Write.{sheet_of, sheet_size, Bare, sheet_write_reply}
use Rattle.sheet_writer.specs.declared.Unwritten.{Unwritten}

-- R14.41
abbrev pub SheetReadStep : (s before : List ℕ) (a : Result ℕ Refusal) (after : List ℕ) → Type 0
SheetReadStep s before a after = AreaRead (read_sheet s) before a after

-- 55 for an area that is no plan within the numbers, whatever else; 82 for a plan with framing bytes or a shared lane; 56 where the buffer is shorter than the
-- exact size; the buffer stays for all three. Else the answer is the size, the sheet stands first, and the bytes past it stay.
pub record SheetWriteStep (a before : List ℕ) (answer : Result ℕ Unwritten) (after : List ℕ) : Type 0 where
  pub outside : (AreaWithin a → ⊥) → (sheet_write_reply answer ≡ not_written 55) × (after ≡ before)
  pub no_sheet : AreaWithin a → (Bare (plan_in a) → ⊥) → (sheet_write_reply answer ≡ not_written 82) × (after ≡ before)
  pub short : AreaWithin a → Bare (plan_in a) → length before < sheet_size (plan_in a) → (sheet_write_reply answer ≡ not_written 56) × (after ≡ before)
  pub written : AreaWithin a → Bare (plan_in a) → sheet_size (plan_in a) ≤ length before
      → (sheet_write_reply answer ≡ written_size (sheet_size (plan_in a))) × (after ≡ sheet_of (plan_in a) ++ drop (sheet_size (plan_in a)) before)

unfoldable pub SheetAreaWritesBack : Type 0
SheetAreaWritesBack =
    (s area area' : List ℕ) (g : Result ℕ Refusal) (n : ℕ) → SheetReadStep s area g area' → area_reply g ≡ area_lanes n
    → (before after : List ℕ) (a : Result ℕ Unwritten) → SheetWriteStep area' before a after → length s ≤ length before
    → (sheet_write_reply a ≡ written_size (length s)) × (after ≡ s ++ drop (length s) before)

unfoldable pub SheetAreaReadsBack : Type 0
SheetAreaReadsBack =
    (area before after : List ℕ) (a : Result ℕ Unwritten) (k : ℕ) → SheetWriteStep area before a after → sheet_write_reply a ≡ written_size k
    → (area₁ area₂ : List ℕ) (g : Result ℕ Refusal) → AreaRoom area₁ → SheetReadStep (take k after) area₁ g area₂
    → (area_reply g ≡ area_lanes (plan_in area).count) × ((i : ℕ) → i < 64 → word_at area₂ (i + 1) ≡ word_at area (i + 1))
