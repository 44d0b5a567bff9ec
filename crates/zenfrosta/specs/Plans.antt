-- How the answers of the calls on plan areas cross to a host: a code, and four words in a lent buffer, as in Crossing.
--
--   read_code, read_values     of reading a setup: 0 or the refusal's number; the number of lanes, or the refusal's place
--   write_code, write_values   of writing one: 0 or the refusal's number, which has no place; the size
--   CrossesSetupRead, CrossesSetupWrite   the promises of zf_setup_read and zf_setup_write
--   CrossesSheetRead, CrossesSheetWrite   the promises of zf_sheet_read and zf_sheet_write
--
-- Assumes nothing.
use Rattle.std.specs.Prelude.{ℕ, ◌≡◌, List}
use Rattle.std.proofs.Math.Option.{none}
use Rattle.plan_writer.specs.Write.{WriteReply, written_size, not_written, write_reply}
use Rattle.plan_area.specs.Step.{AreaReply, area_lanes, area_refused, area_reply, ReadStep, WriteStep}
use Rattle.sheet_writer.specs.Write.{sheet_write_reply}
use Rattle.sheet_area.specs.Step.{SheetReadStep, SheetWriteStep}
use Rattle.zenfrosta.specs.Crossing.{four, refusal_words, Crosses}
use Rattle.zenfrosta.specs.declared.Four.{Four}

abbrev pub read_code : AreaReply → ℕ
read_code (area_lanes n) = 0
read_code (area_refused n p) = n

-- R13.5
abbrev pub read_values : AreaReply → Four
read_values (area_lanes n) = four n 0 0 0
read_values (area_refused n p) = refusal_words p

abbrev pub write_code : WriteReply → ℕ
write_code (written_size n) = 0
write_code (not_written n) = n

-- R13.5
abbrev pub write_values : WriteReply → Four
write_values (written_size n) = four n 0 0 0
write_values (not_written n) = refusal_words none

-- R13.5
abbrev pub CrossesSetupRead : (setup plan plan' out : List ℕ) (r : ℕ) (out' : List ℕ) → Type 0
CrossesSetupRead setup plan plan' out r out' =
    Crosses (λ a. read_code (area_reply a)) (λ a. read_values (area_reply a)) (λ a. ReadStep setup plan a plan') (plan' ≡ plan) out r out'

-- R13.5
abbrev pub CrossesSetupWrite : (plan setup setup' out : List ℕ) (r : ℕ) (out' : List ℕ) → Type 0
CrossesSetupWrite plan setup setup' out r out' =
    Crosses (λ a. write_code (write_reply a)) (λ a. write_values (write_reply a)) (λ a. WriteStep plan setup a setup') (setup' ≡ setup) out r out'

-- R12.10, R13.5
abbrev pub CrossesSheetRead : (sheet plan plan' out : List ℕ) (r : ℕ) (out' : List ℕ) → Type 0
CrossesSheetRead sheet plan plan' out r out' =
    Crosses (λ a. read_code (area_reply a)) (λ a. read_values (area_reply a)) (λ a. SheetReadStep sheet plan a plan') (plan' ≡ plan) out r out'

-- R12.10, R13.5
abbrev pub CrossesSheetWrite : (plan sheet sheet' out : List ℕ) (r : ℕ) (out' : List ℕ) → Type 0
CrossesSheetWrite plan sheet sheet' out r out' =
    Crosses (λ a. write_code (sheet_write_reply a)) (λ a. write_values (sheet_write_reply a)) (λ a. SheetWriteStep plan sheet a sheet') (sheet' ≡ sheet)
    out r out'
