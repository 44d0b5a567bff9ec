-- What the reader of a field answers.
--
--   ReadingIs   the answer is what the field says; a record's numbers are those that a field can carry
--
-- Assumes nothing.
use Rattle.std.specs.Prelude.{ℕ, ◌≡◌, List, Result, Ok, Err}
use Rattle.desk.specs.Board.{InField}
use Rattle.journal.specs.Reads.{board_listed}
use Rattle.journal.specs.Record.{rec_line, says, faulty, read_record}
use Rattle.journal.specs.declared.Refusal.{Refusal}
use Rattle.desk_line.specs.declared.Line.{Line}

abbrev pub ReadingIs : Result Line Refusal → List ℕ → Type 0
ReadingIs (Ok l) s = (read_record s ≡ says (rec_line l)) × InField (rec_line l)
ReadingIs (Err x) s = read_record s ≡ faulty (board_listed x).0 (board_listed x).1
