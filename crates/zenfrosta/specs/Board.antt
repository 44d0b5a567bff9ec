-- How the board's answers cross to a host: a code, and four words in a lent buffer, as in Crossing.
--
--   board_code, board_values   of an answer: 0 or the refusal's number; what stands in the four words
--   CrossesBegin, CrossesRecord, CrossesClear, CrossesLine   the promises of zf_board_begin, zf_board_record, zf_board_clear and zf_board_line
--
-- Assumes nothing.
use Rattle.std.specs.Prelude.{ℕ, ◌≡◌, List}
use Rattle.std.proofs.Math.Option.{none, some}
use Rattle.desk.specs.Calls.{clear}
use Rattle.journal.specs.Reads.{Plain, line, stands, begun, plain_refused, plain_told, shown, beginning}
use Rattle.journal.specs.Step.{BoardStep, RecordStep, LineStep, BeginStep}
use Rattle.zenfrosta.specs.Crossing.{four, refusal_words, Crosses}
use Rattle.zenfrosta.specs.declared.Four.{Four}

abbrev pub board_code : Plain → ℕ
board_code (line k) = 0
board_code (stands x) = 0
board_code begun = 0
board_code (plain_refused n p) = n

-- R13.5. The line that was changed. What stands on a line: kind, train, cell, sequence, all 0 where it is free. A refusal as in every call.
abbrev pub board_values : Plain → Four
board_values (line k) = four k 0 0 0
board_values (stands none) = four 0 0 0 0
board_values (stands (some r)) = four r.kind r.train r.cell r.sequence
board_values begun = four 0 0 0 0
board_values (plain_refused n p) = refusal_words p

-- R13.5
abbrev pub CrossesBegin : (board board' out : List ℕ) (r : ℕ) (out' : List ℕ) → Type 0
CrossesBegin board board' out r out' =
    Crosses (λ a. board_code (beginning a)) (λ a. board_values (beginning a)) (λ a. BeginStep board a board') (board' ≡ board) out r out'

-- R13.5
abbrev pub CrossesRecord : (field board board' out : List ℕ) (r : ℕ) (out' : List ℕ) → Type 0
CrossesRecord field board board' out r out' =
    Crosses (λ a. board_code (plain_told a)) (λ a. board_values (plain_told a)) (λ a. RecordStep field board a board') (board' ≡ board) out r out'

-- R13.5
abbrev pub CrossesClear : (train : ℕ) (board board' out : List ℕ) (r : ℕ) (out' : List ℕ) → Type 0
CrossesClear train board board' out r out' =
    Crosses (λ a. board_code (plain_told a)) (λ a. board_values (plain_told a)) (λ a. BoardStep (clear train) board a board') (board' ≡ board) out r out'

-- R13.5: the board is lent to be read, so there is no byte of it that could change
abbrev pub CrossesLine : (line : ℕ) (board out : List ℕ) (r : ℕ) (out' : List ℕ) → Type 0
CrossesLine k board out r out' = Crosses (λ a. board_code (shown a)) (λ a. board_values (shown a)) (LineStep k board) (Unit {0}) out r out'
