-- The promises of the public calls, whole: for every slice, every argument and every answer, refusals included.
--
--   stored       R11.11: the bytes after a call of the rules: one line's two words where it is accepted
--   Kept         R11.14, R15.1: what a call leaves of the bytes: all of them where it refuses, and always those past the board
--   BoardStep    a call of the rules: clear, and record with a field that is read
--   RecordStep   record, by what its field says
--   LineStep     R11.4, R11.13, R14.42: line
--   BeginStep    R11.5, R14.42: begin
--
-- Assumes nothing.
use Rattle.std.specs.Prelude.{ℕ, ◌≡◌, List, length, drop}
use Rattle.std.proofs.Math.Option.{Option, none, some}
use Rattle.desk.specs.Board.{Handover, Board, empty_board, line_at}
use Rattle.desk.specs.Calls as Calls
use Rattle.desk.specs.Calls.{BoardCall, BoardReply, enter_record, clear, board_step}
pub use Rattle.board.specs.Layout.{board_size}
use Rattle.board.specs.Layout.{BoardRoom, put_line, ShowsBoard, NoBoard}
use Rattle.journal.specs.Reads.{Plain, line, stands, begun, plain_refused, from_rules, plain_told, shown, beginning}
use Rattle.journal.specs.Record.{Reading, says, faulty, read_record}
use Rattle.journal.specs.Reads.{Told}
use Rattle.journal.specs.Reads.{Shown}
use Rattle.journal.specs.Reads.{Begun}

-- what an accepted call leaves on its line
abbrev pub leaves : BoardCall → Option Handover
leaves (enter_record r) = some r
leaves (clear u) = none

abbrev pub stored : BoardCall → BoardReply → List ℕ → List ℕ
stored c (Calls.told k) t = put_line t k (leaves c)
stored c (Calls.board_refused n) t = t

-- R14.43: a refusal leaves every byte
abbrev pub Stays : Plain → List ℕ → List ℕ → Type 0
Stays (line k) before after = Unit {0}
Stays (stands x) before after = Unit {0}
Stays begun before after = Unit {0}
Stays (plain_refused n p) before after = after ≡ before

pub record Kept (a : Plain) (before after : List ℕ) : Type 0 where
  pub stays : Stays a before after
  pub rest : drop board_size after ≡ drop board_size before
  pub size : length after ≡ length before

-- R14.42. The call c on the bytes `before` answers a and leaves the bytes `after`.
pub record BoardStep (c : BoardCall) (before : List ℕ) (a : Told) (after : List ℕ) : Type 0 where
  -- R11.4: the test of 29, before all others
  pub not_board : NoBoard before → plain_told a ≡ plain_refused 29 none
  pub reply : (b : Board) → ShowsBoard before b → plain_told a ≡ from_rules (board_step b c).reply
  pub board : (b : Board) → ShowsBoard before b → ShowsBoard after (board_step b c).board
  -- R11.11: an accepted call changes the two words of one line
  pub bytes : (b : Board) → ShowsBoard before b → after ≡ stored c (board_step b c).reply before
  pub kept : Kept (plain_told a) before after

-- R11.7, R14.42: 29 before the numbers of the field, and those before 30 to 33
abbrev pub RecordSays : Reading → List ℕ → Told → List ℕ → Type 0
RecordSays (says r) before a after = BoardStep (enter_record r) before a after
RecordSays (faulty n p) before a after =
    (NoBoard before → plain_told a ≡ plain_refused 29 none)
    × ((b : Board) → ShowsBoard before b → plain_told a ≡ plain_refused n p)
    × Kept (plain_told a) before after

abbrev pub RecordStep : List ℕ → List ℕ → Told → List ℕ → Type 0
RecordStep field before a after = RecordSays (read_record field) before a after

pub record LineStep (k : ℕ) (t : List ℕ) (a : Shown) : Type 0 where
  pub not_board : NoBoard t → shown a ≡ plain_refused 29 none
  pub reply : (b : Board) → ShowsBoard t b → shown a ≡ stands (line_at b k)

pub record BeginStep (before : List ℕ) (a : Begun) (after : List ℕ) : Type 0 where
  -- R14.13: 7, at place 0
  pub short : (BoardRoom before → ⊥) → beginning a ≡ plain_refused 7 (some 0)
  pub done : BoardRoom before → (beginning a ≡ begun) × ShowsBoard after empty_board
  pub kept : Kept (beginning a) before after
