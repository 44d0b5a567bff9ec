-- The numbers and places of the answers.
--
--   board_listed          R11.14: a refusal's number, and its place where the list has one
--   Plain                an answer as the rules give it; from_rules: that of a reply of `desk`
--   Told, Shown, Begun     what record and clear, line, and begin answer
--   plain_told, shown, beginning   an answer of a call, read
--
-- Assumes nothing.
use Rattle.std.specs.Prelude as core
use Rattle.std.specs.Prelude.{ℕ, Some, None, Result, Ok, Err}
use Rattle.std.proofs.Math.Option.{Option, none, some}
use Rattle.desk.specs.Board.{Handover}
use Rattle.desk.specs.Calls as Calls
use Rattle.desk.specs.Calls.{BoardReply}
use Rattle.journal.specs.declared.Refusal.{Refusal}
use Rattle.journal.specs.declared.Refusal.TheVariants.{Cut, UnknownTag, WrongLength, BoardShort, NotABoard, KindUnknown, NoFreeLine, OutOfTurn, DoesNotFollow, NotCleared}
use Rattle.desk_line.specs.declared.Line.{Line}

abbrev pub board_listed : Refusal → ℕ × Option ℕ
board_listed (Cut p) = (1, some p)
board_listed (UnknownTag p) = (2, some p)
board_listed (WrongLength p) = (3, some p)
board_listed BoardShort = (7, some 0)
board_listed NotABoard = (29, none)
board_listed KindUnknown = (30, none)
board_listed NoFreeLine = (31, none)
board_listed OutOfTurn = (32, none)
board_listed DoesNotFollow = (33, none)
board_listed NotCleared = (34, none)

pub data Plain : Type 0 where
  line : ℕ → Plain
  stands : Option Handover → Plain
  begun : Plain
  plain_refused : ℕ → Option ℕ → Plain

abbrev pub refused_by : Refusal → Plain
refused_by x = plain_refused (board_listed x).0 (board_listed x).1

abbrev pub from_rules : BoardReply → Plain
from_rules (Calls.told k) = line k
from_rules (Calls.board_refused n) = plain_refused n none

-- What record and clear answer: the line that was changed.
abbrev pub Told : Type 0
Told = Result ℕ Refusal

-- What line answers: the record that stands there, if one does.
abbrev pub Shown : Type 0
Shown = Result (core.Option Line) Refusal

-- What begin answers.
abbrev pub Begun : Type 0
Begun = Result (Unit {0}) Refusal

abbrev pub plain_told : Told → Plain
plain_told (Ok k) = line k
plain_told (Err x) = refused_by x

abbrev pub shown : Shown → Plain
shown (Ok None) = stands none
shown (Ok (Some l)) = stands (some (record { train = l.train; cell = l.cell; kind = l.kind; sequence = l.sequence }))
shown (Err x) = refused_by x

abbrev pub beginning : Begun → Plain
beginning (Ok done) = begun
beginning (Err x) = refused_by x
