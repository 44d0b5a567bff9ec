-- The calls on a board, and lists of them.
--
--   BoardCall, BoardReply, BoardOutcome   the two calls; the line that an accepted one changed, or a refusal's number; the reply and the board after it
--   record_refusal                         the number that refuses a record, in the list's order: 30, 31, 32, 33
--   target                                R11.11: the line that an accepted record changes
--   board_step                             R11.11: one call
--   board_after, board_trace                a list of calls, each on the board that the last one left
--   MadeBoard                             a list of calls from the empty board makes it
--   last_of                                a train's last accepted record since its last clear, from the calls and their replies alone
--
-- 29 and 1 to 3 are of bytes and fields, which these rules know nothing of. Assumes nothing.
use Rattle.std.specs.Prelude.{ℕ, ◌+◌, ◌<◌, ◌≡◌, Bool, true, false, ◌&&◌, ◌||◌, not, List, [], ◌∷◌, eqb, ltb, length, set, if◌then◌else◌}
use Rattle.std.proofs.Math.Option.{Option, none, some}
use Rattle.desk.specs.Board.{Handover, Board, empty_board, line_at, train_line, lowest, InField}

pub data BoardCall : Type 0 where
  enter_record : Handover → BoardCall
  clear : ℕ → BoardCall

pub data BoardReply : Type 0 where
  told : ℕ → BoardReply
  board_refused : ℕ → BoardReply

pub record BoardOutcome : Type 0 where
  pub reply : BoardReply
  pub board : Board

-- ---- a record

-- R11.8: joined, left
abbrev pub known_kind : ℕ → Bool
known_kind n = eqb n 1 || eqb n 2

-- R11.10, R14.32: the next sequence; after the greatest there is none, so it never wraps
abbrev pub in_sequence : Handover → Handover → Bool
in_sequence old r = ltb old.sequence 4294967295 && eqb r.sequence (old.sequence + 1)

-- R11.10, R14.33: a leave comes after a join and of the same cell, a join after a leave
abbrev pub follows : Handover → Handover → Bool
follows old r = if eqb r.kind 2 then eqb old.kind 1 && eqb r.cell old.cell else eqb old.kind 2

-- R11.9, R11.10, R14.31 to R14.33: of a record whose kind is known, by what stands on its train's line (`none`: it is on no line) and whether a line is free
abbrev pub record_judged : Option Handover → Bool → Handover → Option ℕ
record_judged none free r = if not free then some 31 else if eqb r.kind 1 then none else some 33
record_judged (some old) free r = if not (in_sequence old r) then some 32 else if follows old r then none else some 33

-- R11.8, R14.30, R14.42: 30 goes before what `record_judged` finds
unfoldable pub record_refusal : Board → Handover → Option ℕ
record_refusal b r = if not (known_kind r.kind) then some 30 else record_judged (line_at b (train_line r.train b)) (ltb (lowest b) (length b)) r

unfoldable pub target : Board → Handover → ℕ
target b r = if ltb (train_line r.train b) (length b) then train_line r.train b else lowest b

abbrev pub record_entered : Option ℕ → Board → ℕ → Handover → BoardOutcome
record_entered none b k r = record { reply = told k; board = set b k (some r) }
record_entered (some n) b k r = record { reply = board_refused n; board = b }

-- ---- a clear

-- R11.12, R14.34
abbrev pub left : Option Handover → Bool
left none = false
left (some r) = eqb r.kind 2

-- R11.12, R14.34: 34 for a train on no line, whose place holds nothing, and for one that is joined
abbrev pub record_cleared : Bool → Board → ℕ → BoardOutcome
record_cleared true b k = record { reply = told k; board = set b k none }
record_cleared false b k = record { reply = board_refused 34; board = b }

-- ---- one call, and lists of calls

unfoldable pub board_step : Board → BoardCall → BoardOutcome
board_step b (enter_record r) = record_entered (record_refusal b r) b (target b r) r
board_step b (clear t) = record_cleared (left (line_at b (train_line t b))) b (train_line t b)

unfoldable pub board_after : Board → List BoardCall → Board
board_after b [] = b
board_after b (c ∷ cs) = board_after (board_step b c).board cs

pub record BoardEvent : Type 0 where
  pub call : BoardCall
  pub reply : BoardReply

unfoldable pub board_trace : Board → List BoardCall → List BoardEvent
board_trace b [] = []
board_trace b (c ∷ cs) = record { call = c; reply = (board_step b c).reply } ∷ board_trace (board_step b c).board cs

-- a call that can be made: its record's numbers are a field's
unfoldable pub Sayable : BoardCall → Type 0
Sayable (enter_record r) = InField r
Sayable (clear t) = t < 4294967296

unfoldable pub AllSayable : List BoardCall → Type 0
AllSayable [] = Unit {0}
AllSayable (c ∷ cs) = Sayable c × AllSayable cs

pub record MadeBoard (b : Board) : Type 0 where
  pub calls : List BoardCall
  pub sayable : AllSayable calls
  pub makes : board_after empty_board calls ≡ b

-- ---- what the calls and replies alone say of a train

abbrev pub is_told : BoardReply → Bool
is_told (told k) = true
is_told (board_refused n) = false

-- what a call that was accepted leaves of train t, where `old` was there
abbrev pub noted : ℕ → Option Handover → BoardCall → Option Handover
noted t old (enter_record r) = if eqb r.train t then some r else old
noted t old (clear u) = if eqb u t then none else old

unfoldable pub last_of : ℕ → Option Handover → List BoardEvent → Option Handover
last_of t old [] = old
last_of t old (e ∷ es) = last_of t (if is_told e.reply then noted t old e.call else old) es
