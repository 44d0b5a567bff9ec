-- What is proved of the rules; the proofs have the names of the claims.
--
--   KeepsMakeable   R11.2: every call keeps it
--   ExactlyMade     R11.2: the boards that calls make from the empty board are the makeable ones, both ways
--   Commutes        two records of different trains, one of them on the board, refused records too: the same replies and the same board in either order
--   OneLine         R11.11: an accepted record changes its train's line, or the lowest free one of a new train, and no other
--   ShowsLast       R11.16: what a board shows of a train is its last accepted record since its last clear
--   EndsAtLast      R11.17: after sequence 4,294,967,295 nothing of that train is accepted until it is cleared
--
-- Assumes nothing.
use Rattle.std.specs.Prelude.{ℕ, ◌<◌, ◌≡◌, true, false, ◌⊎◌, List, [], ◌∷◌, length, if◌then◌else◌}
use Rattle.std.proofs.Math.Option.{none, some}
use Rattle.desk.specs.Board.{Handover, Board, empty_board, line_at, is_of, is_free, train_line, train_shown, Makeable}
use Rattle.desk.specs.Calls.{BoardCall, enter_record, clear, told, board_refused, known_kind, board_step, board_after, board_trace, Sayable, AllSayable, MadeBoard, last_of}

abbrev pub KeepsMakeable : Type 0
KeepsMakeable = (b : Board) (c : BoardCall) → Makeable b → Sayable c → Makeable (board_step b c).board

abbrev pub ExactlyMade : Type 0
ExactlyMade = (b : Board) → (MadeBoard b → Makeable b) × (Makeable b → MadeBoard b)

-- q and then r, or r and then q
pub record InEitherOrder (b : Board) (q r : Handover) : Type 0 where
  pub reply_q : (board_step (board_step b (enter_record r)).board (enter_record q)).reply ≡ (board_step b (enter_record q)).reply
  pub reply_r : (board_step (board_step b (enter_record q)).board (enter_record r)).reply ≡ (board_step b (enter_record r)).reply
  pub board : (board_step (board_step b (enter_record q)).board (enter_record r)).board ≡ (board_step (board_step b (enter_record r)).board (enter_record q)).board

-- R11.15: r's train may be on the board or new. (Two new trains do not commute: the first takes the lower line.)
abbrev pub Commutes : Type 0
Commutes = (b : Board) (q r : Handover) → (q.train ≡ r.train → ⊥) → train_line q.train b < length b → InEitherOrder b q r

-- what an accepted record leaves of a board: line k is the record, and the rest is as it was
pub record Changes (b : Board) (r : Handover) (k : ℕ) (b' : Board) : Type 0 where
  pub new : line_at b' k ≡ some r
  pub others : (j : ℕ) → (j ≡ k → ⊥) → line_at b' j ≡ line_at b j
  pub size : length b' ≡ length b
  -- the line was this train's, or the train was on no line and this was the lowest free one
  pub was : (is_of r.train (line_at b k) ≡ true) ⊎ (((j : ℕ) → is_of r.train (line_at b j) ≡ false) × (is_free (line_at b k) ≡ true) × ((j : ℕ) → j < k → is_free (line_at b j) ≡ false))

abbrev pub OneLine : Type 0
OneLine = (b : Board) (r : Handover) (k : ℕ) → (board_step b (enter_record r)).reply ≡ told k → Changes b r k (board_step b (enter_record r)).board

abbrev pub ShowsLast : Type 0
ShowsLast =
    (cs : List BoardCall) (t : ℕ) → AllSayable cs
    → (train_shown t (board_after empty_board cs) ≡ last_of t none (board_trace empty_board cs))
    × ((j k : ℕ) → is_of t (line_at (board_after empty_board cs) j) ≡ true → is_of t (line_at (board_after empty_board cs) k) ≡ true → j ≡ k)

-- no call of the list clears train t
unfoldable pub NotCleared : ℕ → List BoardCall → Type 0
NotCleared t [] = Unit {0}
NotCleared t (c ∷ cs) = (c ≡ clear t → ⊥) × NotCleared t cs

-- R11.17: the board b shows o, which has the greatest sequence
pub record Ended (b : Board) (o : Handover) : Type 0 where
  -- every record of the train is refused by 32, or by 30 which goes before it
  pub refuses : (r : Handover) → r.train ≡ o.train → board_step b (enter_record r) ≡ record { reply = board_refused (if known_kind r.kind then 32 else 30); board = b }
  -- its line stays, whatever the calls are, until it is cleared
  pub stays : (cs : List BoardCall) → AllSayable cs → NotCleared o.train cs → train_shown o.train (board_after b cs) ≡ some o
  -- a leave is cleared: then the train is on no line, and begins anew (R11.9)
  pub left : o.kind ≡ 2 → train_shown o.train (board_step b (clear o.train)).board ≡ none
  -- a join is not: its line stays for good
  pub joined : o.kind ≡ 1 → (cs : List BoardCall) → AllSayable cs → train_shown o.train (board_after b cs) ≡ some o

abbrev pub EndsAtLast : Type 0
EndsAtLast = (b : Board) (o : Handover) → Makeable b → train_shown o.train b ≡ some o → o.sequence ≡ 4294967295 → Ended b o
