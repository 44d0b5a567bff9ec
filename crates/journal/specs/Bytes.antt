-- What follows for the bytes of a board; R11.18: nothing is left open.
--
--   Exact29           R11.4, R14.28: 29 is answered exactly where no board that calls make is written in the bytes
--   EachMade          every board that calls make is shown by some bytes, in any slice that has room
--   OneBoard          bytes show one board at most; bytes that show the same board have the same words
--   OneRecordAnswer   two outcomes that the promise of record allows for the same field on the same bytes: the same answer and the same bytes
--   OneClear          the same for clear
--   AnyOrder          two records of different trains, one of them on the board: the same answers and the same bytes in either order
--
-- Assumes nothing.
use Rattle.std.specs.Prelude.{ℕ, ◌<◌, ◌≡◌, List, length, drop}
use Rattle.std.proofs.Math.Option.{none}
use Rattle.words.specs.Words.{word_at}
use Rattle.desk.specs.Board.{Handover, Board, train_line}
use Rattle.desk.specs.Calls.{BoardCall, enter_record, MadeBoard}
use Rattle.board.specs.Layout.{board_size, BoardRoom, Written, ShowsBoard}
use Rattle.journal.specs.Reads.{Plain, plain_refused, plain_told, shown}
use Rattle.journal.specs.Step.{BoardStep, RecordStep, LineStep}
use Rattle.journal.specs.Reads.{Told}
use Rattle.journal.specs.Reads.{Shown}

-- no list of calls from the empty board makes a board that is written there
abbrev pub NotMade : List ℕ → Type 0
NotMade t = (b : Board) → Written t b → MadeBoard b → ⊥

pub record Exactly29 (a : Plain) (t : List ℕ) : Type 0 where
  pub only : a ≡ plain_refused 29 none → NotMade t
  pub always : NotMade t → a ≡ plain_refused 29 none

pub record Exact29 : Type 0 where
  pub record_call : (s t : List ℕ) (a : Told) (u : List ℕ) → RecordStep s t a u → Exactly29 (plain_told a) t
  pub clear_call : (c : BoardCall) (t : List ℕ) (a : Told) (u : List ℕ) → BoardStep c t a u → Exactly29 (plain_told a) t
  pub line_call : (k : ℕ) (t : List ℕ) (a : Shown) → LineStep k t a → Exactly29 (shown a) t

abbrev pub EachMade : Type 0
EachMade = (b : Board) → MadeBoard b → (t : List ℕ) → BoardRoom t → (u : List ℕ) × ShowsBoard u b × (drop board_size u ≡ drop board_size t) × (length u ≡ length t)

abbrev pub OneBoard : Type 0
OneBoard =
    ((t : List ℕ) (b c : Board) → ShowsBoard t b → ShowsBoard t c → b ≡ c)
    × ((u v : List ℕ) (b : Board) → ShowsBoard u b → ShowsBoard v b → (i : ℕ) → i < 128 → word_at u i ≡ word_at v i)

abbrev pub OneRecordAnswer : Type 0
OneRecordAnswer = (s t : List ℕ) (a a' : Told) (u u' : List ℕ) → RecordStep s t a u → RecordStep s t a' u' → (plain_told a ≡ plain_told a') × (u ≡ u')

abbrev pub OneClear : Type 0
OneClear = (c : BoardCall) (t : List ℕ) (a a' : Told) (u u' : List ℕ) → BoardStep c t a u → BoardStep c t a' u' → (plain_told a ≡ plain_told a') × (u ≡ u')

-- R11.15: the bytes t, then the record q and the record r; and r and then q
abbrev pub AnyOrder : Type 0
AnyOrder =
    (t : List ℕ) (b : Board) (q r : Handover) → ShowsBoard t b → (q.train ≡ r.train → ⊥) → train_line q.train b < length b
    → (a₁ a₂ c₁ c₂ : Told) (t₁ t₂ u₁ u₂ : List ℕ)
    → BoardStep (enter_record q) t a₁ t₁ → BoardStep (enter_record r) t₁ a₂ t₂ → BoardStep (enter_record r) t c₁ u₁ → BoardStep (enter_record q) u₁ c₂ u₂
    → (plain_told a₁ ≡ plain_told c₂) × (plain_told a₂ ≡ plain_told c₁) × (t₂ ≡ u₂)
