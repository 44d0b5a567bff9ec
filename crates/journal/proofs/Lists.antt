-- What a board shows after a list of public calls. Assumes nothing.
use Prim.Native.Nat.{ℕ, ◌≤◌, ◌<◌}
use native.Mathlib.Omega.{arith}
use mathlib.Core.Path.{◌≡◌, refl, sym, ap, subst, ◌∙◌}
use mathlib.Core.Logic.{⊎_elim}
use mathlib.Core.List.{List}
use mathlib.Core.Option.{Option, none, some}
use lib.ListN.{length}
use Rattle.std.specs.Prelude.{Ok}
use Rattle.std.specs.Prelude.{if◌then◌else◌}
use Rattle.words.proofs.Runs.{le-or-lt}
use Rattle.desk.specs.Board.{Handover, Board, empty_board, line_at, train_line}
use Rattle.desk.specs.Board as Board
use Rattle.desk.specs.Calls.{BoardCall, BoardReply, enter_record, clear, board_step, is_told, noted}
use Rattle.desk.specs.Calls as Calls
use Rattle.desk.proofs.Lines.{beyond, of-made, place_is_lem}
use Rattle.desk.proofs.Keep.{empty-line}
use Rattle.desk.proofs.Shows.{shown-step}
use Rattle.board.specs.Layout.{BoardRoom, ShowsBoard}
use Rattle.journal.specs.Reads.{plain_refused, plain_told, shown, from_rules, stands, begun}
use Rattle.journal.specs.Record.{Reading, says, faulty, read_record}
use Rattle.journal.specs.Step.{BoardStep, RecordSays, LineStep, BeginStep}
use Rattle.journal.specs.Lists.{Asked, recorded, cleared, JournalEvent, JournalStep, JournalChain, done, next, line_accepted, note, last_said, Never29, JournalShowsLast}
use Rattle.journal.specs.Reads.{Told}
use Rattle.journal.specs.Reads.{Shown}
use Rattle.journal.proofs.Numbers.{rules-not-29, stands-not-29, field-not-29}
use Rattle.journal.proofs.Bytes.{stayed}

accepted-told : (x : BoardReply) → is_told x ≡ line_accepted (from_rules x)
accepted-told (Calls.told k) = refl
accepted-told (Calls.board_refused n) = refl

-- ---- one call

-- what a call with the answer a, which asked c, leaves of the board b
pub record After (b : Board) (c : Asked) (a : Told) (u : List ℕ) : Type 0 where
  pub board : Board
  pub shows : ShowsBoard u board
  pub shown_of : (v : ℕ) → Board.train_shown v board ≡ (if line_accepted (plain_told a) then note v (Board.train_shown v b) c else Board.train_shown v b)
  pub not_29 : plain_told a ≡ plain_refused 29 none → ⊥

-- a call of the rules
rules-after : (b : Board) (c : BoardCall) (t : List ℕ) (a : Told) (u : List ℕ) → ShowsBoard t b → BoardStep c t a u → (v : ℕ)
    → Board.train_shown v (board_step b c).board ≡ (if line_accepted (plain_told a) then noted v (Board.train_shown v b) c else Board.train_shown v b)
rules-after b c t a u s x v =
    shown-step b c v s.makeable (x.board b s).makeable
    ∙ ap (λ z. if z then noted v (Board.train_shown v b) c else Board.train_shown v b) (accepted-told (board_step b c).reply ∙ ap line_accepted (sym (x.reply b s)))

read-after : (b : Board) (s : List ℕ) (g : Reading) → read_record s ≡ g → (t : List ℕ) (a : Told) (u : List ℕ) → ShowsBoard t b → RecordSays g t a u → After b (recorded s) a u
read-after b s (says r) q t a u h x = record {
  board = (board_step b (enter_record r)).board;
  shows = x.board b h;
  shown_of = λ v. rw q (rules-after b (enter_record r) t a u h x v);
  not_29 = λ e. rules-not-29 b (enter_record r) (sym (x.reply b h) ∙ e);
}
read-after b s (faulty n p) q t a u h x =
    let e = x.1 b h in
    record {
      board = b;
      shows = subst (λ w. ShowsBoard w b) (sym (stayed a t u n p e x.2)) h;
      shown_of = λ v. rw e;
      not_29 = λ f. field-not-29 s n p q (sym e ∙ f);
    }

pub after_one : (b : Board) (c : Asked) (t : List ℕ) (a : Told) (u : List ℕ) → ShowsBoard t b → JournalStep c t a u → After b c a u
after_one b (recorded s) t a u h x = read-after b s (read_record s) refl t a u h x
after_one b (cleared n) t a u h x = record {
  board = (board_step b (clear n)).board;
  shows = x.board b h;
  shown_of = λ v. rules-after b (clear n) t a u h x v;
  not_29 = λ e. rules-not-29 b (clear n) (sym (x.reply b h) ∙ e);
}

-- ---- lists of calls

pub record Run (b : Board) (es : List JournalEvent) (u : List ℕ) : Type 0 where
  pub board : Board
  pub shows : ShowsBoard u board
  pub shown_of : (v : ℕ) → Board.train_shown v board ≡ last_said v (Board.train_shown v b) es
  pub never : Never29 es

runs : (b : Board) {t u : List ℕ} {es : List JournalEvent} → ShowsBoard t b → JournalChain t es u → Run b es u
unfolding last_said Never29
runs b s done = record { board = b; shows = s; shown_of = λ v. refl; never = tt }
runs b s (next {es = rest} t u c a x ch) =
    let o = after_one b c t a u s x in
    let r = runs o.board o.shows ch in
    record { board = r.board; shows = r.shows; shown_of = λ v. r.shown_of v ∙ ap (λ z. last_said v z rest) (o.shown_of v); never = (o.not_29, r.never) }

-- ---- what the lines answer

some_of : (x : Option Handover) (r : Handover) → stands x ≡ stands (some r) → x ≡ some r
some_of x r e = cc

module _ (b : Board) (u : List ℕ) (s : ShowsBoard u b) where
  line-is : (k : ℕ) (a : Shown) (r : Handover) → LineStep k u a → shown a ≡ stands (some r) → line_at b k ≡ some r
  line-is k a r x e = some_of (line_at b k) r (sym (x.reply b s) ∙ e)

  at_place : (k : ℕ) (r : Handover) → line_at b k ≡ some r → Board.train_shown r.train b ≡ some r
  at_place k r e = ap (line_at b) (place_is_lem b r.train k s.makeable (of-made (line_at b k) r r.train e refl)) ∙ e

  on_line : (t : ℕ) (r : Handover) → Board.train_shown t b ≡ some r → train_line t b < 64
  on_line t r e =
      ⊎_elim
      (λ (h : length b ≤ train_line t b). let z : ◌≡◌ {A = ℕ} 0 1 = cc (e, beyond b (train_line t b) h) in absurd (omega arith))
      (λ (h : train_line t b < length b). omega (arith, s.makeable.size))
      (le-or-lt (length b) (train_line t b))

-- ---- from a board that begin left

pub from-begin : (t₀ t u : List ℕ) (es : List JournalEvent) → BeginStep t₀ (Ok tt) t → JournalChain t es u → Run empty_board es u
from-begin t₀ t u es x ch =
    let room : BoardRoom t₀ = ⊎_elim (λ (h : 1024 ≤ length t₀). h) (λ (h : length t₀ < 1024). absurd (begun-not (x.short (λ (g : 1024 ≤ length t₀). omega arith)))) (le-or-lt 1024 (length t₀)) in
    runs empty_board (x.done room).1 ch
  where
    begun-not : begun ≡ plain_refused 7 (some 0) → ⊥
    begun-not e = let z : ◌≡◌ {A = ℕ} 0 1 = cc in omega arith

pub said : {es : List JournalEvent} {u : List ℕ} (r : Run empty_board es u) (v : ℕ) → Board.train_shown v r.board ≡ last_said v none es
said {es} r v = r.shown_of v ∙ ap (λ z. last_said v z es) (empty-line (train_line v empty_board))

pub shows-last : JournalShowsLast
shows-last t₀ t u es x ch =
    let r = from-begin t₀ t u es x ch in
    let b = r.board in
    let s = r.shows in
    record {
      sound = r.never;
      sound_line = λ k a y e. stands-not-29 (line_at b k) (sym (y.reply b s) ∙ e);
      only = λ k a q y e. sym (said r q.train) ∙ at_place b u s k q (line-is b u s k a q y e);
      each = λ v q e. let f = said r v ∙ e in (train_line v b, on_line b u s v q f, λ a y. y.reply b s ∙ ap stands f);
      once = λ j k a c q w y z e f g.
          let i = line-is b u s j a q y e in
          let l = line-is b u s k c w z f in
          s.makeable.once j k w.train (of-made (line_at b j) q w.train i g) (of-made (line_at b k) w w.train l refl);
    }
