-- What follows for the bytes of a board. Assumes nothing.
use Prim.Native.Nat.{ℕ, zero, suc, ◌+◌, ◌*◌, ◌/◌, ◌%◌, ◌≤◌, ◌<◌}
use native.Mathlib.Omega.{arith}
use mathlib.Core.Path.{◌≡◌, refl, sym, ap, ◌∙◌, subst}
use mathlib.Core.Logic.{◌⊎◌, inl, inr, ⊎_elim}
use mathlib.Core.List.{List}
use mathlib.Core.Option.{Option, none, some}
use lib.ListN.{length, drop}
use Rattle.words.specs.Words.{word_at, put_word}
use Rattle.words.proofs.Runs.{le-or-lt, eq-or-ne}
use Rattle.words.proofs.Laws.{length-put_word, word_at-put_word-same, word_at-put_word-other}
use Rattle.desk.specs.Board.{Handover, Board, line_at, Makeable}
use Rattle.desk.specs.Calls as Calls
use Rattle.desk.specs.Calls.{BoardCall, BoardReply, enter_record, board_step}
use Rattle.desk.proofs.Made.{exactly-made}
use Rattle.desk.proofs.Commute.{commutes, lines-differ}
use Rattle.board.specs.Layout.{BoardRoom, train_word, cell_word, put_line, Written, ShowsBoard, board_of, NoBoard}
use Rattle.board.proofs.Means.{shows-is}
use Rattle.board.proofs.Stores.{words-fit, put-size, put_rest, put_other}
use Rattle.board.proofs.Order.{lines-either}
use Rattle.board.proofs.Decided.{decided}
use Rattle.journal.specs.Reads.{Plain, plain_refused, plain_told, shown, from_rules}
use Rattle.journal.specs.Record.{Reading, says, faulty, read_record}
use Rattle.journal.specs.Reads.{Told}
use Rattle.journal.specs.Step.{stored, Stays, Kept, BoardStep, RecordSays}
use Rattle.journal.specs.Bytes.{Exactly29, Exact29, EachMade, OneBoard, OneRecordAnswer, OneClear, AnyOrder}
use Rattle.journal.proofs.Numbers.{rules-not-29, stands-not-29, field-not-29}

-- ---- one encoding

-- word i of a board
word_of : (u v : List ℕ) (b : Board) → ShowsBoard u b → ShowsBoard v b → (i : ℕ) → i < 128 → (i ≡ i / 2 * 2) ⊎ (i ≡ i / 2 * 2 + 1) → word_at u i ≡ word_at v i
word_of u v b s w i h (inl e) = ap (word_at u) e ∙ s.trains (i / 2) (omega arith) ∙ sym (w.trains (i / 2) (omega arith)) ∙ ap (word_at v) (sym e)
word_of u v b s w i h (inr e) = ap (word_at u) e ∙ s.cells (i / 2) (omega arith) ∙ sym (w.cells (i / 2) (omega arith)) ∙ ap (word_at v) (sym e)

even-or-odd : (i : ℕ) → (i ≡ i / 2 * 2) ⊎ (i ≡ i / 2 * 2 + 1)
even-or-odd i = ⊎_elim (λ (h : i % 2 ≤ 0). inl (omega arith)) (λ (h : 0 < i % 2). inr (omega arith)) (le-or-lt (i % 2) 0)

pub one-board : OneBoard
one-board = (λ t b c s w. sym (shows-is t b s) ∙ shows-is t c w, λ u v b s w i h. word_of u v b s w i h (even-or-odd i))

-- ---- a board's bytes

abbrev written : ℕ → Board → List ℕ → List ℕ
written zero b t = t
written (suc n) b t = put_line (written n b t) n (line_at b n)

written-size : (n : ℕ) (b : Board) (t : List ℕ) → n ≤ 64 → length (written n b t) ≡ length t
written-size zero b t h = refl
written-size (suc n) b t h = put-size (written n b t) n (line_at b n) (omega arith) ∙ written-size n b t (omega arith)

written-rest : (n : ℕ) (b : Board) (t : List ℕ) → n ≤ 64 → drop 1024 (written n b t) ≡ drop 1024 t
written-rest zero b t h = refl
written-rest (suc n) b t h = put_rest (written n b t) n (line_at b n) (omega arith) ∙ written-rest n b t (omega arith)

written-words : (n : ℕ) (b : Board) (t : List ℕ) → n ≤ 64 → BoardRoom t → Makeable b → (k : ℕ) → k < n
    → (word_at (written n b t) (k * 2) ≡ train_word (line_at b k)) × (word_at (written n b t) (k * 2 + 1) ≡ cell_word (line_at b k))
written-words zero b t h room m k q = absurd (omega arith)
written-words (suc n) b t h room m k q =
    let w = written n b t in
    let x = line_at b n in
    let f = words-fit x (m.fine n) in
    let z = written-size n b t (omega arith) in
    ⊎_elim
    (λ (e : k ≡ n). rw e (word_at-put_word-other (put_word w (n * 2) (train_word x)) (n * 2 + 1) (n * 2) (cell_word x) (λ y. omega arith) ∙ word_at-put_word-same w (n * 2) (train_word x) (omega arith) f.0, word_at-put_word-same (put_word w (n * 2) (train_word x)) (n * 2 + 1) (cell_word x) (rw length-put_word (omega arith)) f.1))
    (λ (d : k ≡ n → ⊥).
    let i = written-words n b t (omega arith) room m k (omega arith) in
    (put_other w n x (omega arith) (k * 2) (λ y. d (omega arith)) (λ y. d (omega arith)) ∙ i.0, put_other w n x (omega arith) (k * 2 + 1) (λ y. d (omega arith)) (λ y. d (omega arith)) ∙ i.1))
    (eq-or-ne k n)

pub each-made : EachMade
each-made b made t room =
    let m = (exactly-made b).0 made in
    let s : ShowsBoard (written 64 b t) b = record { room = rw (written-size 64 b t (omega arith)) room; makeable = m; trains = λ k h. (written-words 64 b t (omega arith) room m k h).0; cells = λ k h. (written-words 64 b t (omega arith) room m k h).1 } in
    (written 64 b t, s, written-rest 64 b t (omega arith), written-size 64 b t (omega arith))

-- ---- 29

written-shows : (t : List ℕ) (b : Board) → Written t b → Makeable b → ShowsBoard t b
written-shows t b w m = record { room = w.room; makeable = m; trains = w.trains; cells = w.cells }

shows-written : (t : List ℕ) (b : Board) → ShowsBoard t b → Written t b
shows-written t b s = record { room = s.room; size = s.makeable.size; trains = s.trains; cells = s.cells }

-- an answer that is 29 on no board, and never on a board
exactly : (a : Plain) (t : List ℕ) → (NoBoard t → a ≡ plain_refused 29 none) → ((b : Board) → ShowsBoard t b → a ≡ plain_refused 29 none → ⊥) → Exactly29 a t
exactly a t always never = record {
  only = λ e b w m. never b (written-shows t b w ((exactly-made b).0 m)) e;
  always = λ n. always (λ b s. n b (shows-written t b s) ((exactly-made b).1 s.makeable));
}

step-29 : (c : BoardCall) (t : List ℕ) (a : Told) (u : List ℕ) → BoardStep c t a u → Exactly29 (plain_told a) t
step-29 c t a u x = exactly (plain_told a) t x.not_board (λ b s e. rules-not-29 b c (sym (x.reply b s) ∙ e))

says-29 : (s : List ℕ) (g : Reading) → read_record s ≡ g → (t : List ℕ) (a : Told) (u : List ℕ) → RecordSays g t a u → Exactly29 (plain_told a) t
says-29 s (says r) q t a u x = step-29 (enter_record r) t a u x
says-29 s (faulty n p) q t a u x = exactly (plain_told a) t x.0 (λ b h e. field-not-29 s n p q (sym (x.1 b h) ∙ e))

pub exact-29 : Exact29
exact-29 = record {
  record_call = λ s t a u x. says-29 s (read_record s) refl t a u x;
  clear_call = step-29;
  line_call = λ k t a x. exactly (shown a) t x.not_board (λ b s e. stands-not-29 (line_at b k) (sym (x.reply b s) ∙ e));
}

-- ---- nothing is left open

-- a refused call leaves the bytes
pub stayed : (a : Told) (t u : List ℕ) (n : ℕ) (p : Option ℕ) → plain_told a ≡ plain_refused n p → Kept (plain_told a) t u → u ≡ t
stayed a t u n p e k = subst (λ x. Stays x t u) e k.stays

pub one-clear : OneClear
one-clear c t a a' u u' x y =
    ⊎_elim
    (λ (s : ShowsBoard t (board_of t)). (x.reply (board_of t) s ∙ sym (y.reply (board_of t) s), x.bytes (board_of t) s ∙ sym (y.bytes (board_of t) s)))
    (λ (n : NoBoard t). (x.not_board n ∙ sym (y.not_board n), stayed a t u 29 none (x.not_board n) x.kept ∙ sym (stayed a' t u' 29 none (y.not_board n) y.kept)))
    (decided t)

says-one : (g : Reading) (t : List ℕ) (a a' : Told) (u u' : List ℕ) → RecordSays g t a u → RecordSays g t a' u' → (plain_told a ≡ plain_told a') × (u ≡ u')
says-one (says r) t a a' u u' x y = one-clear (enter_record r) t a a' u u' x y
says-one (faulty n p) t a a' u u' x y =
    ⊎_elim
    (λ (s : ShowsBoard t (board_of t)). let e = x.1 (board_of t) s in let f = y.1 (board_of t) s in (e ∙ sym f, stayed a t u n p e x.2 ∙ sym (stayed a' t u' n p f y.2)))
    (λ (m : NoBoard t). let e = x.0 m in let f = y.0 m in (e ∙ sym f, stayed a t u 29 none e x.2 ∙ sym (stayed a' t u' 29 none f y.2)))
    (decided t)

pub one_answer : OneRecordAnswer
one_answer s t a a' u u' x y = says-one (read_record s) t a a' u u' x y

-- ---- in either order

stores-either : (q r : Handover) (x y : BoardReply) (t : List ℕ) → ((j k : ℕ) → x ≡ Calls.told j → y ≡ Calls.told k → j ≡ k → ⊥)
    → stored (enter_record r) y (stored (enter_record q) x t) ≡ stored (enter_record q) x (stored (enter_record r) y t)
stores-either q r (Calls.told j) (Calls.told k) t n = lines-either t j k (some q) (some r) (n j k refl refl)
stores-either q r (Calls.told j) (Calls.board_refused m) t n = refl
stores-either q r (Calls.board_refused m) (Calls.told k) t n = refl
stores-either q r (Calls.board_refused m) (Calls.board_refused l) t n = refl

pub any_order : AnyOrder
any_order t b q r s n hq a₁ a₂ c₁ c₂ t₁ t₂ u₁ u₂ x₁ x₂ y₁ y₂ =
    let e = commutes b q r n hq in
    let bq = (board_step b (enter_record q)).board in
    let br = (board_step b (enter_record r)).board in
    let s₁ = x₁.board b s in
    let w₁ = y₁.board b s in
    let ρ = (board_step b (enter_record q)).reply in
    let π = (board_step b (enter_record r)).reply in (
      x₁.reply b s ∙ ap from_rules (sym e.reply_q) ∙ sym (y₂.reply br w₁),
      x₂.reply bq s₁ ∙ ap from_rules e.reply_r ∙ sym (y₁.reply b s),
      x₂.bytes bq s₁ ∙ ap (λ z. stored (enter_record r) z t₁) e.reply_r ∙ ap (stored (enter_record r) π) (x₁.bytes b s)
          ∙ stores-either q r ρ π t (λ j k f g. lines-differ b q r j k n hq f g)
          ∙ sym (y₂.bytes br w₁ ∙ ap (λ z. stored (enter_record q) z u₁) e.reply_q ∙ ap (stored (enter_record q) ρ) (y₁.bytes b s)),
    )
