-- How the public calls meet their promises. Assumes nothing.
use Prim.Native.Nat.{ℕ, ◌+◌, ◌*◌, ◌≤◌, ◌<◌}
use native.Mathlib.Omega.{arith}
use mathlib.Core.Path.{◌≡◌, refl, sym, ap, subst, ◌∙◌}
use mathlib.Core.Bool.{Bool, true, false, not, false≢true}
use mathlib.Core.Logic.{⊎_elim}
use mathlib.Core.List.{List}
use mathlib.Core.Option.{Option, none, some}
use lib.Dec.{eqb}
use lib.ListN.{length, drop, set}
use borrow.Author.Tests.{eq-eqb, ne_eqb}
use Rattle.std.specs.Prelude.{Some, None, Ok, Err}
use Rattle.words.specs.Words.{word_at, put_word}
use Rattle.words.proofs.Runs.{eq-or-ne}
use Rattle.words.proofs.Laws.{length-put_word, word_at-put_word-same, word_at-put_word-other, drop-put_word}
use Rattle.desk.specs.Board.{Handover, Board, line_at, is_of, train_line, Makeable}
use Rattle.desk.specs.Calls.{BoardCall, clear, left, record_cleared, board_step, Sayable}
use Rattle.desk.proofs.Lines.{beyond}
use Rattle.desk.proofs.Keep.{keeps, empty-line, empty-makeable}
use Rattle.board.specs.Layout.{BoardRoom, put_line, ShowsBoard, handover_of, board_of, NoBoard, TellsBoard, Found}
use Rattle.desk_line.specs.declared.Line.{Line}
use Rattle.board.proofs.Means.{board-size, shows-is}
use Rattle.board.proofs.Stores.{put-size, put_rest, put-shows, found_first}
use Rattle.journal.specs.Reads.{Plain, stands, plain_refused, from_rules, plain_told, shown}
use Rattle.journal.specs.Step.{stored, Stays, Kept, BoardStep, LineStep, BeginStep}
use Rattle.journal.specs.declared.Refusal.TheVariants.{BoardShort, NotABoard, NotCleared}
use Rattle.journal.specs.Reads.{Told}
use Rattle.journal.specs.Reads.{Shown}

-- ---- what the test of 29 found

pub found-board : (t : List ℕ) (v : Bool) → TellsBoard v t → not v ≡ false → ShowsBoard t (board_of t)
found-board t true h e = h
found-board t false h e = absurd (false≢true (sym e))

pub found_none : (t : List ℕ) (v : Bool) → TellsBoard v t → not v ≡ true → NoBoard t
found_none t true h e = absurd (false≢true e)
found_none t false h e = h

-- ---- record and clear

pub kept_same : (a : Plain) (t : List ℕ) → Stays a t t → Kept a t t
kept_same a t s = record { stays = s; rest = refl; size = refl }

pub bad-step : (c : BoardCall) (t : List ℕ) → NoBoard t → BoardStep c t (Err NotABoard) t
bad-step c t n = record {
  not_board = λ m. refl;
  reply = λ b s. absurd (n b s);
  board = λ b s. absurd (n b s);
  bytes = λ b s. absurd (n b s);
  kept = kept_same (plain_refused 29 none) t refl;
}

-- a call on the board that the bytes mean
pub does-step : (c : BoardCall) (t : List ℕ) (a : Told) (u : List ℕ) → ShowsBoard t (board_of t) → plain_told a ≡ from_rules (board_step (board_of t) c).reply → ShowsBoard u (board_step (board_of t) c).board → u ≡ stored c (board_step (board_of t) c).reply t → Kept (plain_told a) t u → BoardStep c t a u
does-step c t a u s r n y k = record {
  not_board = λ m. absurd (m (board_of t) s);
  reply = λ b h. subst (λ x. plain_told a ≡ from_rules (board_step x c).reply) (shows-is t b h) r;
  board = λ b h. subst (λ x. ShowsBoard u (board_step x c).board) (shows-is t b h) n;
  bytes = λ b h. subst (λ x. u ≡ stored c (board_step x c).reply t) (shows-is t b h) y;
  kept = k;
}

-- ---- clear

left-kind : (l : Line) (x : Option Handover) → handover_of l ≡ x → eqb l.kind 2 ≡ left x
left-kind l x e = ⊎_elim (λ (z : l.kind ≡ 0). rw (← e, z)) (λ (n : l.kind ≡ 0 → ⊥). rw (← e, ne_eqb l.kind 0 n)) (eq-or-ne l.kind 0)

clear-is : (b : Board) (t k : ℕ) (v : Bool) → train_line t b ≡ k → left (line_at b k) ≡ v → board_step b (clear t) ≡ record_cleared v b k
unfolding board_step
clear-is b t k v p e = rw (p, e)

module _ (t : List ℕ) (u k : ℕ) (s : ShowsBoard t (board_of t)) (f : Found (is_of u) (board_of t) 64 k) where
  at_place : train_line u (board_of t) ≡ k
  at_place = found_first (is_of u) (board_of t) k (board-size t) f

  refused-clear : left (line_at (board_of t) k) ≡ false → BoardStep (clear u) t (Err NotCleared) t
  refused-clear e =
      let q = clear-is (board_of t) u k false at_place e in
      does-step (clear u) t (Err NotCleared) t s (rw q) (rw q s) (rw q) (kept_same (plain_refused 34 none) t refl)

  pub clear-absent : k ≡ 64 → BoardStep (clear u) t (Err NotCleared) t
  clear-absent e = refused-clear (ap left (beyond (board_of t) k (omega (arith, board-size t))))

  pub clear-joined : (l : Line) → handover_of l ≡ line_at (board_of t) k → (l.kind ≡ 2 → ⊥) → BoardStep (clear u) t (Err NotCleared) t
  clear-joined l e n = refused-clear (sym (left-kind l (line_at (board_of t) k) e) ∙ ne_eqb l.kind 2 n)

  pub clear-done : (l : Line) → handover_of l ≡ line_at (board_of t) k → l.kind ≡ 2 → k < 64 → u < 4294967296 → BoardStep (clear u) t (Ok k) (put_line t k none)
  unfolding Sayable
  clear-done l e two h w =
      let q = clear-is (board_of t) u k true at_place (sym (left-kind l (line_at (board_of t) k) e) ∙ eq-eqb l.kind 2 two) in
      let m : Makeable (set (board_of t) k none) = (rw q at (keeps (board_of t) (clear u) s.makeable w)) in
      does-step (clear u) t (Ok k) (put_line t k none) s (rw q) (rw q (put-shows t k none h (board_of t) s m)) (rw q) (record { stays = tt; rest = put_rest t k none h; size = put-size t k none h })

-- ---- line

pub line-bad : (k : ℕ) (t : List ℕ) → NoBoard t → LineStep k t (Err NotABoard)
line-bad k t n = record { not_board = λ m. refl; reply = λ b s. absurd (n b s) }

line-is : (k : ℕ) (t : List ℕ) (a : Shown) → ShowsBoard t (board_of t) → shown a ≡ stands (line_at (board_of t) k) → LineStep k t a
line-is k t a s e = record {
  not_board = λ m. absurd (m (board_of t) s);
  reply = λ b h. subst (λ x. shown a ≡ stands (line_at x k)) (shows-is t b h) e;
}

pub line-beyond : (k : ℕ) (t : List ℕ) → ShowsBoard t (board_of t) → 64 ≤ k → LineStep k t (Ok None)
line-beyond k t s h = line-is k t (Ok None) s (ap stands (sym (beyond (board_of t) k (rw (board-size t) h))))

pub line-free : (k : ℕ) (t : List ℕ) (l : Line) → ShowsBoard t (board_of t) → handover_of l ≡ line_at (board_of t) k → l.kind ≡ 0 → LineStep k t (Ok None)
line-free k t l s e z = line-is k t (Ok None) s (rw (← e, eq-eqb l.kind 0 z))

pub line-holds : (k : ℕ) (t : List ℕ) (l : Line) → ShowsBoard t (board_of t) → handover_of l ≡ line_at (board_of t) k → (l.kind ≡ 0 → ⊥) → LineStep k t (Ok (Some l))
line-holds k t l s e n = line-is k t (Ok (Some l)) s (rw (← e, ne_eqb l.kind 0 n))

-- ---- begin

-- when n words are written
pub record Wiped (t₀ t : List ℕ) (n : ℕ) : Type 0 where
  pub within : n ≤ 128
  pub zeros : (i : ℕ) → i < n → word_at t i ≡ 0
  pub rest : drop 1024 t ≡ drop 1024 t₀
  pub size : length t ≡ length t₀

pub wiped-none : (t : List ℕ) → Wiped t t 0
wiped-none t = record { within = omega arith; zeros = λ i h. absurd (omega arith); rest = refl; size = refl }

pub wiped-more : (t₀ t : List ℕ) (n : ℕ) → BoardRoom t₀ → n < 128 → Wiped t₀ t n → Wiped t₀ (put_word t n 0) (n + 1)
wiped-more t₀ t n room h w = record {
  within = omega arith;
  zeros = λ i q. ⊎_elim
      (λ (e : i ≡ n). rw e (word_at-put_word-same t n 0 (omega (arith, w.size)) (omega arith)))
      (λ (m : i ≡ n → ⊥). word_at-put_word-other t n i 0 m ∙ w.zeros i (omega arith))
      (eq-or-ne i n);
  rest = drop-put_word 128 t n 0 h ∙ w.rest;
  size = length-put_word t n 0 ∙ w.size;
}

pub begin-short : (t : List ℕ) → length t < 1024 → BeginStep t (Err BoardShort) t
begin-short t h = record { short = λ r. refl; done = λ r. absurd (omega arith); kept = kept_same (plain_refused 7 (some 0)) t refl }

pub begin-done : (t₀ t : List ℕ) → BoardRoom t₀ → Wiped t₀ t 128 → BeginStep t₀ (Ok tt) t
begin-done t₀ t room w = record {
  short = λ r. absurd (r room);
  done = λ r. (
    refl,
    record {
      room = omega (arith, w.size);
      makeable = empty-makeable;
      trains = λ k h. rw (empty-line k) (w.zeros (k * 2) (omega arith));
      cells = λ k h. rw (empty-line k) (w.zeros (k * 2 + 1) (omega arith));
    },
  );
  kept = record { stays = tt; rest = w.rest; size = w.size };
}
