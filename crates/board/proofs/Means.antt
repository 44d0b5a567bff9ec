-- The lines of bytes: what two words mean, and when bytes show a board. Assumes nothing.
use Prim.Native.Nat.{ℕ, ◌+◌, ◌*◌, ◌/◌, ◌%◌, ◌^◌, ◌≤◌, ◌<◌}
use native.Mathlib.Omega.{arith}
use mathlib.Core.Path.{◌≡◌, refl, sym, ap, subst, ◌∙◌}
use mathlib.Core.Bool.{true, false, false≢true}
use mathlib.Core.Logic.{◌⊎◌, inl, inr, ⊎_elim}
use mathlib.Core.List.{List}
use mathlib.Core.Option.{Option, none, some}
use lib.ListN.{length}
use lib.Seq.{ext_get_or}
use borrow.Author.Tests.{eqb-true, eq-eqb, ne_eqb, lt-ltb, le-ltb, leb-true, le-leb}
use Rattle.words.proofs.Runs.{le-or-lt, eq-or-ne, length-tab, get_d-tab}
use Rattle.words.specs.Words.{word_at}
use Rattle.desk.specs.Board.{Handover, Board, line_at, is_of, Fine}
use Rattle.desk.proofs.Lines.{beyond}
use Rattle.board.specs.Layout.{BoardRoom, train_word, cell_word, ShowsBoard, line_of_words, board_of, well_formed, TellsBoard, Parted}

pub board-line : (t : List ℕ) (k : ℕ) → k < 64 → line_at (board_of t) k ≡ line_of_words (word_at t (k * 2)) (word_at t (k * 2 + 1))
unfolding board_of
board-line t k h = get_d-tab 64 k (λ i. line_of_words (word_at t (i * 2)) (word_at t (i * 2 + 1))) none h

pub board-size : (t : List ℕ) → length (board_of t) ≡ 64
unfolding board_of
board-size t = length-tab 64 (λ i. line_of_words (word_at t (i * 2)) (word_at t (i * 2 + 1)))

-- ---- two words

pub record IsLine (a c : ℕ) : Type 0 where
  pub train : train_word (line_of_words a c) ≡ a
  pub cell : cell_word (line_of_words a c) ≡ c
  pub fine : (r : Handover) → line_of_words a c ≡ some r → Fine r

formed-cases : (a c : ℕ) → well_formed a c ≡ true → ((c ≡ 0) × (a ≡ 0)) ⊎ ((65536 ≤ c) × (c < 131072)) ⊎ ((131072 ≤ c) × (c < 196608) × (4294967296 ≤ a))
unfolding well_formed
formed-cases a c e =
    ⊎_elim
    (λ (z : c ≡ 0). inl (z, eqb-true a 0 (rw (eq-eqb c 0 z) at e)))
    (λ (n : c ≡ 0 → ⊥). ⊎_elim
    (λ (p : 65536 ≤ c). ⊎_elim
    (λ (q : 131072 ≤ c). ⊎_elim
    (λ (s : 196608 ≤ c). absurd (false≢true (rw (ne_eqb c 0 n, le-ltb c 65536 p, le-ltb c 131072 q, le-ltb c 196608 s) at e)))
    (λ (s : c < 196608). inr (inr (q, s, leb-true 4294967296 a (rw (ne_eqb c 0 n, le-ltb c 65536 p, le-ltb c 131072 q, lt-ltb c 196608 s) at e))))
    (le-or-lt 196608 c))
    (λ (q : c < 131072). inr (inl (p, q)))
    (le-or-lt 131072 c))
    (λ (p : c < 65536). absurd (false≢true (rw (ne_eqb c 0 n, lt-ltb c 65536 p) at e)))
    (le-or-lt 65536 c))
    (eq-or-ne c 0)

-- the line of two words whose kind is not 0
used-line : (a c : ℕ) → (c / 65536 % 256 ≡ 0 → ⊥) → c < 196608 → a < 2 ^ 64 → ((c / 65536 % 256 ≡ 1) ⊎ ((c / 65536 % 256 ≡ 2) × (1 ≤ a / 4294967296))) → IsLine a c
used-line a c n h w k =
    let e = ne_eqb (c / 65536 % 256) 0 n in
    record {
      train = rw e (omega arith);
      cell = rw e (omega arith);
      fine = rw e (λ r q. let z : record { train = a % 4294967296; cell = c % 65536; kind = c / 65536 % 256; sequence = a / 4294967296 } ≡ r = cc in subst Fine z (record { carried = record { train = omega arith; cell = omega arith; kind = omega arith; sequence = omega arith }; kind = k }));
    }

pub is-line : (a c : ℕ) → a < 2 ^ 64 → well_formed a c ≡ true → IsLine a c
is-line a c w e =
    ⊎_elim
    (λ (z : (c ≡ 0) × (a ≡ 0)). rw (z.0, z.1) (record { train = refl; cell = refl; fine = λ r q. let x : ◌≡◌ {A = ℕ} 0 1 = cc in absurd (omega arith) }))
    (⊎_elim
    (λ (j : (65536 ≤ c) × (c < 131072)). used-line a c (λ q. omega (arith, j.0, j.1)) (omega (arith, j.1)) w (inl (omega (arith, j.0, j.1))))
    (λ (l : (131072 ≤ c) × (c < 196608) × (4294967296 ≤ a)). used-line a c (λ q. omega (arith, l.0, l.1)) l.1 w (inr (omega (arith, l.0, l.1), omega (arith, l.2)))))
    (formed-cases a c e)

-- and back: the words of a line
pub record OfLine (x : Option Handover) : Type 0 where
  pub formed : well_formed (train_word x) (cell_word x) ≡ true
  pub back : line_of_words (train_word x) (cell_word x) ≡ x

rec-ext : (r s : Handover) → r.train ≡ s.train → r.cell ≡ s.cell → r.kind ≡ s.kind → r.sequence ≡ s.sequence → r ≡ s
rec-ext r s a b c d =
    let z : ◌≡◌ {A = Handover} (record { train = r.train; cell = r.cell; kind = r.kind; sequence = r.sequence }) (record { train = s.train; cell = s.cell; kind = s.kind; sequence = s.sequence }) = rw (a, b, c, d) in z

pub of-line : (x : Option Handover) → ((r : Handover) → x ≡ some r → Fine r) → OfLine x
unfolding well_formed
of-line none f = record { formed = refl; back = refl }
of-line (some r) f =
    let g = f r refl in
    let c = g.carried in
    let nz : (cell_word (some r) / 65536 % 256 ≡ 0 → ⊥) = ⊎_elim (λ (k : r.kind ≡ 1). λ q. omega (arith, c.cell)) (λ (k : (r.kind ≡ 2) × (1 ≤ r.sequence)). λ q. omega (arith, k.0, c.cell)) g.kind in
    record {
      formed = ⊎_elim
          (λ (k : r.kind ≡ 1). rw (ne_eqb (cell_word (some r)) 0 (λ q. omega (arith, k)), le-ltb (cell_word (some r)) 65536 (omega (arith, k)), lt-ltb (cell_word (some r)) 131072 (omega (arith, k, c.cell))))
          (λ (k : (r.kind ≡ 2) × (1 ≤ r.sequence)). rw (ne_eqb (cell_word (some r)) 0 (λ q. omega (arith, k.0)), le-ltb (cell_word (some r)) 65536 (omega (arith, k.0)), le-ltb (cell_word (some r)) 131072 (omega (arith, k.0)), lt-ltb (cell_word (some r)) 196608 (omega (arith, k.0, c.cell)), le-leb 4294967296 (train_word (some r)) (omega (arith, k.1))))
          g.kind;
      back = rw (ne_eqb (cell_word (some r) / 65536 % 256) 0 nz) (ap some (rec-ext _ r (omega (arith, c.train)) (omega (arith, c.cell)) (omega (arith, c.cell, c.kind)) (omega (arith, c.train))));
    }

-- ---- the whole board

pub shows-line : (t : List ℕ) (b : Board) → ShowsBoard t b → (k : ℕ) → k < 64 → line_at (board_of t) k ≡ line_at b k
shows-line t b s k h = board-line t k h ∙ rw (s.trains k h, s.cells k h) (of-line (line_at b k) (s.makeable.fine k)).back

pub shows-is : (t : List ℕ) (b : Board) → ShowsBoard t b → board_of t ≡ b
shows-is t b s = ext_get_or none (board_of t) b (board-size t ∙ sym s.makeable.size) (λ i h. shows-line t b s i (omega (arith, board-size t)))

pub shows-formed : (t : List ℕ) (b : Board) → ShowsBoard t b → (k : ℕ) → k < 64 → well_formed (word_at t (k * 2)) (word_at t (k * 2 + 1)) ≡ true
shows-formed t b s k h = rw (s.trains k h, s.cells k h) (of-line (line_at b k) (s.makeable.fine k)).formed

-- what the test has found when it has passed n lines
pub record Passed (t : List ℕ) (n : ℕ) : Type 0 where
  pub within : n ≤ 64
  pub lines : (k : ℕ) → k < n → IsLine (word_at t (k * 2)) (word_at t (k * 2 + 1))
  pub parted : (j k u : ℕ) → k < n → j < k → is_of u (line_at (board_of t) j) ≡ true → is_of u (line_at (board_of t) k) ≡ true → ⊥

pub passed_none : (t : List ℕ) → Passed t 0
passed_none t = record { within = omega arith; lines = λ k h. absurd (omega arith); parted = λ j k u h. absurd (omega arith) }

pub passed-more : (t : List ℕ) (n : ℕ) → Passed t n → n < 64 → word_at t (n * 2) < 2 ^ 64 → well_formed (word_at t (n * 2)) (word_at t (n * 2 + 1)) ≡ true → Parted true (board_of t) n → Passed t (n + 1)
passed-more t n p h w e d = record {
  within = omega arith;
  lines = λ k lt. ⊎_elim (λ (q : k ≡ n). rw q (is-line (word_at t (n * 2)) (word_at t (n * 2 + 1)) w e)) (λ (q : k ≡ n → ⊥). p.lines k (omega arith)) (eq-or-ne k n);
  parted = λ j k u lt below. ⊎_elim (λ (q : k ≡ n). λ x y. d j u (omega arith) x (rw q at y)) (λ (q : k ≡ n → ⊥). p.parted j k u (omega arith) below) (eq-or-ne k n);
}

pub passed-all : (t : List ℕ) → BoardRoom t → Passed t 64 → TellsBoard true t
passed-all t room p = record {
  room = room;
  makeable = record {
    size = board-size t;
    fine = λ k r e. ⊎_elim (λ (h : 64 ≤ k). let z : ◌≡◌ {A = ℕ} 0 1 = cc (beyond (board_of t) k (rw (board-size t) h)) in absurd (omega arith)) (λ (h : k < 64). (p.lines k h).fine r (sym (board-line t k h) ∙ e)) (le-or-lt 64 k);
    once = once;
  };
  trains = λ k h. rw (board-line t k h) (sym (p.lines k h).train);
  cells = λ k h. rw (board-line t k h) (sym (p.lines k h).cell);
}
  where
    in-it : (k u : ℕ) → is_of u (line_at (board_of t) k) ≡ true → k < 64
    in-it k u e = ⊎_elim (λ (h : 64 ≤ k). absurd (false≢true (rw (beyond (board_of t) k (rw (board-size t) h)) at e))) (λ (h : k < 64). h) (le-or-lt 64 k)

    once : (j k u : ℕ) → is_of u (line_at (board_of t) j) ≡ true → is_of u (line_at (board_of t) k) ≡ true → j ≡ k
    once j k u x y =
        ⊎_elim
        (λ (q : j ≤ k). ⊎_elim (λ (z : k ≤ j). omega arith) (λ (z : j < k). absurd (p.parted j k u (in-it k u y) z x y)) (le-or-lt k j))
        (λ (q : k < j). absurd (p.parted k j u (in-it j u x) q y x))
        (le-or-lt j k)

pub fails-room : (t : List ℕ) → length t < 1024 → TellsBoard false t
fails-room t h b s = omega (arith, s.room)

pub fails-formed : (t : List ℕ) (k : ℕ) → k < 64 → well_formed (word_at t (k * 2)) (word_at t (k * 2 + 1)) ≡ false → TellsBoard false t
fails-formed t k h e b s = absurd (false≢true (sym e ∙ shows-formed t b s k h))

pub fails-parted : (t : List ℕ) (k : ℕ) → Parted false (board_of t) k → TellsBoard false t
fails-parted t k d b s =
    let e : d.0 ≡ k = s.makeable.once d.0 k d.1 (rw (shows-is t b s) at d.3) (rw (shows-is t b s) at d.4) in
    absurd (omega (arith, d.2))
