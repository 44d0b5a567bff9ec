-- What a stored line leaves, and what a search found. Assumes nothing.
use Prim.Native.Nat.{ℕ, ◌+◌, ◌*◌, ◌^◌, ◌≤◌, ◌<◌}
use native.Mathlib.Omega.{arith}
use mathlib.Core.Path.{◌≡◌, refl, sym, ◌∙◌}
use mathlib.Core.Bool.{Bool, false≢true}
use mathlib.Core.Logic.{⊎_elim}
use mathlib.Core.List.{List}
use mathlib.Core.Option.{Option, none, some}
use lib.ListN.{length, drop, set}
use Rattle.words.specs.Words.{word_at, put_word}
use Rattle.words.proofs.Runs.{le-or-lt, eq-or-ne}
use Rattle.words.proofs.Laws.{length-put_word, word_at-put_word-same, word_at-put_word-other, drop-put_word}
use Rattle.desk.specs.Board.{Handover, Board, line_at, first_where, Fine, Makeable}
use Rattle.desk.proofs.First.{first-le, first-hit, first-is}
use Rattle.desk.proofs.Lines.{line_same, line_other}
use Rattle.board.specs.Layout.{train_word, cell_word, put_line, ShowsBoard, Found}

-- both words fit
pub words-fit : (x : Option Handover) → ((r : Handover) → x ≡ some r → Fine r) → (train_word x < 2 ^ 64) × (cell_word x < 2 ^ 64)
words-fit none f = (omega arith, omega arith)
words-fit (some r) f = let c = (f r refl).carried in (omega (arith, c.train, c.sequence), omega (arith, c.cell, c.kind))

module _ (t : List ℕ) (k : ℕ) (x : Option Handover) (h : k < 64) where
  pub put-size : length (put_line t k x) ≡ length t
  put-size = length-put_word (put_word t (k * 2) (train_word x)) (k * 2 + 1) (cell_word x) ∙ length-put_word t (k * 2) (train_word x)

  pub put_rest : drop 1024 (put_line t k x) ≡ drop 1024 t
  put_rest = drop-put_word 128 (put_word t (k * 2) (train_word x)) (k * 2 + 1) (cell_word x) (omega arith) ∙ drop-put_word 128 t (k * 2) (train_word x) (omega arith)

  -- every word of another line stays
  pub put_other : (i : ℕ) → (i ≡ k * 2 → ⊥) → (i ≡ k * 2 + 1 → ⊥) → word_at (put_line t k x) i ≡ word_at t i
  put_other i n m = word_at-put_word-other (put_word t (k * 2) (train_word x)) (k * 2 + 1) i (cell_word x) m ∙ word_at-put_word-other t (k * 2) i (train_word x) n

  pub put-shows : (b : Board) → ShowsBoard t b → Makeable (set b k x) → ShowsBoard (put_line t k x) (set b k x)
  put-shows b s m =
      let w = words-fit x (λ r e. m.fine k r (same ∙ e)) in
      record {
        room = rw put-size s.room;
        makeable = m;
        trains = λ j q. ⊎_elim
            (λ (e : j ≡ k). rw (e, same) (word_at-put_word-other (put_word t (k * 2) (train_word x)) (k * 2 + 1) (k * 2) (cell_word x) (λ z. omega arith) ∙ word_at-put_word-same t (k * 2) (train_word x) (omega (arith, s.room)) w.0))
            (λ (n : j ≡ k → ⊥). rw (line_other b k j x n, put_other (j * 2) (λ z. n (omega arith)) (λ z. n (omega arith))) (s.trains j q))
            (eq-or-ne j k);
        cells = λ j q. ⊎_elim
            (λ (e : j ≡ k). rw (e, same) (word_at-put_word-same (put_word t (k * 2) (train_word x)) (k * 2 + 1) (cell_word x) (rw length-put_word (omega (arith, s.room))) w.1))
            (λ (n : j ≡ k → ⊥). rw (line_other b k j x n, put_other (j * 2 + 1) (λ z. n (omega arith)) (λ z. n (omega arith))) (s.cells j q))
            (eq-or-ne j k);
      }
    where
      same : line_at (set b k x) k ≡ x
      same = line_same b k x (omega (arith, s.makeable.size))

-- a search of all lines finds the first
pub found_first : (p : Option Handover → Bool) (b : Board) (k : ℕ) → length b ≡ 64 → Found p b 64 k → first_where p b ≡ k
found_first p b k e f =
    ⊎_elim
    (λ (h : 64 ≤ k). ⊎_elim
    (λ (q : 64 ≤ first_where p b). omega (arith, first-le p b, f.within))
    (λ (q : first_where p b < 64). absurd (false≢true (sym (f.missed (first_where p b) (omega arith)) ∙ first-hit p b none (omega arith))))
    (le-or-lt 64 (first_where p b)))
    (λ (h : k < 64). first-is p b none k (omega arith) (f.hit h) f.missed)
    (le-or-lt 64 k)
