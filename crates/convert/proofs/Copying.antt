-- From bytes copied to what both layouts keep in the same places. Assumes nothing.
use mathlib.Core.Path.{◌≡◌, refl, sym, ap, ◌∙◌}
use mathlib.Core.Logic.{⊎_elim}
use Prim.Native.Nat.{ℕ, ◌+◌, ◌*◌, ◌<◌}
use mathlib.Core.List.{List}
use native.Mathlib.Omega.{arith}
use lib.ListN.{length, get_or, set, drop}
use lib.Seq.{get_or-set_same, get_or-set_other, drop-set-lt}
use Rattle.words.specs.Words.{le_val, word_at}
use Rattle.words.proofs.Runs.{eq-or-ne, reads-ext}
use Rattle.rules.specs.State.{lane_depth}
use Rattle.table.specs.Layout.{SIZE, Now, cells, depth_word, lane_word, marks_cell}
use Rattle.table.proofs.Stores.{length-cells, cell-is, word-before}
use Rattle.old_table.specs.Old.{old_size}
use Rattle.convert.specs.Over.{Copied, Carried}

pub copied_none : (old t : List ℕ) → Copied old t t 0
copied_none old t = record { bytes = λ a h. absurd (omega arith); rest = refl }

pub copied_more : (old t u : List ℕ) (n : ℕ) → n < SIZE → n < length u → Copied old t u n → Copied old t (set u n (get_or old n 0)) (n + 1)
copied_more old t u n lt in-u c =
    record {
      bytes = λ a h.
          ⊎_elim
          (λ (e : a ≡ n). rw e (get_or-set_same u n (get_or old n 0) 0 in-u))
          (λ (ne : a ≡ n → ⊥). get_or-set_other u n a (get_or old n 0) 0 ne ∙ c.bytes a (omega arith))
          (eq-or-ne a n);
      rest = drop-set-lt SIZE u n (get_or old n 0) lt ∙ c.rest;
    }

-- ---- the cells before the slot lists

module _ (old t u v : List ℕ) (c : Copied old t u old_size) (n : Now u v (set (cells u) depth_word lane_depth)) where
  word_same : (j : ℕ) → j < marks_cell → word_at u j ≡ word_at old j
  unfolding word_at
  word_same j h = ap le_val (reads-ext old u (j * 8) 8 (λ i p q. c.bytes i (omega arith)))

  cell_same : (i : ℕ) → i < marks_cell → get_or (cells u) i 0 ≡ get_or (cells old) i 0
  cell_same i h =
      cell-is u i (omega arith) ∙ ap (word_at u) (word-before i h) ∙ word_same i h ∙ sym (cell-is old i (omega arith) ∙ ap (word_at old) (word-before i h))

  other : (i : ℕ) → i < marks_cell → (i ≡ depth_word → ⊥) → get_or (cells v) i 0 ≡ get_or (cells old) i 0
  other i h ne = rw n.words (get_or-set_other (cells u) depth_word i lane_depth 0 ne ∙ cell_same i h)

  pub carried : Carried old v
  carried =
      record {
        single = λ i h ne. other i (omega arith) ne;
        settings = λ k h. other (lane_word k) (omega arith) (omega arith);
        depth = rw n.words (get_or-set_same (cells u) depth_word lane_depth 0 (omega (arith, length-cells u)));
        lists = λ a p q. n.rest.lists a p q ∙ c.bytes a (omega arith);
      }

  pub copied-past : drop SIZE v ≡ drop SIZE t
  copied-past = n.rest.past ∙ c.rest
