-- Stores to different words, and to different lines, in either order. Assumes nothing.
use Prim.Native.Nat.{ℕ, suc, ◌+◌, ◌*◌, ◌≤◌, ◌<◌}
use native.Mathlib.Omega.{arith}
use mathlib.Core.Path.{◌≡◌, refl, ap, ◌∙◌}
use mathlib.Core.Logic.{◌⊎◌, inl, inr, ⊎_elim}
use mathlib.Core.List.{List, [], ◌∷◌}
use mathlib.Core.Option.{Option}
use lib.ListN.{length, set}
use lib.Seq.{set_comm, sets}
use Rattle.words.specs.Words.{le_bytes, put_word}
use Rattle.words.proofs.Runs.{le-or-lt}
use Rattle.words.proofs.Laws.{length-le_bytes}
use Rattle.desk.specs.Board.{Handover}
use Rattle.board.specs.Layout.{train_word, cell_word, put_line}

-- two runs that do not meet
Apart : ℕ → ℕ → ℕ → ℕ → Type 0
Apart i m j n = (i + m ≤ j) ⊎ (j + n ≤ i)

set-sets : (us l : List ℕ) (i : ℕ) (a : ℕ) (j : ℕ) → (suc j ≤ i) ⊎ (i + length us ≤ j) → set (sets l i us) j a ≡ sets (set l j a) i us
set-sets [] l i a j h = refl
set-sets (u ∷ us) l i a j h =
    set-sets us (set l i u) (suc i) a j (⊎_elim (λ (x : suc j ≤ i). inl (omega arith)) (λ (x : i + suc (length us) ≤ j). inr (omega arith)) h)
    ∙ ap (λ x. sets x (suc i) us) (set_comm l i j u a (λ e. ⊎_elim (λ (x : suc j ≤ i). omega arith) (λ (x : i + suc (length us) ≤ j). omega arith) h))

sets-sets : (vs us l : List ℕ) (i j : ℕ) → Apart i (length us) j (length vs) → sets (sets l i us) j vs ≡ sets (sets l j vs) i us
unfolding Apart
sets-sets [] us l i j h = refl
sets-sets (v ∷ vs) us l i j h =
    ap (λ x. sets x (suc j) vs) (set-sets us l i v j (⊎_elim (λ (x : i + length us ≤ j). inr x) (λ (x : j + suc (length vs) ≤ i). inl (omega arith)) h))
    ∙ sets-sets vs us (set l j v) i (suc j) (⊎_elim (λ (x : i + length us ≤ j). inl (omega arith)) (λ (x : j + suc (length vs) ≤ i). inr (omega arith)) h)

pub put-put : (t : List ℕ) (i j v w : ℕ) → (i ≡ j → ⊥) → put_word (put_word t i v) j w ≡ put_word (put_word t j w) i v
unfolding put_word Apart
put-put t i j v w n =
    let x = length-le_bytes 8 v in
    let y = length-le_bytes 8 w in
    sets-sets (le_bytes 8 w) (le_bytes 8 v) t (i * 8) (j * 8) (⊎_elim (λ (h : suc i ≤ j). inl (omega (arith, x))) (λ (h : j < suc i). inr (apart h y)) (le-or-lt (suc i) j))
  where
    apart : j < suc i → length (le_bytes 8 w) ≡ 8 → j * 8 + length (le_bytes 8 w) ≤ i * 8
    apart h y = ⊎_elim (λ (z : suc j ≤ i). omega (arith, y)) (λ (z : i < suc j). absurd (n (omega arith))) (le-or-lt (suc j) i)

pub lines-either : (t : List ℕ) (j k : ℕ) (x y : Option Handover) → (j ≡ k → ⊥) → put_line (put_line t j x) k y ≡ put_line (put_line t k y) j x
lines-either t j k x y n =
    let a = put_word t (j * 2) (train_word x) in
    let c = put_word t (k * 2) (train_word y) in
    ap (λ z. put_word z (k * 2 + 1) (cell_word y)) (put-put a (j * 2 + 1) (k * 2) (cell_word x) (train_word y) (λ e. omega arith) ∙ ap (λ z. put_word z (j * 2 + 1) (cell_word x)) (put-put t (j * 2) (k * 2) (train_word x) (train_word y) (λ e. n (omega arith))))
    ∙ put-put (put_word c (j * 2) (train_word x)) (j * 2 + 1) (k * 2 + 1) (cell_word x) (cell_word y) (λ e. n (omega arith))
    ∙ ap (λ z. put_word z (j * 2 + 1) (cell_word x)) (put-put c (j * 2) (k * 2 + 1) (train_word x) (cell_word y) (λ e. omega arith))
