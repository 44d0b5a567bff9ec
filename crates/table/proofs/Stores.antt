-- Laws of reading and storing cells. Assumes nothing.
use mathlib.Core.Path.{◌≡◌, refl, ap, ◌∙◌}
use mathlib.Core.Logic.{⊎_elim}
use Prim.Native.Nat.{ℕ, ◌+◌, ◌-◌, ◌*◌, ◌/◌, ◌≤◌, ◌<◌}
use mathlib.Core.List.{List}
use native.Mathlib.Omega.{arith}
use borrow.Author.Tests.{lt-ltb, le-ltb}
use lib.ListN.{length, get_or, set}
use Rattle.words.specs.Words.{word_at}
use Rattle.words.proofs.Runs.{le-or-lt, length-tab, get_d-tab, tab-set}
use Rattle.rings.specs.Rings.{rings_end}
use Rattle.digits.specs.Digits.{WordStored}
use Rattle.table.specs.Layout.{CELLS, SIZE, marks_cell, word_of_cell, Behind, Now, cells, row_of}

pub length-cells : (t : List ℕ) → length (cells t) ≡ CELLS
unfolding cells
length-cells t = length-tab CELLS _

-- ---- the word that a cell is

pub word-before : (i : ℕ) → i < marks_cell → word_of_cell i ≡ i
unfolding word_of_cell
word-before i h = rw (lt-ltb i marks_cell h)

pub word-behind : (i : ℕ) → marks_cell ≤ i → word_of_cell i ≡ i - marks_cell + rings_end / 8
unfolding word_of_cell
word-behind i h = rw (le-ltb i marks_cell h)

-- no two cells are one word
word-one : (i j : ℕ) → word_of_cell i ≡ word_of_cell j → i ≡ j
word-one i j e =
    ⊎_elim
    (λ (p : marks_cell ≤ i).
    ⊎_elim
    (λ (q : marks_cell ≤ j). omega (arith, word-behind i p, word-behind j q))
    (λ (q : j < marks_cell). omega (arith, word-behind i p, word-before j q))
    (le-or-lt marks_cell j))
    (λ (p : i < marks_cell).
    ⊎_elim
    (λ (q : marks_cell ≤ j). omega (arith, word-before i p, word-behind j q))
    (λ (q : j < marks_cell). omega (arith, word-before i p, word-before j q))
    (le-or-lt marks_cell j))
    (le-or-lt marks_cell i)

pub cell-is : (t : List ℕ) (i : ℕ) → i < CELLS → get_or (cells t) i 0 ≡ word_at t (word_of_cell i)
unfolding cells
cell-is t i h = get_d-tab CELLS i (λ i. word_at t (word_of_cell i)) 0 h

-- ---- stores

-- no list is moved, and nothing past the table
pub behind-refl : {t : List ℕ} → Behind t t
behind-refl = record { lists = λ a p q. refl; past = refl }

pub behind-then : {t u v : List ℕ} → Behind t u → Behind u v → Behind t v
behind-then a b = record { lists = λ x p q. b.lists x p q ∙ a.lists x p q; past = b.past ∙ a.past }

-- a word that is a cell was stored
pub now-stored : (t t' : List ℕ) (c v : ℕ) → c < CELLS → WordStored t t' (word_of_cell c) v → Now t t' (set (cells t) c v)
unfolding cells
now-stored t t' c v h s =
    record {
      words = tab-set CELLS c (λ i. word_at t (word_of_cell i)) (λ i. word_at t' (word_of_cell i)) h (λ i p ne. s.others (word_of_cell i) (λ e. ne (word-one i c e))) ∙ ap (set (cells t) c) s.same;
      rest = record {
        lists = λ a p q. s.bytes a (λ e. in-lists a p q e);
        past = s.rest (SIZE / 8) (word-within c h);
      };
    }
  where
    word-within : (c : ℕ) → c < CELLS → word_of_cell c < SIZE / 8
    word-within c h = ⊎_elim (λ (p : marks_cell ≤ c). omega (arith, word-behind c p)) (λ (p : c < marks_cell). omega (arith, word-before c p)) (le-or-lt marks_cell c)

    in-lists : (a : ℕ) → marks_cell * 8 ≤ a → a < rings_end → a / 8 ≡ word_of_cell c → ⊥
    in-lists a p q e = ⊎_elim (λ (b : marks_cell ≤ c). omega (arith, word-behind c b)) (λ (b : c < marks_cell). omega (arith, word-before c b)) (le-or-lt marks_cell c)

-- a store after others
pub now-then : {t u w : List ℕ} (t' : List ℕ) (i v : ℕ) → Now t u w → Now u t' (set (cells u) i v) → Now t t' (set w i v)
now-then t' i v a b = record { words = b.words ∙ ap (λ x. set x i v) a.words; rest = behind-then a.rest b.rest }

pub row_of-eq : (h a b c h' a' b' c' : ℕ) → h ≡ h' → a ≡ a' → b ≡ b' → c ≡ c' → row_of h a b c ≡ row_of h' a' b' c'
row_of-eq h a b c h' a' b' c' o p q r = rw (o, p, q, r)
