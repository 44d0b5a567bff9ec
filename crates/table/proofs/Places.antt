-- From digits of words to records in the cells. Assumes nothing.
use mathlib.Core.Path.{◌≡◌, refl, sym, ap, subst, ◌∙◌}
use Prim.Native.Nat.{ℕ, ◌+◌, ◌-◌, ◌*◌, ◌/◌, ◌%◌, ◌^◌, ◌≤◌, ◌<◌}
use mathlib.Core.List.{List}
use native.Mathlib.Numerals.{add-one}
use native.Mathlib.Omega.{arith}
use lib.ListN.{length, set}
use Rattle.words.specs.Words.{word_at, put_word}
use Rattle.rings.specs.Rings.{rings_end}
use Rattle.digits.specs.Digits.{digit, put_digit, WordStored}
use Rattle.digits.proofs.Bytes.{word-stored}
use Rattle.table.specs.Layout.{CELLS, place_count, half_count, lengths_cell, marks_cell, length_cell, mark_cell, word_of_cell, Now, cells, entry_at, put_length, put_mark, clear_cells, train_place, train_number, put_train}
use Rattle.table.specs.declared.Entry.{Entry}
use Rattle.table.proofs.Stores.{cell-is, word-before, word-behind, now-stored, now-then, behind-refl, behind-then}

-- the digits that a place is, among all quarters and all halves of the bytes
abbrev quarter_of : ℕ → ℕ
quarter_of p = 4 * lengths_cell + p

abbrev half_of : ℕ → ℕ
half_of p = 2 * (rings_end / 8) + p

module _ (p : ℕ) (hp : p < half_count) where
  mark-word : half_of p / 2 ≡ word_of_cell (mark_cell p)
  mark-word = let at : half_of p / 2 ≡ mark_cell p - marks_cell + rings_end / 8 = omega arith in at ∙ sym (word-behind (mark_cell p) (omega arith))

  mark-digit : half_of p % 2 ≡ p % 2
  mark-digit = omega arith

  pub mark-stored : (t u : List ℕ) (m : ℕ) → WordStored t u (half_of p / 2) (put_digit 32 (half_of p % 2) m (word_at t (half_of p / 2))) → Now t u (put_mark (cells t) p m)
  unfolding put_mark
  mark-stored t u m s = rw (cell-is t (mark_cell p) (omega arith)) (now-stored t u (mark_cell p) _ (omega arith) (rw (mark-word, mark-digit) at s))

module _ (p : ℕ) (hp : p < place_count) where
  length-word : quarter_of p / 4 ≡ word_of_cell (length_cell p)
  length-word = let at : quarter_of p / 4 ≡ length_cell p = omega arith in at ∙ sym (word-before (length_cell p) (omega arith))

  length-digit : quarter_of p % 4 ≡ p % 4
  length-digit = omega arith

  pub entry_read : (t : List ℕ) (q h : ℕ) → q ≡ digit 16 (quarter_of p % 4) (word_at t (quarter_of p / 4)) → h ≡ digit 32 (half_of p % 2) (word_at t (half_of p / 2)) → record { mark = h; length = record { 0 = q + 1 } } ≡ entry_at (cells t) p
  unfolding entry_at
  entry_read t q h a b = rw (a, b, length-word, mark-word p (omega arith), length-digit, mark-digit p (omega arith), cell-is t (length_cell p) (omega arith), cell-is t (mark_cell p) (omega arith))

  pub length-stored : (t u : List ℕ) (n : ℕ) → WordStored t u (quarter_of p / 4) (put_digit 16 (quarter_of p % 4) (n - 1) (word_at t (quarter_of p / 4))) → Now t u (put_length (cells t) p n)
  unfolding put_length
  length-stored t u n s = rw (cell-is t (length_cell p) (omega arith)) (now-stored t u (length_cell p) _ (omega arith) (rw (length-word, length-digit) at s))

  pub entry-stored : (t u v : List ℕ) (e : Entry) → Now t u (put_length (cells t) p e.length.0) → Now u v (put_mark (cells u) p e.mark) → Now t v (put_mark (put_length (cells t) p e.length.0) p e.mark)
  entry-stored t u v e a b = record { words = b.words ∙ ap (λ (w : List ℕ). put_mark w p e.mark) a.words; rest = behind-then a.rest b.rest }

-- ---- a train's number

module _ (k j : ℕ) (hk : k < 64) (hj : j < 8) where
  pub train-read : (t : List ℕ) (h i : ℕ) → h ≡ digit 32 (i % 2) (word_at t (i / 2)) → i ≡ half_of (train_place k j) → h ≡ train_number (cells t) k j
  unfolding train_number
  train-read t h i e q = rw (e, q, mark-word (train_place k j) (omega arith), mark-digit (train_place k j) (omega arith), cell-is t (mark_cell (train_place k j)) (omega arith))

  pub train-stored : (t u : List ℕ) (n i : ℕ) → WordStored t u (i / 2) (put_digit 32 (i % 2) n (word_at t (i / 2))) → i ≡ half_of (train_place k j) → Now t u (put_train (cells t) k j n)
  train-stored t u n i s q = mark-stored (train_place k j) (omega arith) t u n (subst (λ (x : ℕ). WordStored t u (x / 2) (put_digit 32 (x % 2) n (word_at t (x / 2)))) q s)

-- a word behind the slot lists
pub behind-stored : (t u : List ℕ) (c j v : ℕ) → u ≡ put_word t j v → c < CELLS → marks_cell ≤ c → j ≡ c - marks_cell + rings_end / 8 → j * 8 + 8 ≤ length t → v < 2 ^ 64 → Now t u (set (cells t) c v)
behind-stored t u c j v e h lo q room fits =
    subst (λ (x : List ℕ). Now t x (set (cells t) c v)) (sym e)
    (now-stored t (put_word t j v) c v h (subst (λ (x : ℕ). WordStored t (put_word t j v) x v) (q ∙ sym (word-behind c lo)) (word-stored t j v room fits)))

-- ---- cells cleared one after another

pub cleared-none : (t : List ℕ) (from : ℕ) → Now t t (clear_cells (cells t) from 0)
unfolding clear_cells
cleared-none t from = record { words = refl; rest = behind-refl }

pub cleared_more : (t u v : List ℕ) (from n : ℕ) → Now t u (clear_cells (cells t) from n) → Now u v (set (cells u) (from + n) 0) → Now t v (clear_cells (cells t) from (n + 1))
unfolding clear_cells
cleared_more t u v from n a b = rw add-one (now-then v (from + n) 0 a b)
