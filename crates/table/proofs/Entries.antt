-- Laws of the records in the cells: the same place, another place, and which cells a place is in. Assumes nothing.
use mathlib.Core.Path.{◌≡◌, refl, ap, ◌∙◌}
use mathlib.Core.Logic.{⊎_elim}
use Prim.Native.Nat.{ℕ, zero, suc, ◌+◌, ◌-◌, ◌*◌, ◌/◌, ◌%◌, ◌^◌, ◌≤◌, ◌<◌}
use mathlib.Core.List.{List}
use native.Mathlib.Nat.{zero-div, zero-mod}
use native.Mathlib.Omega.{arith}
use lib.ListN.{length, get_or, set, length-set}
use lib.Seq.{get_or-set_same, get_or-set_other}
use Rattle.words.proofs.Runs.{eq-or-ne}
use Rattle.digits.specs.Digits.{digit, put_digit}
use Rattle.digits.proofs.Laws.{digit-put-same, digit-put-other}
use Rattle.table.specs.Layout.{CELLS, place_count, half_count, trains_cell, length_cell, mark_cell, entry_at, put_length, put_mark, put_entry, clear_cells, train_place, train_number, put_train}
use Rattle.table.specs.declared.Entry.{Entry}

-- a record by what its two cells hold
entry-eq : (w u : List ℕ) (p : ℕ) (m n : ℕ) → digit 32 (p % 2) (get_or u (mark_cell p) 0) ≡ m → digit 16 (p % 4) (get_or u (length_cell p) 0) ≡ n → entry_at u p ≡ record { mark = m; length = record { 0 = n + 1 } }
unfolding entry_at
entry-eq w u p m n a b = rw (a, b)

-- cells that agree on a place's two
pub entry_kept : (w u : List ℕ) (p : ℕ) → get_or u (length_cell p) 0 ≡ get_or w (length_cell p) 0 → get_or u (mark_cell p) 0 ≡ get_or w (mark_cell p) 0 → entry_at u p ≡ entry_at w p
unfolding entry_at
entry_kept w u p a b = rw (a, b)

-- ---- one digit of one cell

module _ (w : List ℕ) (p : ℕ) (hp : p < place_count) (size : length w ≡ CELLS) where
  length-same : (n : ℕ) → n - 1 < 2 ^ 16 → digit 16 (p % 4) (get_or (put_length w p n) (length_cell p) 0) ≡ n - 1
  unfolding put_length
  length-same n h = rw (get_or-set_same w (length_cell p) (put_digit 16 (p % 4) (n - 1) (get_or w (length_cell p) 0)) 0 (omega arith)) (digit-put-same 16 (p % 4) (n - 1) (get_or w (length_cell p) 0) h)

  pub length-other : (n q : ℕ) → n - 1 < 2 ^ 16 → (q ≡ p → ⊥) → digit 16 (q % 4) (get_or (put_length w p n) (length_cell q) 0) ≡ digit 16 (q % 4) (get_or w (length_cell q) 0)
  unfolding put_length
  length-other n q h ne =
      ⊎_elim
      (λ (e : q / 4 ≡ p / 4).
      let same : get_or (set w (length_cell p) (put_digit 16 (p % 4) (n - 1) (get_or w (length_cell p) 0))) (length_cell q) 0 ≡ put_digit 16 (p % 4) (n - 1) (get_or w (length_cell q) 0) =
      rw e (get_or-set_same w (length_cell p) (put_digit 16 (p % 4) (n - 1) (get_or w (length_cell p) 0)) 0 (omega arith)) in
      rw same (digit-put-other 16 (p % 4) (n - 1) (get_or w (length_cell q) 0) h (q % 4) (λ d. ne (omega arith))))
      (λ (d : q / 4 ≡ p / 4 → ⊥). ap (digit 16 (q % 4)) (get_or-set_other w (length_cell p) (length_cell q) (put_digit 16 (p % 4) (n - 1) (get_or w (length_cell p) 0)) 0 (λ e. d (omega arith))))
      (eq-or-ne (q / 4) (p / 4))

-- the trains' numbers lie behind the marks as marks would
module _ (w : List ℕ) (p : ℕ) (hp : p < half_count) (size : length w ≡ CELLS) where
  mark-same : (m : ℕ) → m < 2 ^ 32 → digit 32 (p % 2) (get_or (put_mark w p m) (mark_cell p) 0) ≡ m
  unfolding put_mark
  mark-same m h = rw (get_or-set_same w (mark_cell p) (put_digit 32 (p % 2) m (get_or w (mark_cell p) 0)) 0 (omega arith)) (digit-put-same 32 (p % 2) m (get_or w (mark_cell p) 0) h)

  mark-other : (m q : ℕ) → m < 2 ^ 32 → (q ≡ p → ⊥) → digit 32 (q % 2) (get_or (put_mark w p m) (mark_cell q) 0) ≡ digit 32 (q % 2) (get_or w (mark_cell q) 0)
  unfolding put_mark
  mark-other m q h ne =
      ⊎_elim
      (λ (e : q / 2 ≡ p / 2).
      let same : get_or (set w (mark_cell p) (put_digit 32 (p % 2) m (get_or w (mark_cell p) 0))) (mark_cell q) 0 ≡ put_digit 32 (p % 2) m (get_or w (mark_cell q) 0) =
      rw e (get_or-set_same w (mark_cell p) (put_digit 32 (p % 2) m (get_or w (mark_cell p) 0)) 0 (omega arith)) in
      rw same (digit-put-other 32 (p % 2) m (get_or w (mark_cell q) 0) h (q % 2) (λ d. ne (omega arith))))
      (λ (d : q / 2 ≡ p / 2 → ⊥). ap (digit 32 (q % 2)) (get_or-set_other w (mark_cell p) (mark_cell q) (put_digit 32 (p % 2) m (get_or w (mark_cell p) 0)) 0 (λ e. d (omega arith))))
      (eq-or-ne (q / 2) (p / 2))

-- ---- a record

-- a length that has a place, and a mark
pub record Fits (e : Entry) : Type 0 where
  pub mark : e.mark < 2 ^ 32
  pub some : 0 < e.length.0
  pub length : e.length.0 ≤ 2 ^ 16

-- which cells a record's store leaves
pub put_other : (w : List ℕ) (p : ℕ) (e : Entry) (i : ℕ) → (i ≡ length_cell p → ⊥) → (i ≡ mark_cell p → ⊥) → get_or (put_entry w p e) i 0 ≡ get_or w i 0
unfolding put_length put_mark
put_other w p e i a b = get_or-set_other (put_length w p e.length.0) (mark_cell p) i _ 0 b ∙ get_or-set_other w (length_cell p) i _ 0 a

module _ (w : List ℕ) (p : ℕ) (hp : p < place_count) (size : length w ≡ CELLS) (e : Entry) (fits : Fits e) where
  abbrev u : List ℕ
  u = put_length w p e.length.0

  size-u : length u ≡ CELLS
  unfolding put_length
  size-u = simp length-set size

  -- the mark's cell is no length's, and the other way
  mark-apart : (q : ℕ) → q < place_count → get_or (put_mark u p e.mark) (length_cell q) 0 ≡ get_or u (length_cell q) 0
  unfolding put_mark
  mark-apart q hq = get_or-set_other u (mark_cell p) (length_cell q) _ 0 (λ x. omega arith)

  length-apart : (q : ℕ) → get_or u (mark_cell q) 0 ≡ get_or w (mark_cell q) 0
  unfolding put_length
  length-apart q = get_or-set_other w (length_cell p) (mark_cell q) _ 0 (λ x. omega arith)

  pub entry-same : entry_at (put_entry w p e) p ≡ e
  entry-same =
      entry-eq w (put_entry w p e) p e.mark (e.length.0 - 1) (mark-same u p (omega arith) size-u e.mark fits.mark)
      (ap (digit 16 (p % 4)) (mark-apart p hp) ∙ length-same w p hp size e.length.0 (omega (arith, fits.length)))
      ∙ whole
    where
      back : e.length.0 - 1 + 1 ≡ e.length.0
      back = omega (arith, fits.some)

      whole : record { mark = e.mark; length = record { 0 = e.length.0 - 1 + 1 } } ≡ e
      whole = rw back

  pub entry_other : (q : ℕ) → q < place_count → (q ≡ p → ⊥) → entry_at (put_entry w p e) q ≡ entry_at w q
  unfolding entry_at
  entry_other q hq ne =
      rw (mark-other u p (omega arith) size-u e.mark q fits.mark ne, length-apart q, mark-apart q hq, length-other w p hp size e.length.0 q (omega (arith, fits.length)) ne)

-- ---- a train's number

pub train-kept : (w u : List ℕ) (k j : ℕ) → get_or u (mark_cell (train_place k j)) 0 ≡ get_or w (mark_cell (train_place k j)) 0 → train_number u k j ≡ train_number w k j
unfolding train_number
train-kept w u k j e = rw e

-- which cells its store leaves
pub train-apart : (w : List ℕ) (k j n i : ℕ) → (i ≡ mark_cell (train_place k j) → ⊥) → get_or (put_train w k j n) i 0 ≡ get_or w i 0
unfolding put_mark
train-apart w k j n i ne = get_or-set_other w (mark_cell (train_place k j)) i _ 0 ne

pub length-train : (w : List ℕ) (k j n : ℕ) → length (put_train w k j n) ≡ length w
unfolding put_mark
length-train w k j n = simp length-set

module _ (w : List ℕ) (k j : ℕ) (hk : k < 64) (hj : j < 8) (size : length w ≡ CELLS) (n : ℕ) (fits : n < 2 ^ 32) where
  pub train-same : train_number (put_train w k j n) k j ≡ n
  unfolding train_number
  train-same = mark-same w (train_place k j) (omega arith) size n fits

  pub train-other : (i : ℕ) → (i ≡ j → ⊥) → train_number (put_train w k j n) k i ≡ train_number w k i
  unfolding train_number
  train-other i ne = mark-other w (train_place k j) (omega arith) size n (train_place k i) fits (λ e. ne (omega arith))

-- ---- cells cleared

pub clear-other : (w : List ℕ) (from n i : ℕ) → ((from ≤ i) → (i < from + n) → ⊥) → get_or (clear_cells w from n) i 0 ≡ get_or w i 0
unfolding clear_cells
clear-other w from zero i h = refl
clear-other w from (suc n) i h = get_or-set_other (clear_cells w from n) (from + n) i 0 0 (λ e. h (omega arith) (omega arith)) ∙ clear-other w from n i (λ a b. h a (omega arith))

pub length-clear : (w : List ℕ) (from n : ℕ) → length (clear_cells w from n) ≡ length w
unfolding clear_cells
length-clear w from zero = refl
length-clear w from (suc n) = length-set (clear_cells w from n) (from + n) 0 ∙ length-clear w from n

pub clear-same : (w : List ℕ) (from n i : ℕ) → from + n ≤ length w → from ≤ i → i < from + n → get_or (clear_cells w from n) i 0 ≡ 0
unfolding clear_cells
clear-same w from zero i fit lo hi = absurd (omega arith)
clear-same w from (suc n) i fit lo hi =
    ⊎_elim
    (λ (e : i ≡ from + n). rw e (get_or-set_same (clear_cells w from n) (from + n) 0 0 (omega (arith, length-clear w from n))))
    (λ (ne : i ≡ from + n → ⊥). get_or-set_other (clear_cells w from n) (from + n) i 0 0 ne ∙ clear-same w from n i (omega arith) lo (omega arith))
    (eq-or-ne i (from + n))

-- a cell of 0 has digits of 0
pub digit-none : (b j : ℕ) → digit b j 0 ≡ 0
unfolding digit
digit-none b j = rw (zero-div (2 ^ (b * j)), zero-mod (2 ^ b))

pub train-cleared : (w : List ℕ) (k j : ℕ) → k < 64 → j < 8 → length w ≡ CELLS → train_number (clear_cells w (trains_cell + 4 * k) 4) k j ≡ 0
unfolding train_number
train-cleared w k j hk hj size =
    rw (clear-same w (trains_cell + 4 * k) 4 (mark_cell (train_place k j)) (omega arith) (omega arith) (omega arith)) (digit-none 32 (train_place k j % 2))
