-- From the stores of a train's number, the round's number and a record to the shared lane that they leave. Assumes nothing.
use mathlib.Core.Path.{◌≡◌, refl, sym, ap, subst, ◌∙◌}
use mathlib.Core.Logic.{⊎_elim}
use Prim.Native.Nat.{ℕ, ◌+◌, ◌*◌, ◌^◌, ◌<◌}
use mathlib.Core.List.{List}
use native.Mathlib.Omega.{arith}
use lib.ListN.{length, set, length-set}
use lib.Seq.{get_or-set_same, get_or-set_other}
use Rattle.words.proofs.Runs.{eq-or-ne}
use Rattle.rounds.specs.Round.{Shared, empty_shared, shared_put}
use Rattle.turns.specs.Turns as turns
use Rattle.turns.specs.Turns.{head_of, count_of, shared_of, with, Ordered, Light, Puts}
use Rattle.turns.specs.declared.Change.{Change}
use Rattle.turns.proofs.Train.{parts, with-same, with-other, shared_same, shared-but, shared-none}
use Rattle.table.specs.Layout.{CELLS, round_word, round_at, length_cell, mark_cell, trains_cell, place_in_lane, entry_at, put_entry, train_place, train_number, put_train, clear_cells}
use Rattle.table.specs.Means.{rec_of, rec_at, shared_at}
use Rattle.table.specs.declared.Entry.{Entry}
use Rattle.table.proofs.Entries.{Fits, entry_kept, entry-same, entry_other, put_other, train-kept, train-apart, length-train, train-same, train-other, train-cleared, clear-other, length-clear}
use Rattle.table.proofs.Footprint.{Outside}
use Rattle.table.proofs.Untouched.{SameRows, outside_trans, outside-round, outside-train, rows-train, rows-round}

pub light-small : (t : ℕ) → Light t → t < 2 ^ 20
light-small t l = omega (arith, parts t, l.0, l.1)

-- ---- one store

module _ (w : List ℕ) (k : ℕ) (hk : k < 64) (size : length w ≡ CELLS) where
  pub numbers-put : (j n : ℕ) → j < 8 → n < 2 ^ 32 → (f : ℕ → ℕ) → ((i : ℕ) → i < 8 → train_number w k i ≡ f i) → (i : ℕ) → i < 8 → train_number (put_train w k j n) k i ≡ with f j n i
  numbers-put j n hj fits f h i hi =
      ⊎_elim
      (λ (e : i ≡ j). subst (λ (x : ℕ). train_number (put_train w k j n) k x ≡ with f j n x) (sym e) (train-same w k j hk hj size n fits ∙ sym (with-same f j n)))
      (λ (ne : i ≡ j → ⊥). train-other w k j hk hj size n fits i ne ∙ h i hi ∙ sym (with-other f j n i ne))
      (eq-or-ne i j)

  numbers-round : (v i : ℕ) → i < 8 → train_number (set w (round_word k) v) k i ≡ train_number w k i
  numbers-round v i hi = train-kept w (set w (round_word k) v) k i (get_or-set_other w (round_word k) (mark_cell (train_place k i)) v 0 (omega arith))

  round_same : (v : ℕ) → round_at (set w (round_word k) v) k ≡ v
  round_same v = get_or-set_same w (round_word k) v 0 (omega arith)

  places-round : (v i : ℕ) → entry_at (set w (round_word k) v) (place_in_lane k i) ≡ entry_at w (place_in_lane k i)
  places-round v i = entry_kept w (set w (round_word k) v) (place_in_lane k i) (get_or-set_other w (round_word k) (length_cell (place_in_lane k i)) v 0 (omega arith)) (get_or-set_other w (round_word k) (mark_cell (place_in_lane k i)) v 0 (omega arith))

  pub places-train : (j n i : ℕ) → j < 8 → entry_at (put_train w k j n) (place_in_lane k i) ≡ entry_at w (place_in_lane k i)
  places-train j n i hj =
      entry_kept w (put_train w k j n) (place_in_lane k i) (train-apart w k j n (length_cell (place_in_lane k i)) (λ e. omega arith)) (train-apart w k j n (mark_cell (place_in_lane k i)) (λ e. omega arith))

  pub round-train : (j n : ℕ) → j < 8 → round_at (put_train w k j n) k ≡ round_at w k
  round-train j n hj = train-apart w k j n (round_word k) (λ e. omega arith)

-- ---- a train's number and the round's

module _ (w : List ℕ) (k j n r : ℕ) (hk : k < 64) (hj : j < 8) (size : length w ≡ CELLS) (fits : n < 2 ^ 32) where
  abbrev pub both : List ℕ
  both = set (put_train w k j n) (round_word k) r

  size-train : length (put_train w k j n) ≡ CELLS
  size-train = length-train w k j n ∙ size

  pub both-size : length both ≡ CELLS
  both-size = length-set (put_train w k j n) (round_word k) r ∙ size-train

  pub both-outside : Outside w both k
  both-outside = outside_trans w (put_train w k j n) both k (outside-train w k j n hj) (outside-round (put_train w k j n) k r)

  pub both-rows : SameRows w both k
  both-rows i h ne = rows-round (put_train w k j n) k r i h ne ∙ rows-train w k j n i h ne

  pub both-numbers : (i : ℕ) → i < 8 → train_number both k i ≡ with (train_number w k) j n i
  both-numbers i hi = numbers-round (put_train w k j n) k hk size-train r i hi ∙ numbers-put w k hk size j n hj fits (train_number w k) (λ i h. refl) i hi

  pub both-round : round_at both k ≡ r
  both-round = round_same (put_train w k j n) k hk size-train r

  pub both-place : (i : ℕ) → entry_at both (place_in_lane k i) ≡ entry_at w (place_in_lane k i)
  both-place i = places-round (put_train w k j n) k hk size-train r i ∙ places-train w k hk size j n i hj

-- ---- a record more

module _ (w : List ℕ) (k j L p : ℕ) (c : Change) (e : Entry) (hk : k < 64) (hj : j < 8) (size : length w ≡ CELLS) (small : p < 64) (f : Fits e)
    (room : count_of (train_number w k j) < 8) (at : p ≡ turns.place_in_train j (head_of (train_number w k j) + count_of (train_number w k j)))
    (puts : Puts L (train_number w k j) (round_at w k) j c) where
  abbrev v : List ℕ
  v = both w k j c.train c.round hk hj size puts.small

  abbrev u : List ℕ
  u = put_entry v (place_in_lane k p) e

  size-v : length v ≡ CELLS
  size-v = both-size w k j c.train c.round hk hj size puts.small

  numbers : (i : ℕ) → i < 8 → train_number u k i ≡ with (train_number w k) j c.train i
  numbers i hi =
      train-kept v u k i (put_other v (place_in_lane k p) e (mark_cell (train_place k i)) (λ x. omega arith) (λ x. omega arith))
      ∙ both-numbers w k j c.train c.round hk hj size puts.small i hi

  round_is : round_at u k ≡ c.round
  round_is = put_other v (place_in_lane k p) e (round_word k) (λ x. omega arith) (λ x. omega arith) ∙ both-round w k j c.train c.round hk hj size puts.small

  here : rec_at u k p ≡ rec_of e
  unfolding rec_at
  here = ap rec_of (entry-same v (place_in_lane k p) (omega arith) size-v e f)

  others : (q : ℕ) → q < 64 → (q ≡ p → ⊥) → rec_at u k q ≡ rec_at w k q
  unfolding rec_at
  others q h ne = ap rec_of (entry_other v (place_in_lane k p) (omega arith) size-v e f (place_in_lane k q) (omega arith) (λ x. ne (omega arith)) ∙ both-place w k j c.train c.round hk hj size puts.small q)

  pub entered-shared : shared_at u k ≡ shared_put L (shared_at w k) j (rec_of e)
  unfolding shared_at
  entered-shared =
      shared_same (rec_at u k) (rec_at u k) (train_number u k) (with (train_number w k) j c.train) (round_at u k) (λ q h. refl) numbers
      ∙ ap (shared_of (rec_at u k) (with (train_number w k) j c.train)) round_is
      ∙ puts.lane (rec_at u k) (train_number w k) refl
      ∙ ap (λ (s : Shared). shared_put L s j (rec_at u k (turns.place_in_train j (head_of (train_number w k j) + count_of (train_number w k j))))) (shared-but (rec_at u k) (rec_at w k) (train_number w k) (round_at w k) j room (λ q h ne. others q h (λ x. ne (x ∙ at))))
      ∙ ap (shared_put L (shared_of (rec_at w k) (train_number w k) (round_at w k)) j) (ap (rec_at u k) (sym at) ∙ here)

  pub entered-ordered : Ordered (round_at u k)
  entered-ordered = subst Ordered (sym round_is) puts.ordered

-- ---- no record

module _ (w : List ℕ) (k : ℕ) (hk : k < 64) (size : length w ≡ CELLS) where
  abbrev pub bare-words : List ℕ
  bare-words = set (clear_cells w (trains_cell + 4 * k) 4) (round_word k) 0

  size-c : length (clear_cells w (trains_cell + 4 * k) 4) ≡ CELLS
  size-c = length-clear w (trains_cell + 4 * k) 4 ∙ size

  pub bare-numbers : (i : ℕ) → i < 8 → train_number bare-words k i ≡ 0
  bare-numbers i hi = numbers-round (clear_cells w (trains_cell + 4 * k) 4) k hk size-c 0 i hi ∙ train-cleared w k i hk hi size

  pub bare-round : round_at bare-words k ≡ 0
  bare-round = round_same (clear_cells w (trains_cell + 4 * k) 4) k hk size-c 0

  pub bare-place : (i : ℕ) → entry_at bare-words (place_in_lane k i) ≡ entry_at w (place_in_lane k i)
  bare-place i =
      places-round (clear_cells w (trains_cell + 4 * k) 4) k hk size-c 0 i
      ∙ entry_kept w (clear_cells w (trains_cell + 4 * k) 4) (place_in_lane k i) (clear-other w (trains_cell + 4 * k) 4 (length_cell (place_in_lane k i)) (λ a b. omega arith)) (clear-other w (trains_cell + 4 * k) 4 (mark_cell (place_in_lane k i)) (λ a b. omega arith))

  pub bare-shared : shared_at bare-words k ≡ empty_shared
  unfolding shared_at
  bare-shared =
      shared_same (rec_at bare-words k) (rec_at bare-words k) (train_number bare-words k) (λ (i : ℕ). 0) (round_at bare-words k) (λ q h. refl) bare-numbers
      ∙ ap (shared_of (rec_at bare-words k) (λ (i : ℕ). 0)) bare-round
      ∙ shared-none (rec_at bare-words k)
