-- Which words a lane and a state depend on. Assumes nothing.
use mathlib.Core.Path.{◌≡◌, sym, ap, subst, ◌∙◌}
use mathlib.Core.Bool.{true}
use mathlib.Core.Logic.{⊎_elim}
use Prim.Native.Nat.{ℕ, ◌+◌, ◌*◌, ◌≤◌, ◌<◌}
use mathlib.Core.List.{List}
use native.Mathlib.Omega.{arith}
use lib.ListN.{length, get_or, set}
use lib.Seq.{get_or-set_same, get_or-set_other}
use Rattle.words.specs.Runs.{tab}
use Rattle.words.proofs.Runs.{eq-or-ne, tab-ext, tab-set, get_d-tab, length-tab}
use Rattle.parts.specs.Parts.{rows_from}
use Rattle.rounds.specs.Round.{shared_held}
use Rattle.turns.specs.Turns.{shared_of, Ordered}
use Rattle.turns.proofs.Train.{shared_same}
use Rattle.rules.specs.State.{no_lane, lane_at}
use Rattle.table.specs.Layout.{CELLS, cells, present_word, depth_word, framing_word, lane_word, round_word, round_at, lengths_cell, length_words, marks_cell, mark_words, trains_cell, place_in_lane, entry_at, row_at, row_of, train_number}
use Rattle.table.specs.Means.{present_at, rec_of, rec_at, lane_ring, shared_at, waiting_of, row_lane, lane_of, state_of, meant, RowAgrees, PlacesFit, Housed, RowsFit, with_clock, with_lane}
use Rattle.table.specs.declared.LaneRow.{LaneRow}
use Rattle.table.proofs.Stores.{row_of-eq}
use Rattle.table.proofs.Entries.{entry_kept, train-kept}

-- words that agree on lane k
pub record SameLane (w u : List ℕ) (k : ℕ) : Type 0 where
  pub present : present_at u k ≡ present_at w k
  pub framing : get_or u framing_word 0 ≡ get_or w framing_word 0
  pub row : (i : ℕ) → lane_word k ≤ i → i < lane_word k + 4 → get_or u i 0 ≡ get_or w i 0
  pub lengths : (i : ℕ) → lengths_cell + length_words * k ≤ i → i < lengths_cell + length_words * k + length_words → get_or u i 0 ≡ get_or w i 0
  pub marks : (i : ℕ) → marks_cell + mark_words * k ≤ i → i < marks_cell + mark_words * k + mark_words → get_or u i 0 ≡ get_or w i 0
  pub trains : (i : ℕ) → trains_cell + 4 * k ≤ i → i < trains_cell + 4 * k + 4 → get_or u i 0 ≡ get_or w i 0

pub present-kept : (w u : List ℕ) (k : ℕ) → get_or u present_word 0 ≡ get_or w present_word 0 → present_at u k ≡ present_at w k
unfolding present_at
present-kept w u k e = rw e

pub row_kept : (w u : List ℕ) (k : ℕ) → get_or u framing_word 0 ≡ get_or w framing_word 0 → ((i : ℕ) → lane_word k ≤ i → i < lane_word k + 3 → get_or u i 0 ≡ get_or w i 0) → row_at u k ≡ row_at w k
unfolding row_at
row_kept w u k h s =
    row_of-eq _ _ _ _ _ _ _ _ h (s (lane_word k) (omega arith) (omega arith)) (s (lane_word k + 1) (omega arith) (omega arith)) (s (lane_word k + 2) (omega arith) (omega arith))

-- a lane's places
module _ (w u : List ℕ) (k : ℕ) (lengths : (i : ℕ) → lengths_cell + length_words * k ≤ i → i < lengths_cell + length_words * k + length_words → get_or u i 0 ≡ get_or w i 0)
    (marks : (i : ℕ) → marks_cell + mark_words * k ≤ i → i < marks_cell + mark_words * k + mark_words → get_or u i 0 ≡ get_or w i 0) where
  pub place_kept : (i : ℕ) → entry_at u (place_in_lane k i) ≡ entry_at w (place_in_lane k i)
  place_kept i = entry_kept w u (place_in_lane k i) (lengths _ (omega arith) (omega arith)) (marks _ (omega arith) (omega arith))

  pub ring-kept : (h n : ℕ) → lane_ring u k h n ≡ lane_ring w k h n
  unfolding lane_ring
  ring-kept h n = tab-ext n _ _ (λ i p. ap rec_of (place_kept (h + i)))

  pub fit-kept : (l : LaneRow) → PlacesFit w k l → PlacesFit u k l
  fit-kept l f i h = rw (place_kept i) (f i h)

  -- and the words of its trains and its round
  module _ (trains : (i : ℕ) → trains_cell + 4 * k ≤ i → i < trains_cell + 4 * k + 4 → get_or u i 0 ≡ get_or w i 0) (round : round_at u k ≡ round_at w k) where
    pub shared_kept : shared_at u k ≡ shared_at w k
    unfolding shared_at rec_at
    shared_kept =
        shared_same (rec_at u k) (rec_at w k) (train_number u k) (train_number w k) (round_at u k) (λ i h. ap rec_of (place_kept i)) (λ j h. train-kept w u k j (trains _ (omega arith) (omega arith)))
        ∙ ap (shared_of (rec_at w k) (train_number w k)) round

    pub waiting_kept : (l : LaneRow) → waiting_of u k l ≡ waiting_of w k l
    unfolding waiting_of
    waiting_kept l = rw (shared_kept, ring-kept l.head l.count)

    pub housed-kept : (l : LaneRow) → Housed w k l → Housed u k l
    housed-kept l h =
        record {
          paced = h.paced;
          places = fit-kept l h.places;
          trains = λ e. record { counted = ap shared_held shared_kept ∙ (h.trains e).counted; ordered = subst Ordered (sym round) (h.trains e).ordered };
        }

module _ (w u : List ℕ) (k : ℕ) (s : SameLane w u k) where
  same_row : row_at u k ≡ row_at w k
  same_row = row_kept w u k s.framing (λ i p q. s.row i p (omega arith))

  same-round : round_at u k ≡ round_at w k
  same-round = s.row (round_word k) (omega arith) (omega arith)

  pub lane-kept : lane_of u k ≡ lane_of w k
  unfolding lane_of row_lane
  lane-kept = rw (s.present, same_row, waiting_kept w u k s.lengths s.marks s.trains same-round (row_at w k))

pub lane-is : (w o : List ℕ) (k : ℕ) → k < 64 → lane_at (state_of w o) k ≡ lane_of w k
unfolding state_of
lane-is w o k h = get_d-tab 64 k (lane_of w) no_lane h

-- a table has 64 lanes
pub lanes-many : (t : List ℕ) → length (meant t).lanes ≡ 64
unfolding state_of
lanes-many t = length-tab 64 (lane_of (cells t))

-- ---- a change in one lane's words but its setting

pub record Outside (w u : List ℕ) (k : ℕ) : Type 0 where
  pub kept : (i : ℕ) → ((lane_word k + 1 ≤ i) → (i < lane_word k + 4) → ⊥) → ((lengths_cell + length_words * k ≤ i) → (i < lengths_cell + length_words * k + length_words) → ⊥)
      → ((marks_cell + mark_words * k ≤ i) → (i < marks_cell + mark_words * k + mark_words) → ⊥) → ((trains_cell + 4 * k ≤ i) → (i < trains_cell + 4 * k + 4) → ⊥) → get_or u i 0 ≡ get_or w i 0

module _ (w u : List ℕ) (k : ℕ) (hk : k < 64) (o : Outside w u k) where
  -- a word that is in no lane
  pub single-kept : (i : ℕ) → i < rows_from → get_or u i 0 ≡ get_or w i 0
  single-kept i h = o.kept i (λ p q. omega arith) (λ p q. omega arith) (λ p q. omega arith) (λ p q. omega arith)

  -- every other lane
  pub others-kept : (j : ℕ) → j < 64 → (j ≡ k → ⊥) → SameLane w u j
  others-kept j h ne =
      record {
        present = present-kept w u j (single-kept 1 (omega arith));
        framing = single-kept framing_word (omega arith);
        row = λ i p q. o.kept i (λ x y. omega arith) (λ x y. omega arith) (λ x y. omega arith) (λ x y. omega arith);
        lengths = λ i p q. o.kept i (λ x y. omega arith) (λ x y. omega arith) (λ x y. omega arith) (λ x y. omega arith);
        marks = λ i p q. o.kept i (λ x y. omega arith) (λ x y. omega arith) (λ x y. omega arith) (λ x y. omega arith);
        trains = λ i p q. o.kept i (λ x y. omega arith) (λ x y. omega arith) (λ x y. omega arith) (λ x y. omega arith);
      }

  -- leaves the state with that lane changed
  pub lane-changed : (order : List ℕ) → state_of u order ≡ with_lane (state_of w order) k (lane_of u k)
  unfolding state_of
  lane-changed order =
      let lanes : tab 64 (lane_of u) ≡ set (tab 64 (lane_of w)) k (lane_of u k) = tab-set 64 k (lane_of w) (lane_of u) hk (λ j h ne. lane-kept w u j (others-kept j h ne)) in
      rw (single-kept 0 (omega arith), lanes)

-- ---- what is stored beside the state

pub row-agrees : (h s x y x' y' : ℕ) → RowAgrees (row_of h s x y) → RowAgrees (row_of h s x' y')
row-agrees h s x y x' y' a = record { numbers = a.numbers; framing = a.framing }

-- a lane that is as it was
module _ (w u : List ℕ) (k : ℕ) (s : SameLane w u k) (b : RowsFit w) (hk : k < 64) (p : present_at u k ≡ true) where
  pub agrees-kept : RowAgrees (row_at u k)
  agrees-kept = rw (same_row w u k s) (b.rows k hk (sym s.present ∙ p))

  pub lane-housed : 0 < (row_at u k).count → Housed u k (row_at u k)
  lane-housed n =
      rw (same_row w u k s) (housed-kept w u k s.lengths s.marks s.trains (same-round w u k s) (row_at w k) (b.housed k hk (sym s.present ∙ p) (rw (same_row w u k s) at n)))

-- a change in one lane's words but its setting: that lane has to be housed again
pub beside-changed : (w u : List ℕ) (k : ℕ) → k < 64 → Outside w u k → (RowsFit w → present_at u k ≡ true → 0 < (row_at u k).count → Housed u k (row_at u k)) → RowsFit w → RowsFit u
unfolding row_at
beside-changed w u k hk o f b =
    record {
      depth = single-kept w u k hk o depth_word (omega arith) ∙ b.depth;
      housed = λ j h p n. ⊎_elim (λ (e : j ≡ k). at-k j e p n) (λ (ne : j ≡ k → ⊥). lane-housed w u j (others-kept w u k hk o j h ne) b h p n) (eq-or-ne j k);
      rows = λ j h p.
          let present : present_at w j ≡ true = sym (present-kept w u j (single-kept w u k hk o 1 (omega arith))) ∙ p in
          rw (single-kept w u k hk o framing_word (omega arith), o.kept (lane_word j) (λ x y. omega arith) (λ x y. omega arith) (λ x y. omega arith) (λ x y. omega arith)) (row-agrees (get_or w framing_word 0) (get_or w (lane_word j) 0) (get_or w (lane_word j + 1) 0) (get_or w (lane_word j + 2) 0) (get_or u (lane_word j + 1) 0) (get_or u (lane_word j + 2) 0) (b.rows j h present));
    }
  where
    at-k : (j : ℕ) → j ≡ k → present_at u j ≡ true → 0 < (row_at u j).count → Housed u j (row_at u j)
    at-k j e = subst (λ (i : ℕ). present_at u i ≡ true → 0 < (row_at u i).count → Housed u i (row_at u i)) (sym e) (f b)

-- ---- a change in the clock

module _ (w : List ℕ) (v : ℕ) where
  clock-other : (i : ℕ) → 0 < i → get_or (set w 0 v) i 0 ≡ get_or w i 0
  clock-other i h = get_or-set_other w 0 i v 0 (omega arith)

  clock-lane : (k : ℕ) → SameLane w (set w 0 v) k
  clock-lane k =
      record {
        present = present-kept w (set w 0 v) k (clock-other 1 (omega arith));
        framing = clock-other framing_word (omega arith);
        row = λ i p q. clock-other i (omega arith);
        lengths = λ i p q. clock-other i (omega arith);
        marks = λ i p q. clock-other i (omega arith);
        trains = λ i p q. clock-other i (omega arith);
      }

  pub clock-changed : (o : List ℕ) → length w ≡ CELLS → state_of (set w 0 v) o ≡ with_clock (state_of w o) v
  unfolding state_of
  clock-changed o len =
      let lanes : tab 64 (lane_of (set w 0 v)) ≡ tab 64 (lane_of w) = tab-ext 64 _ _ (λ k b. lane-kept w (set w 0 v) k (clock-lane k)) in
      rw (get_or-set_same w 0 v 0 (omega arith), lanes)

  pub clock-beside : RowsFit w → RowsFit (set w 0 v)
  clock-beside b =
      record {
        depth = clock-other depth_word (omega arith) ∙ b.depth;
        housed = λ k h p n. lane-housed w (set w 0 v) k (clock-lane k) b h p n;
        rows = λ k h p. agrees-kept w (set w 0 v) k (clock-lane k) b h p;
      }
