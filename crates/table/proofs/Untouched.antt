-- What a store in lane k leaves as it was: what lies outside the lane, and every row. Assumes nothing.
use mathlib.Core.Path.{◌≡◌, ◌∙◌}
use Prim.Native.Nat.{ℕ, ◌+◌, ◌*◌, ◌≤◌, ◌<◌}
use mathlib.Core.List.{List}
use native.Mathlib.Omega.{arith}
use lib.ListN.{get_or, set}
use lib.Seq.{get_or-set_other}
use Rattle.table.specs.Layout.{present_word, framing_word, lane_word, round_word, place_in_lane, lengths_cell, length_words, trains_cell, row_at, put_row, put_entry, clear_cells, put_train}
use Rattle.table.specs.Means.{present_at}
use Rattle.table.specs.declared.LaneRow.{LaneRow}
use Rattle.table.specs.declared.Entry.{Entry}
use Rattle.rules.specs.State.{lane_depth}
use Rattle.table.proofs.Entries.{put_other, clear-other, train-apart}
use Rattle.table.proofs.Footprint.{Outside, present-kept, row_kept}

-- ---- where the stores lie

pub outside_trans : (w u v : List ℕ) (k : ℕ) → Outside w u k → Outside u v k → Outside w v k
outside_trans w u v k a b = record { kept = λ i p q r x. b.kept i p q r x ∙ a.kept i p q r x }

pub outside-row : (w : List ℕ) (k : ℕ) (l : LaneRow) → Outside w (put_row w k l) k
unfolding put_row
outside-row w k l =
    record {
      kept = λ i p q r x.
          get_or-set_other (set w (lane_word k + 1) l.time.0) (lane_word k + 2) i (l.head + lane_depth * l.count) 0 (λ e. p (omega arith) (omega arith))
          ∙ get_or-set_other w (lane_word k + 1) i l.time.0 0 (λ e. p (omega arith) (omega arith));
    }

pub outside-place : (w : List ℕ) (k i : ℕ) (e : Entry) → Outside w (put_entry w (place_in_lane k i) e) k
outside-place w k i e = record { kept = λ j p q r y. put_other w (place_in_lane k i) e j (λ x. q (omega arith) (omega arith)) (λ x. r (omega arith) (omega arith)) }

pub outside-cleared : (w : List ℕ) (k : ℕ) → Outside w (clear_cells w (lengths_cell + length_words * k) length_words) k
outside-cleared w k = record { kept = λ j p q r x. clear-other w (lengths_cell + length_words * k) length_words j q }

pub outside-round : (w : List ℕ) (k v : ℕ) → Outside w (set w (round_word k) v) k
outside-round w k v = record { kept = λ j p q r x. get_or-set_other w (round_word k) j v 0 (λ e. p (omega arith) (omega arith)) }

pub outside-train : (w : List ℕ) (k i n : ℕ) → i < 8 → Outside w (put_train w k i n) k
outside-train w k i n h = record { kept = λ j p q r x. train-apart w k i n j (λ e. x (omega arith) (omega arith)) }

pub outside-trains : (w : List ℕ) (k : ℕ) → Outside w (clear_cells w (trains_cell + 4 * k) 4) k
outside-trains w k = record { kept = λ j p q r x. clear-other w (trains_cell + 4 * k) 4 j x }

-- ---- a change of lane k's places, trains and round leaves every row

abbrev pub SameRows : List ℕ → List ℕ → ℕ → Type 0
SameRows w u k = (i : ℕ) → i < lengths_cell → (i ≡ round_word k → ⊥) → get_or u i 0 ≡ get_or w i 0

pub rows-place : (w : List ℕ) (k p : ℕ) (e : Entry) → SameRows w (put_entry w p e) k
rows-place w k p e i h ne = put_other w p e i (λ x. omega arith) (λ x. omega arith)

pub rows-cleared : (w : List ℕ) (k from n : ℕ) → lengths_cell ≤ from → SameRows w (clear_cells w from n) k
rows-cleared w k from n lo i h ne = clear-other w from n i (λ p q. omega arith)

pub rows-train : (w : List ℕ) (k j n : ℕ) → SameRows w (put_train w k j n) k
rows-train w k j n i h ne = train-apart w k j n i (λ x. omega arith)

pub rows-round : (w : List ℕ) (k v : ℕ) → SameRows w (set w (round_word k) v) k
rows-round w k v i h ne = get_or-set_other w (round_word k) i v 0 ne

pub row_same : (w u : List ℕ) (k : ℕ) → k < 64 → SameRows w u k → row_at u k ≡ row_at w k
row_same w u k hk s = row_kept w u k (s framing_word (omega arith) (omega arith)) (λ j p q. s j (omega arith) (omega arith))

pub present-same : (w u : List ℕ) (k : ℕ) → SameRows w u k → present_at u k ≡ present_at w k
present-same w u k s = present-kept w u k (s present_word (omega arith) (omega arith))

-- every row has the line's framing bytes
