-- How an old table keeps its lanes, for the pass of crate good. Assumes nothing.
use mathlib.Core.Path.{◌≡◌, refl}
use mathlib.Core.Bool.{true, false}
use Prim.Native.Nat.{ℕ}
use mathlib.Core.List.{List}
use lib.ListN.{get_or}
use Rattle.waiting.specs.Waiting.{plain, is_shared}
use Rattle.rules.specs.State.{no_lane}
use Rattle.table.specs.Layout.{framing_word, row_at}
use Rattle.table.specs.Means.{present_at, given_of, timed_by_word}
use Rattle.table.proofs.Rows.{row-framing}
use Rattle.good.specs.Kept.{Kept}
use Rattle.old_table.specs.Old.{old_row_at, old_queue, old_lane}

pub old-framing : (w : List ℕ) (k : ℕ) → (old_row_at w k).framing.0 ≡ get_or w framing_word 0
unfolding old_row_at
old-framing w k = row-framing w k

pub old-present : (w : List ℕ) (k : ℕ) → present_at w k ≡ true → old_lane w k ≡ timed_by_word (given_of (old_row_at w k)) (old_row_at w k).time.0 (plain (old_queue w k))
unfolding old_lane
old-present w k p = rw p

pub old-absent : (w : List ℕ) (k : ℕ) → present_at w k ≡ false → old_lane w k ≡ no_lane
unfolding old_lane
old-absent w k p = rw p

pub old-group : (w : List ℕ) (k : ℕ) → (old_row_at w k).group ≡ (row_at w k).group
unfolding old_row_at
old-group w k = refl

pub old-time : (w : List ℕ) (k : ℕ) → (old_row_at w k).time.0 ≡ (row_at w k).time.0
unfolding old_row_at
old-time w k = refl

pub old-kind : (w : List ℕ) (k : ℕ) → is_shared (plain (old_queue w k)) ≡ (old_row_at w k).shared
unfolding is_shared old_row_at
old-kind w k = refl

-- how an old table keeps its lanes
abbrev pub old : (w : List ℕ) → Kept w
old w = record {
  row = old_row_at w;
  waiting = λ k. plain (old_queue w k);
  lane = old_lane w;
  present = old-present w;
  absent = old-absent w;
  kind = old-kind w;
  framed = old-framing w;
  group = old-group w;
  time = old-time w;
}
