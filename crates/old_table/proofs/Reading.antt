-- What is read of an old table: rows, records, lanes, and the state. Assumes nothing.
use mathlib.Core.Path.{◌≡◌, refl}
use mathlib.Core.Bool.{false}
use Prim.Native.Nat.{ℕ, ◌+◌, ◌/◌, ◌%◌, ◌^◌}
use mathlib.Core.List.{List}
use lib.ListN.{length, get_or}
use Rattle.words.proofs.Runs.{length-tab}
use Rattle.rules.specs.Older.{old_depth}
use Rattle.table.specs.Layout.{cells, lane_word, row_at}
use Rattle.table.specs.declared.LaneRow.{LaneRow}
use Rattle.good.proofs.Told.{Means}
use Rattle.old_table.specs.Kept.{old}
use Rattle.old_table.specs.Old.{old_row_at, old_place, old_entry_at, old_ring, old_meant}

-- ---- a row and a record, as the code takes them apart

pub row_read : (w : List ℕ) (k setting ring : ℕ) (l : LaneRow) → l ≡ row_at w k → setting ≡ get_or w (lane_word k) 0 → ring ≡ get_or w (lane_word k + 2) 0
    → record { longest = l.longest; framing = l.framing; weight = l.weight; group = l.group; rate = record { 0 = setting / 2 ^ 40 }; shared = false; time = l.time; head = ring % old_depth; count = ring / old_depth } ≡ old_row_at w k
unfolding old_row_at
row_read w k setting ring l e s f = rw (e, s, f)

pub entry_read : (w : List ℕ) (k i x : ℕ) → x ≡ get_or w (old_place k i) 0 → record { mark = x % 2 ^ 32; length = record { 0 = x / 2 ^ 32 } } ≡ old_entry_at w k i
unfolding old_entry_at
entry_read w k i x e = rw e

-- ---- lanes

pub length-queue : (w : List ℕ) (k h n : ℕ) → length (old_ring w k h n) ≡ n
unfolding old_ring
length-queue w k h n = length-tab n _

pub old-means : (t : List ℕ) → Means t (old (cells t)) (old_meant t)
unfolding old_meant
old-means t = record { lanes = refl; order = refl }
