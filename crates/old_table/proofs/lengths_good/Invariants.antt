-- `lengths_good` meets its contract. The loop's invariant: the records before the next one have lengths within the lane's numbers. Assumes nothing.
use Prim.Native.Nat.{ℕ, ◌+◌, ◌<◌}
use Rattle.table.specs.Layout.{cells}
use Rattle.old_table.specs.Old.{old_entry_at}
use Rattle.old_table.proofs.Lengths.{InLength}
use Rattle.old_table.proofs.lengths_good.Given as goal

abbrev pub invariant-loop-i : goal.invariant-loop-i
invariant-loop-i l = (j : ℕ) → j < l.i → InLength l.longest (old_entry_at (cells l.t) l.k (l.head + j)).length.0
