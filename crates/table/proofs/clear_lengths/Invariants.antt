use Prim.Native.Nat.{◌+◌, ◌*◌}
use Rattle.table.specs.Layout.{Now, cells, lengths_cell, length_words, clear_cells}
use Rattle.table.proofs.clear_lengths.Given as goal

abbrev pub invariant-loop-i : goal.invariant-loop-i
invariant-loop-i l = Now l.initial.t l.t (clear_cells (cells l.initial.t) (lengths_cell + length_words * l.k) l.i)
