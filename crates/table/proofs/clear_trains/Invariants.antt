use Prim.Native.Nat.{◌+◌, ◌*◌}
use Rattle.table.specs.Layout.{Now, cells, trains_cell, clear_cells}
use Rattle.table.proofs.clear_trains.Given as goal

abbrev pub invariant-loop-i : goal.invariant-loop-i
invariant-loop-i l = Now l.initial.t l.t (clear_cells (cells l.initial.t) (trains_cell + 4 * l.k) l.i)
