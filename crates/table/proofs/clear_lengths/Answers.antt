use Rattle.table.proofs.Places.{cleared-none, cleared_more}
use Prim.Native.Nat.{◌+◌, ◌*◌}
use Rattle.table.specs.Layout.{lengths_cell, length_words}
use Rattle.table.proofs.clear_lengths.Goals as goal

pub loop-i-init : goal.loop-i-init
loop-i-init c = cleared-none c.args.t.now (lengths_cell + length_words * c.args.k)

pub loop-i-preserved : goal.loop-i-preserved
loop-i-preserved c = cleared_more c.args.t.now c.loop-i.t _ (lengths_cell + length_words * c.args.k) c.loop-i.i c.loop-i.invariant c.set_cell.ensures
