use Rattle.table.proofs.Places.{cleared-none, cleared_more, behind-stored}
use Prim.Native.Nat.{◌+◌, ◌*◌}
use native.Mathlib.Omega.{arith}
use Rattle.table.specs.Layout.{trains_cell}
use Rattle.table.proofs.clear_trains.Goals as goal

pub loop-i-init : goal.loop-i-init
loop-i-init c = cleared-none c.args.t.now (trains_cell + 4 * c.args.k)

pub loop-i-preserved : goal.loop-i-preserved
loop-i-preserved c =
    let l = c.loop-i in
    let one = behind-stored l.t _ (trains_cell + 4 * c.args.k + l.i) _ 0 c.set_word.ensures (omega arith) (omega arith) (omega arith) (omega arith) (omega arith) in
    cleared_more c.args.t.now l.t _ (trains_cell + 4 * c.args.k) l.i l.invariant one
