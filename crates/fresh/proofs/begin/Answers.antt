use Rattle.table.proofs.Stores.{now-then}
use Rattle.fresh.proofs.Writing.{begin-makes}
use borrow.Author.Rules.{rules}
use Rattle.fresh.proofs.begin.Goals as goal

pub returns : goal.returns
returns c =
    let s = c in
    let two = now-then _ _ _ c.set_cell.ensures c.set_cell-2.ensures in
    let three = now-then _ _ _ two c.set_cell-3.ensures in
    let n = now-then _ _ _ three c.set_cell-4.ensures in
    begin-makes s.args.t.now _ _ s.args.h.0 n c.empty.ensures
