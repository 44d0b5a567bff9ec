-- `lower_lane` meets its contract. Assumes nothing.
use Rattle.back.proofs.Lanes.{lower-leaves}
use borrow.Author.Rules.{rules}
use Rattle.back.proofs.lower_lane.Goals as goal

pub returns : goal.returns
returns c =
    let s = c in
    lower-leaves s.args.t.now _ s.args.k s.args.d.0 _ _ s.requires.1 s.requires.2 s.requires.3 c.cell-time.ensures c.earlier_by.ensures c.set_cell.ensures
