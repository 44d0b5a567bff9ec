use Rattle.fresh.proofs.Leaves.{rest-leaves}
use borrow.Author.Rules.{rules}
use Rattle.fresh.proofs.rest_lane.Goals as goal

pub returns : goal.returns
returns c = rest-leaves c.args.t.now _ c.args.k c.row-l.result c.row-l.ensures.0 c.requires.1 c.requires.2 c.set_row.ensures
