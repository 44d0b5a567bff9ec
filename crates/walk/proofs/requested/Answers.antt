-- `requested` meets its contract. Assumes nothing.
use Rattle.walk.proofs.Texts.{requested-is}
use borrow.Author.Rules.{rules}
use Rattle.walk.proofs.requested.Goals as goal

pub returns : goal.returns
returns c = requested-is c.args.lanes c.put_lanes-start.ensures c.walk-w.ensures c.put_closing-written.ensures c.requires.2
