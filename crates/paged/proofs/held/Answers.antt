-- `held` meets its contract. Assumes nothing.
use borrow.Author.Rules.{rules}
use Rattle.paged.proofs.Groups.{held-is}
use Rattle.paged.proofs.held.Goals as goal

pub returns : goal.returns
returns c = held-is c.args.t.now c.requires c.word.result c.word.ensures
