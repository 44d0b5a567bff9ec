-- `none_held` meets its contract. Assumes nothing.
use borrow.Author.Rules.{rules}
use Rattle.engine.proofs.none_held.Goals as goal

pub returns : goal.returns
returns c = rw c.word.ensures
