-- `sets` meets its contract. Assumes nothing.
use Rattle.rules.specs.Calls.{step, do_sets}
use borrow.Author.Rules.{rules}
use Rattle.engine.proofs.sets.Goals as goal

pub returns : goal.returns
unfolding step do_sets
returns c =
    let w = c.set_words.ensures in rw (w.er, w.ir, w.eb, w.ib)
