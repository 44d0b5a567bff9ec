-- `set_taken` meets its contract. Assumes nothing.
use borrow.Author.Rules.{rules}
use Rattle.editions.proofs.Stored.{taken-stored}
use Rattle.editions.proofs.set_taken.Goals as goal

pub returns : goal.returns
returns c =
    let s = c in
    taken-stored s.args.p.now _ _ s.args.edition s.requires.0 s.requires.1 c.set_word.ensures c.set_word-2.ensures
