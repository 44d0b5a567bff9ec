-- `wait` meets its contract. Assumes nothing.
use borrow.Author.Rules.{rules}
use Rattle.paged.proofs.Lending.{waited}
use Rattle.paged.proofs.wait.Goals as goal

pub returns : goal.returns
returns c =
    let s = c in
    let p = c.set_waiting in
    waited s.args.t.now p.new.p _ s.requires.0 p.auto.p p.ensures
