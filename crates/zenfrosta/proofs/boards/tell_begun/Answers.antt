-- `tell_begun` meets its contract. Assumes nothing.
use Rattle.zenfrosta.proofs.Spoken.{told-as}
use borrow.Author.Rules.{rules}
use Rattle.zenfrosta.proofs.boards.tell_begun.Goals as goal

pub returns-in-Begun : goal.returns-in-Begun
returns-in-Begun c =
    let e = c.in-Begun.is in (rw e, told-as _ _ _ _ (rw e) c.speak.ensures)

pub returns-in-Refused : goal.returns-in-Refused
returns-in-Refused c =
    let e = c.in-Refused.is in let w = c.refuse.ensures in (rw e w.0, rw e w.1)
