-- `refuse` meets its contract. Assumes nothing.
use Rattle.zenfrosta.proofs.Spoken.{told-as}
use borrow.Author.Rules.{rules}
use Rattle.zenfrosta.proofs.boards.refuse.Goals as goal

pub returns : goal.returns
returns c = (c.from.ensures, told-as _ _ _ _ c.refusal_words-w.ensures c.speak.ensures)
