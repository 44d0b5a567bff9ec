-- `refuse` meets its contract. Assumes nothing.
use Rattle.zenfrosta.proofs.Spoken.{told-as}
use Rattle.zenfrosta.proofs.refuse.Goals as goal

pub returns : goal.returns
returns c = (c.number.ensures.0, told-as _ _ _ _ c.refusal_words.ensures c.speak.ensures)
