use Rattle.rings.proofs.Laws.{begin-leaves}
use Rattle.rings.proofs.begin.Goals as goal

pub returns : goal.returns
returns c = begin-leaves _ _ _ _ _ _ c.requires.0 c.requires.1 c.byte-h.ensures.0 c.set_byte.ensures c.set_byte-2.ensures
