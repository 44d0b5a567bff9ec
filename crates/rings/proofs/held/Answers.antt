use mathlib.Core.Path.{sym, ◌∙◌}
use Rattle.rings.proofs.Laws.{length-ring}
use Rattle.rings.proofs.held.Goals as goal

pub returns : goal.returns
returns c = (c.byte.ensures.0 ∙ sym (length-ring _ _), c.byte.ensures.1)
