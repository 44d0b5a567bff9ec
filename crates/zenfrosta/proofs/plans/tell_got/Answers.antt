-- `plans::tell_got` meets its contract. Assumes nothing.
use mathlib.Core.Path.{◌∙◌}
use Rattle.zenfrosta.proofs.Spoken.{told-as}
use Rattle.zenfrosta.proofs.plans.tell_got.Goals as goal

pub returns-in-Ok : goal.returns-in-Ok
returns-in-Ok c =
    let e = c.in-Ok.is in (rw e, told-as _ _ _ _ (c.one.ensures ∙ rw e) c.speak.ensures)

pub returns-in-Err : goal.returns-in-Err
returns-in-Err c =
    let e = c.in-Err.is in let w = c.refuse.ensures in (rw e w.0, rw e w.1)
