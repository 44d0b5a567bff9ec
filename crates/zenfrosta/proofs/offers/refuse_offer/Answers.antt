-- `offers::refuse_offer` meets its contract. Assumes nothing.
use mathlib.Core.Path.{◌≡◌, refl, ◌∙◌}
use Rattle.std.specs.Prelude.{Option, Some, None, Ok, Err}
use Rattle.zenfrosta.proofs.Spoken.{told-as}
use Rattle.zenfrosta.proofs.offers.refuse_offer.Goals as goal

pub returns-in-Old : goal.returns-in-Old
returns-in-Old c =
    let e = c.in-Old.is in (rw e, told-as _ _ _ _ (c.one.ensures ∙ rw e) c.speak.ensures)

pub returns-in-Refused : goal.returns-in-Refused
returns-in-Refused c =
    let e = c.in-Refused.is in let w = c.refuse.ensures in (rw e w.0, rw e w.1)
