-- `offers::tell_offer` meets its contract. Assumes nothing.
use mathlib.Core.Path.{◌≡◌, refl, ◌∙◌}
use Rattle.std.specs.Prelude.{Option, Some, None, Ok, Err}
use Rattle.scheduler.specs.Step.{offering}
use Rattle.scheduler.specs.declared.Offered.{Offered}
use Rattle.scheduler.specs.declared.Offered.TheVariants.{InForce, Waits}
use Rattle.zenfrosta.specs.Crossing.{offer_code}
use Rattle.zenfrosta.proofs.Spoken.{told-as}
use Rattle.zenfrosta.proofs.offers.tell_offer.Goals as goal

-- a page that is taken is told by 0
offered-code : (o : Offered) → 0 ≡ offer_code (offering (Ok o))
offered-code InForce = refl
offered-code Waits = refl

pub returns-in-Ok : goal.returns-in-Ok
returns-in-Ok c =
    let e = c.in-Ok.is in (rw e (offered-code c.in-Ok.o), told-as _ _ _ _ (c.offered_words.ensures ∙ rw e) c.speak.ensures)

pub returns-in-Err : goal.returns-in-Err
returns-in-Err c =
    let e = c.in-Err.is in let w = c.refuse_offer.ensures in (rw e w.0, rw e w.1)
