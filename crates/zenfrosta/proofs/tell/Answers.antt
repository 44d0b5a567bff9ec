-- `tell` meets its contract. Assumes nothing.
use mathlib.Core.Path.{◌≡◌, refl, ◌∙◌}
use Rattle.rules.specs.Reads.{answer}
use Rattle.rules.specs.declared.Answer.{Answer}
use Rattle.rules.specs.declared.Answer.TheVariants.{Accepted, Taken, Seen, Sets, Lag, Restarted}
use Rattle.zenfrosta.specs.Crossing.{code}
use Rattle.zenfrosta.proofs.Spoken.{told-as}
use Rattle.zenfrosta.proofs.tell.Goals as goal

-- an answer that is no refusal is told by 0
done-code : (a : Answer) → 0 ≡ code (answer a)
done-code (Accepted n) = refl
done-code (Taken r) = refl
done-code (Seen r) = refl
done-code (Sets w) = refl
done-code (Lag z) = refl
done-code Restarted = refl

pub returns-in-Ok : goal.returns-in-Ok
returns-in-Ok c =
    let e = c.in-Ok.is in (rw e (done-code c.in-Ok.a), told-as _ _ _ _ (c.words_of.ensures ∙ rw e) c.speak.ensures)

pub returns-in-Err : goal.returns-in-Err
returns-in-Err c =
    let e = c.in-Err.is in let w = c.refuse.ensures in (rw e w.0, rw e w.1)
