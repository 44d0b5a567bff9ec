-- `zf_make` meets its contract. Assumes nothing.
use mathlib.Core.Path.{refl, ◌∙◌}
use native.Mathlib.Omega.{arith}
use Rattle.zenfrosta.proofs.Crossed.{not_made_lem, crossed}
use Rattle.zenfrosta.proofs.Spoken.{told-as}
use Rattle.zenfrosta.proofs.zf_make.Goals as goal

pub returns-then-out-lt32 : goal.returns-then-out-lt32
returns-then-out-lt32 c = not_made_lem (omega (arith, c.if-out-lt32.true)) refl

pub returns-in-Ok : goal.returns-in-Ok
returns-in-Ok c =
    let e = c.in-Ok.is in
    crossed (omega (arith, c.if-out-lt32.false)) c.make.result c.make.ensures (rw e, told-as _ _ _ _ (c.one.ensures ∙ rw e) c.speak.ensures)

pub returns-in-Err : goal.returns-in-Err
returns-in-Err c =
    let e = c.in-Err.is in
    let w = c.refuse.ensures in
    crossed (omega (arith, c.if-out-lt32.false)) c.make.result c.make.ensures (rw e w.0, rw e w.1)
