-- `copy` meets its contract. The loop's invariant: the bytes before the next one are copied. Assumes nothing.
use mathlib.Core.Path.{◌≡◌, refl, subst, ◌∙◌}
use native.Mathlib.Omega.{arith}
use lib.ListN.{length, length-set}
use Rattle.old_table.specs.Old.{old_size}
use Rattle.convert.specs.Over.{Copied}
use Rattle.convert.proofs.Copying.{copied_none, copied_more}
use Rattle.convert.proofs.copy.Goals as goal

pub loop-i-init : goal.loop-i-init
loop-i-init c = (copied_none _ _, refl)

pub loop-i-preserved : goal.loop-i-preserved
loop-i-preserved c =
    let l = c.loop-i in
    let lt = c.loop-i-test.true in
    (copied_more _ _ l.new l.i (omega (arith, lt)) (omega (arith, c.requires.1, l.invariant.1, lt)) l.invariant.0, length-set l.new l.i _ ∙ l.invariant.1)

pub returns : goal.returns
returns c =
    let l = c.loop-i in let e : l.i ≡ old_size = omega arith in subst (Copied _ _ _) e l.invariant.0
