use Prim.Native.Nat.{◌%◌}
use native.Mathlib.Omega.{arith}
use Rattle.words.proofs.Bits.{shift_one}
use Rattle.round_test.proofs.Walk.{met-none, met-more, met_all}
use Rattle.round_test.proofs.seen.Goals as goal

pub loop-init : goal.loop-init
loop-init c = met-none _

pub loop-preserved : goal.loop-preserved
loop-preserved c =
    let l = c.loop in rw (shift_one (l.rest % 16) (omega arith)) (met-more _ _ _ _ l.invariant c.loop-test.true)

pub returns : goal.returns
returns c =
    let l = c.loop in met_all _ _ _ _ l.invariant c.loop-test.false
