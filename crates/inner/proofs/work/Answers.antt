-- `work` meets its contract. Assumes nothing.
use native.Mathlib.Omega.{arith}
use Rattle.answers.proofs.Made.{reached-known}
use Rattle.inner.proofs.Calls.{so-none, so-more, so-all}
use Rattle.inner.proofs.work.Goals as goal

pub loop-i-init : goal.loop-i-init
loop-i-init c = so-none _ _ c.requires

pub call-requires : goal.call-requires
call-requires c = (reached-known _ c.loop-i.invariant.made, omega (arith, c.loop-i-test.true))

pub loop-i-preserved : goal.loop-i-preserved
loop-i-preserved c = so-more _ _ _ _ _ _ c.loop-i.invariant c.call.ensures

pub returns : goal.returns
returns c = so-all _ _ _ _ (omega arith) c.loop-i.invariant
