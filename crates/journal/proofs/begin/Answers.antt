-- `begin` meets its contract. Assumes nothing.
use mathlib.Core.Path.{◌≡◌, sym, subst}
use Prim.Native.Nat.{◌+◌}
use native.Mathlib.Omega.{arith}
use Rattle.journal.proofs.Steps.{Wiped, wiped-more, begin-done}
use Rattle.journal.proofs.begin.Goals as goal

pub loop-i-preserved : goal.loop-i-preserved
loop-i-preserved c =
    let l = c.loop-i in (l.invariant.0, subst (λ x. Wiped c.args.t.now x (l.i + 1)) (sym c.set_word.ensures) (wiped-more c.args.t.now l.t l.i l.invariant.0 (omega arith) l.invariant.1))

pub returns : goal.returns
returns c =
    let l = c.loop-i in begin-done c.args.t.now l.t l.invariant.0 (let e : l.i ≡ 128 = omega (arith, l.invariant.1.within) in rw e at l.invariant.1)
