use Prim.Native.Nat.{◌+◌, ◌*◌}
use native.Mathlib.Omega.{arith}
use mathlib.Core.Path.{◌≡◌, subst}
use Rattle.round_test.specs.Shared.{numbers_at}
use Rattle.round_test.proofs.Counts.{Counted, counted_none, counted-more}
use Rattle.round_test.proofs.held.Goals as goal

pub loop-i-init : goal.loop-i-init
loop-i-init c = counted_none _

pub loop-i-preserved : goal.loop-i-preserved
loop-i-preserved c =
    let l = c.loop-i in
    let on : 2 * l.i + 2 ≡ 2 * (l.i + 1) = omega arith in
    subst (Counted (numbers_at c.args.t.now c.args.trains) _) on (counted-more _ _ _ _ l.invariant (omega arith) c.two_counts-held.ensures)
