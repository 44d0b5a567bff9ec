use Prim.Native.Nat.{◌^◌, ◌<◌}
use Rattle.lists_test.proofs.RingWalk.{Read}
use Rattle.lists_test.proofs.ring_met.Given as goal

abbrev pub invariant-loop-j : goal.invariant-loop-j
invariant-loop-j l = Read l.t l.i l.g l.at l.before l.j l.met × (l.met < 2 ^ 64)
