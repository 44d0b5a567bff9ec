use Prim.Native.Nat.{◌*◌}
use Rattle.round_test.specs.Shared.{numbers_at}
use Rattle.round_test.proofs.Counts.{Counted}
use Rattle.round_test.proofs.held.Given as goal

abbrev pub invariant-loop-i : goal.invariant-loop-i
invariant-loop-i l = Counted (numbers_at l.t l.trains) l.held (2 * l.i)
