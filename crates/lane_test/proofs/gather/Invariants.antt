use Rattle.digits.specs.Under.{Gathered}
use Rattle.lane_test.proofs.gather.Given as goal

abbrev pub invariant-loop-i : goal.invariant-loop-i
invariant-loop-i l = Gathered l.t l.from l.i l.bound l.tops
