-- `plan_in` meets its contract. Assumes nothing.
use Rattle.plan_area.proofs.Filled.{Filled}
use Rattle.plan_area.proofs.plan_in.Given as goal

abbrev pub invariant-loop-k : goal.invariant-loop-k
invariant-loop-k l = Filled l.area l.lanes l.count l.k
