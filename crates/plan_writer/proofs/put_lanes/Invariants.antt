use Rattle.plan_writer.proofs.Writing.{Laying}
use Rattle.plan_writer.proofs.put_lanes.Given as goal

abbrev pub invariant-loop-k : goal.invariant-loop-k
invariant-loop-k l = Laying l.initial.a l.at l.fn.lanes l.a l.p l.k
