-- `within` meets its contract. Assumes nothing.
use Rattle.plan_writer.proofs.Judging.{So}
use Rattle.plan_writer.proofs.within.Given as goal

abbrev pub invariant-loop-l : goal.invariant-loop-l
invariant-loop-l l = So l.plan.lanes l.h l.l-index l.total l.there
