-- `line_framing` meets its contract. Assumes nothing.
use Rattle.plan_writer.proofs.Lane.{Line}
use Rattle.plan_writer.proofs.line_framing.Given as goal

abbrev pub invariant-loop-l : goal.invariant-loop-l
invariant-loop-l l = Line l.fn.lanes l.l-index l.h
