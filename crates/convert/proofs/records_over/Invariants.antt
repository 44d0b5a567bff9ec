-- `records_over` meets its contract. The loop's invariant: the records before the next one are written. Assumes nothing.
use Rattle.convert.specs.Over.{Filled}
use Rattle.convert.proofs.records_over.Given as goal

abbrev pub invariant-loop-i : goal.invariant-loop-i
invariant-loop-i w = Filled w.old w.initial.new w.new w.k w.l w.i
