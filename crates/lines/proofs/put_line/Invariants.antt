-- `put_line` meets its contract. The loop's invariant: what is left of the line is its numbers from this one on. Assumes nothing.
use Rattle.lines.proofs.Writing.{Left, tail}
use Rattle.lines.proofs.put_line.Given as goal

abbrev pub invariant-loop-n : goal.invariant-loop-n
invariant-loop-n l = Left l.initial.a l.a l.initial.p (tail l.ns 0) l.p (tail l.ns l.n-index)
