-- `begin` meets its contract. Assumes nothing.
use Rattle.board.specs.Layout.{BoardRoom}
use Rattle.journal.proofs.Steps.{Wiped}
use Rattle.journal.proofs.begin.Given as goal

abbrev pub invariant-loop-i : goal.invariant-loop-i
invariant-loop-i l = BoardRoom l.initial.t × Wiped l.initial.t l.t l.i
