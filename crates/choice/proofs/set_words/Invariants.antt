-- `set_words` meets its contract. Assumes nothing.
use Rattle.table.specs.Means.{meant}
use Rattle.choice.proofs.Walked.{Walked}
use Rattle.choice.proofs.set_words.Given as goal

abbrev pub invariant-loop-i : goal.invariant-loop-i
invariant-loop-i l = Walked (meant l.t).clock (meant l.t).lanes l.i-iterator.iter.0 l.a
