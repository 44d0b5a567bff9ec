-- `lanes_over` meets its contract. The loop's invariant: the lanes below some number are taken over, and what is left of the word are its bits from
-- there on. Assumes nothing.
use Prim.Native.Nat.{ℕ}
use lib.ListN.{get_or}
use Rattle.words.proofs.Walk.{Left}
use Rattle.table.specs.Layout.{Behind, cells, present_word}
use Rattle.convert.specs.Over.{Over}
use Rattle.convert.proofs.lanes_over.Given as goal

abbrev pub invariant-loop-k : goal.invariant-loop-k
invariant-loop-k l = (n : ℕ) × Left (get_or (cells l.old) present_word 0) l.k-iterator.0 n × Over l.old l.new n × Behind l.initial.new l.new
