-- `lower_lanes` meets its contract. The loop's invariant: the lanes below some number are lowered, and what is left of the word are its bits from there
-- on. Assumes nothing.
use Prim.Native.Nat.{ℕ}
use lib.ListN.{get_or}
use Rattle.words.proofs.Walk.{Left}
use Rattle.table.specs.Layout.{cells, present_word}
use Rattle.table.specs.Means.{meant, Sound, Leaves}
use Rattle.back.specs.Back.{lowered_to}
use Rattle.back.proofs.lower_lanes.Given as goal

abbrev pub invariant-loop-k : goal.invariant-loop-k
invariant-loop-k l =
    (n : ℕ) × Left (get_or (cells l.initial.t) present_word 0) l.k-iterator.0 n × Leaves l.initial.t l.t (lowered_to n l.d.0 (meant l.initial.t)) × Sound l.t
