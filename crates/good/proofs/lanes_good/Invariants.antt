-- `lanes_good` meets its contract. The loop's invariant: the lanes below some number are passed, and what is left of the word are its bits from there on.
-- Assumes nothing.
use Prim.Native.Nat.{ℕ}
use mathlib.Core.List.{List}
use Rattle.table.specs.Layout.{cells}
use Rattle.good.proofs.Walk.{Tested, Walked}
use Rattle.good.proofs.lanes_good.Given as goal

abbrev pub invariant-loop-lane : goal.invariant-loop-lane
invariant-loop-lane g l =
    Walked (record { kept = g.L.Layout.kept (cells l.t); Passes = g.L.Layout.passes l.v.0 (cells l.t); fine = g.met.L.Layout.fine l.v.0 (cells l.t) }) l.lane-iterator.0 l.found
