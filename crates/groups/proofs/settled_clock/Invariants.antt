-- `settled_clock` meets its contract. The loop's invariant: of the groups met so far the least start is found, and each is after v. Assumes nothing.
use Prim.Native.Nat.{ℕ}
use Rattle.slot_lists.specs.Lists.{start_at}
use Rattle.groups.specs.Front.{Earliest}
use Rattle.groups.proofs.Laws.{Late}
use Rattle.groups.proofs.Walk.{Walked}
use Rattle.groups.proofs.settled_clock.Given as goal

abbrev pub invariant-loop-g : goal.invariant-loop-g
invariant-loop-g l = Walked l.t l.g-iterator.0 (λ (n : ℕ). Earliest (start_at l.t) n l.found × Late (start_at l.t) l.v n)
