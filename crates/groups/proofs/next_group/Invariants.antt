-- `next_group` meets its contract. The loop's invariant: of the groups met so far the best is found. Assumes nothing.
use Prim.Native.Nat.{ℕ}
use Rattle.slot_lists.specs.Lists.{start_at}
use Rattle.groups.specs.Front.{Leads}
use Rattle.groups.proofs.Walk.{Walked}
use Rattle.groups.proofs.next_group.Given as goal

abbrev pub invariant-loop-g : goal.invariant-loop-g
invariant-loop-g l = Walked l.t l.g-iterator.0 (λ (n : ℕ). Leads (start_at l.t) l.v n l.best)
