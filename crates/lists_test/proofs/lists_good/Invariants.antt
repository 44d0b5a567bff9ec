-- `lists_good` meets its contract. The loop's invariant: the groups below some number are passed, and what is left of the word are its bits from there
-- on. Assumes nothing.
use Prim.Native.Nat.{ℕ, ◌^◌, ◌<◌}
use Rattle.words.proofs.Walk.{Left}
use Rattle.slot_lists.specs.Lists.{groups_at}
use Rattle.lists_test.proofs.GroupWalk.{Passed}
use Rattle.lists_test.proofs.lists_good.Given as goal

abbrev pub invariant-loop-g : goal.invariant-loop-g
invariant-loop-g l = (n : ℕ) × Left (groups_at l.t) l.g-iterator.0 n × Passed l.t n l.met × (l.met < 2 ^ 64)
