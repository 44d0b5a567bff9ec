-- `lower` meets its contract. Assumes nothing.
use Rattle.slot_lists.proofs.Lowered.{SoFar}
use Rattle.slot_lists.proofs.lower.Given as goal

abbrev pub invariant-loop-g : goal.invariant-loop-g
invariant-loop-g l = SoFar l.initial.t l.t l.d l.g
