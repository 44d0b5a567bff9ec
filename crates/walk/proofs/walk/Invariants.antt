-- `walk` meets its contract. The loop over fields knows `Stands`, the loop over a value's bytes `Reading`. Assumes nothing.
use Prim.Native.Nat.{◌-◌}
use mathlib.Core.Path.{◌≡◌}
use lib.ListN.{length}
use Rattle.walk.proofs.Reading.{Reading}
use Rattle.walk.proofs.Walking.{Stands}
use Rattle.walk.specs.declared.Stop.TheVariants.{Limit}
use Rattle.walk.proofs.walk.Given as goal

abbrev pub invariant-loop-i : goal.invariant-loop-i
invariant-loop-i l = Reading l.s l.at l.size l.i l.value × (l.why ≡ l.initial.why)

abbrev pub invariant-fields : goal.invariant-fields
invariant-fields l = Stands l.s l.from l.limit l.initial.t l.initial.a l.start l.t l.a l.at l.done.next l.done.answered × (l.why ≡ Limit) × (length l.t ≡ length l.initial.t)

abbrev pub decreases-fields : goal.decreases-fields
decreases-fields l = l.limit - l.done.answered
