-- `copy` meets its contract. The loop's invariant: the bytes before the next one are copied. Assumes nothing.
use mathlib.Core.Path.{◌≡◌}
use lib.ListN.{length}
use Rattle.convert.specs.Over.{Copied}
use Rattle.convert.proofs.copy.Given as goal

abbrev pub invariant-loop-i : goal.invariant-loop-i
invariant-loop-i l = Copied l.old l.initial.new l.new l.i × (length l.new ≡ length l.initial.new)
