-- `sheet_size` meets its contract. Assumes nothing.
use mathlib.Core.List.{map}
use Rattle.plan.specs.Read.{setting_of}
use Rattle.plan_writer.specs.Write.{numbered}
use Rattle.sheet_writer.proofs.Writing.{Sizing}
use Rattle.sheet_writer.proofs.sheet_size.Given as goal

abbrev pub invariant-loop-k : goal.invariant-loop-k
invariant-loop-k l = Sizing (numbered (map setting_of l.fn.lanes)) l.n l.k
