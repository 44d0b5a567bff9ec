-- `put_lanes` meets its contract. Assumes nothing.
use mathlib.Core.List.{map}
use Rattle.plan.specs.Read.{setting_of}
use Rattle.plan_writer.specs.Write.{numbered}
use Rattle.sheet_writer.proofs.Writing.{Writing}
use Rattle.sheet_writer.proofs.put_lanes.Given as goal

abbrev pub invariant-loop-k : goal.invariant-loop-k
invariant-loop-k l = Writing (numbered (map setting_of l.fn.lanes)) l.initial.a l.a l.at l.k
