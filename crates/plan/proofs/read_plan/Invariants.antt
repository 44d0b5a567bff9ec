-- `plan::read_plan` meets its contract. Assumes nothing.
use Prim.Native.Nat.{◌-◌}
use lib.ListN.{length}
use mathlib.Core.List.{map}
use Rattle.plan.proofs.Walks.{Standing}
use Rattle.plan.specs.Read.{setting_of}
use Rattle.plan.proofs.read_plan.Given as goal

abbrev pub invariant-loop-field : goal.invariant-loop-field
invariant-loop-field l = Standing l.s l.at l.seen (map setting_of l.lanes) l.p

abbrev pub decreases-loop-field : goal.decreases-loop-field
decreases-loop-field l = length l.s - l.p
