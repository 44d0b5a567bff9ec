-- `store` meets its contract. Assumes nothing.
use mathlib.Core.List.{map}
use Rattle.plan.specs.Read.{setting_of}
use Rattle.plan_area.specs.Area.{AreaRoom}
use Rattle.plan_area.proofs.Stored.{Stored}
use Rattle.plan_area.proofs.store.Given as goal

abbrev pub invariant-loop-k : goal.invariant-loop-k
invariant-loop-k l = Stored l.format (map setting_of l.fn.plan.lanes) l.initial.area l.area l.k × AreaRoom l.initial.area
