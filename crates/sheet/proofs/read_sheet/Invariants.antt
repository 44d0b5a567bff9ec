-- `read_sheet` meets its contract. Assumes nothing.
use mathlib.Core.List.{map}
use Rattle.plan.specs.Read.{setting_of}
use Rattle.sheet.proofs.Walks.{Standing}
use Rattle.sheet.proofs.read_sheet.Given as goal

abbrev pub invariant-loop-i : goal.invariant-loop-i
invariant-loop-i l = Standing l.s l.seen (map setting_of l.lanes) l.f l.i
