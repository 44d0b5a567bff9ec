-- `put_format` meets its contract. Assumes nothing.
use lib.ListN.{length-set}
use native.Mathlib.Omega.{arith}
use borrow.Author.Rules.{rules}
use Rattle.plan_writer.proofs.put_format.Goals as goal

pub bounds-a-1 : goal.bounds-a-1
bounds-a-1 c = simp length-set (omega arith)

pub bounds-a-2 : goal.bounds-a-2
bounds-a-2 c = simp length-set (omega arith)

pub bounds-a-3 : goal.bounds-a-3
bounds-a-3 c = simp length-set (omega arith)

pub bounds-a-4 : goal.bounds-a-4
bounds-a-4 c = simp length-set (omega arith)
