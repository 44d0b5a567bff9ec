-- `put_end` meets its contract. Assumes nothing.
use lib.ListN.{length-set}
use native.Mathlib.Numerals.{towards_suc}
use native.Mathlib.Omega.{arith}
use borrow.Author.Rules.{rules}
use Rattle.plan_writer.proofs.put_end.Goals as goal

pub bounds-a-at-2 : goal.bounds-a-at-2
bounds-a-at-2 c = simp length-set (omega arith)

pub bounds-a-at-3 : goal.bounds-a-at-3
bounds-a-at-3 c = simp length-set (omega arith)

pub returns : goal.returns
returns c = simp towards_suc
