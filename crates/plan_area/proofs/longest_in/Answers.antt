-- `longest_in` meets its contract. Assumes nothing.
use borrow.Author.Tests.{eq-eqb, ne_eqb}
use borrow.Author.Rules.{rules}
use Rattle.plan_area.proofs.longest_in.Goals as goal

pub returns-then-w-eq1 : goal.returns-then-w-eq1
returns-then-w-eq1 c = rw (eq-eqb _ 1 c.if-w-eq1.true)

pub returns : goal.returns
returns c = rw (ne_eqb _ 1 c.if-w-eq1.false)
