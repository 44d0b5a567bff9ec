-- `sorted` meets its contract. Assumes nothing.
use borrow.Author.Rules.{rules}
use Rattle.choice.proofs.sorted.Goals as goal

pub returns-then-blocked : goal.returns-then-blocked
returns-then-blocked c = simp (c.if-eligible.true, c.if-blocked.true)

pub returns-else-blocked : goal.returns-else-blocked
returns-else-blocked c = simp (c.if-eligible.true, c.if-blocked.false)

pub returns-then-blocked-2 : goal.returns-then-blocked-2
returns-then-blocked-2 c = simp (c.if-eligible.false, c.if-blocked-2.true)

pub returns-else-blocked-2 : goal.returns-else-blocked-2
returns-else-blocked-2 c = simp (c.if-eligible.false, c.if-blocked-2.false)
