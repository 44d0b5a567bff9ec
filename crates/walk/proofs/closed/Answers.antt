-- `closed` meets its contract. Assumes nothing.
use borrow.Author.Tests.{lt-ltb, le-ltb}
use Rattle.walk.proofs.closed.Goals as goal

pub returns-then-at-s : goal.returns-then-at-s
returns-then-at-s c = simp (lt-ltb _ _ c.if-at-s.true)

pub returns : goal.returns
returns c = simp (le-ltb _ _ c.if-at-s.false)
