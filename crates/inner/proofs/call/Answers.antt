-- `call` meets its contract. Assumes nothing.
use Rattle.inner.proofs.Calls.{put-at, take_at}
use borrow.Author.Rules.{rules}
use Rattle.inner.proofs.call.Goals as goal

pub returns-then-lane-lt64 : goal.returns-then-lane-lt64
returns-then-lane-lt64 c =
    put-at _ _ _ c.if-lane-lt64.true
    c.u16_at-n.ensures.0 c.put.ensures

pub returns-else-lane-lt64 : goal.returns-else-lane-lt64
returns-else-lane-lt64 c = take_at _ _ c.if-lane-lt64.false c.take.ensures
