-- `put_any` meets its contract. Assumes nothing.
use Rattle.lines.proofs.put_any.Goals as goal

pub put_line-requires : goal.put_line-requires
put_line-requires c = rw c.if-shared.true at c.requires

pub returns-then-shared : goal.returns-then-shared
returns-then-shared c = rw c.if-shared.true c.put_line.ensures

pub put_line-requires-2 : goal.put_line-requires-2
put_line-requires-2 c = rw c.if-shared.false at c.requires

pub returns : goal.returns
returns c = rw c.if-shared.false c.put_line-2.ensures
