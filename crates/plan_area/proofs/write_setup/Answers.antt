-- `write_setup` meets its contract. Assumes nothing.
use Rattle.plan_area.proofs.Steps.{write-short, write-plan}
use borrow.Author.Rules.{rules}
use Rattle.plan_area.proofs.write_setup.Goals as goal

pub returns-then-area-lt-SIZE : goal.returns-then-area-lt-SIZE
returns-then-area-lt-SIZE c = write-short c.args.area.now c.args.buf.now c.if-area-lt-SIZE.true

pub returns : goal.returns
returns c =
    let s = c in
    write-plan s.args.area.now s.args.buf.now c.if-area-lt-SIZE.false _ c.plan_in.ensures.0 _ _ c.write_setup.ensures
