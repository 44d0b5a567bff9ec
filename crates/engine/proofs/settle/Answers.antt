-- `settle` meets its contract. Assumes nothing.
use Rattle.engine.proofs.Handing.{settled-stays}
use borrow.Author.Rules.{rules}
use Rattle.engine.proofs.settle.Goals as goal

pub returns-then-r-v : goal.returns-then-r-v
returns-then-r-v c =
    let s = c in
    settled-stays _ _ _ _ s.requires.3 c.if-r-v.true s.requires.4 c.set_clock.ensures

pub returns-else-r-v : goal.returns-else-r-v
returns-else-r-v c = record { clock = c.settled_clock-settled.result; is = c.settled_clock-settled.ensures; leaves = c.set_clock-else-r-v.ensures }
