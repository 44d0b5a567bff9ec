-- `framing_size` meets its contract. Assumes nothing.
use borrow.Author.Tests.{ne_eqb}
use Rattle.plan_writer.proofs.framing_size.Goals as goal

pub returns-then-h-eq-NO_FRAMING : goal.returns-then-h-eq-NO_FRAMING
returns-then-h-eq-NO_FRAMING c = rw c.if-h-eq-NO_FRAMING.true

pub returns-else-h-eq-NO_FRAMING : goal.returns-else-h-eq-NO_FRAMING
returns-else-h-eq-NO_FRAMING c = rw (ne_eqb _ 0 c.if-h-eq-NO_FRAMING.false)
