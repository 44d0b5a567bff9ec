-- `plan::judge::known_format` meets its contract. Assumes nothing.
use borrow.Author.Tests.{ne_eqb}
use Rattle.plan.proofs.judge.known_format.Goals as goal

pub returns-then-format-eq-FIRST_FORMAT : goal.returns-then-format-eq-FIRST_FORMAT
returns-then-format-eq-FIRST_FORMAT c = rw c.if-format-eq-FIRST_FORMAT.true

pub returns-else-format-eq-FIRST_FORMAT : goal.returns-else-format-eq-FIRST_FORMAT
returns-else-format-eq-FIRST_FORMAT c = rw (ne_eqb _ 1 c.if-format-eq-FIRST_FORMAT.false)
