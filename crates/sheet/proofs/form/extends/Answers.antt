-- `form::extends` meets its contract. Assumes nothing.
use borrow.Author.Tests.{lt-ltb, le-ltb}
use Rattle.sheet.proofs.form.extends.Goals as goal

pub returns-then-value-gt0 : goal.returns-then-value-gt0
returns-then-value-gt0 c = rw (c.if-begun.true, lt-ltb 0 c.args.value c.if-value-gt0.true)

pub returns-else-value-gt0 : goal.returns-else-value-gt0
returns-else-value-gt0 c = rw (c.if-begun.true, le-ltb 0 c.args.value c.if-value-gt0.false)
