-- `put_record` meets its contract. Assumes nothing.
use borrow.Author.Tests.{not-true}
use mathlib.Core.Path.{ap}
use mathlib.Core.Bool.{not}
use Rattle.lines.proofs.put_record.Goals as goal

pub put_three-requires : goal.put_three-requires
put_three-requires c = rw (not-true c.args.shared (ap not c.if-not-shared.true)) at c.requires

pub returns-then-n-lt10000 : goal.returns-then-n-lt10000
returns-then-n-lt10000 c = rw (not-true c.args.shared (ap not c.if-not-shared.true)) c.put_three.ensures
