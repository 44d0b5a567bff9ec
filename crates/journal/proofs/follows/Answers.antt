-- `follows` meets its contract. Assumes nothing.
use Rattle.journal.proofs.Fields.{leave-joined, leave-else, join-after}
use Rattle.journal.specs.Record.{rec_line}
use Rattle.journal.proofs.follows.Goals as goal

pub returns-then-old-eq-JOINED : goal.returns-then-old-eq-JOINED
returns-then-old-eq-JOINED c = leave-joined (rec_line c.args.old) (rec_line c.args.r) c.if-r-eq-LEFT.true c.if-old-eq-JOINED.true

pub returns-then-r-eq-LEFT : goal.returns-then-r-eq-LEFT
returns-then-r-eq-LEFT c = leave-else (rec_line c.args.old) (rec_line c.args.r) c.if-r-eq-LEFT.true c.if-old-eq-JOINED.false

pub returns : goal.returns
returns c = join-after (rec_line c.args.old) (rec_line c.args.r) c.if-r-eq-LEFT.false
