-- `in_turn` meets its contract. Assumes nothing.
use Rattle.journal.proofs.Fields.{turn-spent, turn-next}
use Rattle.journal.specs.Record.{rec_line}
use Rattle.journal.proofs.in_turn.Goals as goal

pub returns-then-old-ge-LAST : goal.returns-then-old-ge-LAST
returns-then-old-ge-LAST c = turn-spent (rec_line c.args.old) (rec_line c.args.r) c.if-old-ge-LAST.true

pub returns : goal.returns
returns c = turn-next (rec_line c.args.old) (rec_line c.args.r) c.if-old-ge-LAST.false
