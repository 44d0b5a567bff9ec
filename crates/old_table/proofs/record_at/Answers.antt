use Rattle.old_table.proofs.Reading.{entry_read}
use Rattle.old_table.proofs.record_at.Goals as goal

pub returns : goal.returns
returns c =
    let s = c in entry_read _ s.args.k s.args.i c.cell-x.result c.cell-x.ensures
