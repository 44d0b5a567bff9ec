use Rattle.table.proofs.Stores.{now-then}
use Rattle.table.specs.Layout.{put_row}
use Rattle.table.proofs.set_row.Goals as goal

pub returns : goal.returns
unfolding put_row
returns c = now-then _ _ _ c.set_cell.ensures c.set_cell-2.ensures
