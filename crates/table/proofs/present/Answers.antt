use Rattle.table.specs.Means.{present_at}
use Rattle.table.proofs.present.Goals as goal

pub returns : goal.returns
unfolding present_at
returns c = rw c.cell-lanes.ensures
