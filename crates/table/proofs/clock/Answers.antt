use Rattle.table.specs.Means.{state_of}
use Rattle.table.proofs.clock.Goals as goal

pub returns : goal.returns
unfolding state_of
returns c = c.cell.ensures
