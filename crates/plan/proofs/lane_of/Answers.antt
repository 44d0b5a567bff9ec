-- `lane_of` meets its contract. Assumes nothing.
use Rattle.plan.proofs.lane_of.Goals as goal

pub returns : goal.returns
returns c = rw c.longest_of.ensures
