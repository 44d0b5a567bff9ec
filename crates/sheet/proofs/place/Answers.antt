-- `place` meets its contract. Assumes nothing.
use Rattle.plan.proofs.Lists.{map-set}
use Rattle.plan.specs.Read.{setting_of}
use Rattle.sheet.proofs.place.Goals as goal

pub returns : goal.returns
returns c =
    let a = c.args in map-set setting_of a.lanes.now a.row.lane.value _
