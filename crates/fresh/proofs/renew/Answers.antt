use Rattle.table.proofs.Leave.{sound-after}
use Rattle.fresh.proofs.Writing.{renew-makes}
use borrow.Author.Rules.{rules}
use Rattle.fresh.proofs.renew.Goals as goal

pub set_clock-requires : goal.set_clock-requires
set_clock-requires c = sound-after c.requires c.rest_lanes.ensures c.rest_lanes.auto.t

pub returns : goal.returns
returns c = renew-makes c.args.t.now _ _ _ c.requires c.rest_lanes.ensures c.set_clock.ensures c.empty.ensures
