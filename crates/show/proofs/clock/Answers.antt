-- `clock` meets its contract. Assumes nothing.
use Rattle.show.specs.Views.{clock}
use Rattle.show.proofs.Shows.{good-shows, shows-clock}
use Rattle.show.proofs.clock.Goals as goal

pub returns : goal.returns
returns c = good-shows clock c.args.t.now _ c.in_ok-tested.ensures.good (shows-clock c.args.t.now _ c.clock.ensures)
