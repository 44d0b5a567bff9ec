-- `edition` meets its contract. Assumes nothing.
use Rattle.show.specs.Views.{edition}
use Rattle.show.proofs.Shows.{good-shows, shows-edition}
use Rattle.show.proofs.edition.Goals as goal

pub returns : goal.returns
returns c =
    let e = c.editions_of in
    good-shows edition c.args.t.now _ c.in_ok-tested.ensures.good (shows-edition c.args.t.now e.result.last e.result.waiting e.ensures.0 e.ensures.1)
