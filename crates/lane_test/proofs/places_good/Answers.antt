use Rattle.lane_test.proofs.Lane.{places-say}
use Rattle.lane_test.proofs.places_good.Goals as goal

pub returns : goal.returns
returns c =
    let s = c in
    places-say s.args.t.now s.args.k c.gather.result s.args.l c.no_top.result s.requires.1 c.gather.ensures c.no_top.ensures
