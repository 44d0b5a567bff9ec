-- `lane` meets its contract. Assumes nothing.
use Rattle.std.proofs.lemmas.Result.{err_from_is_err_and}
use Rattle.show.specs.Views.{lane}
use Rattle.show.proofs.Shows.{good-shows, find-refused, none-lane, shows-setting}
use Rattle.show.proofs.lane.Goals as goal

pub returns-in_err-l : goal.returns-in_err-l
returns-in_err-l c =
    let p = err_from_is_err_and c.from_residual.result c.from_residual.ensures.1 in
    rw (p.1, p.2) (find-refused (lane _) c.args.t.now c.args.lane _ c.in_err-l.ensures (none-lane _))

pub returns : goal.returns
returns c =
    let t = c.args.t.now in
    let p = c.pace_of-p in
    let f = c.in_ok-l.ensures in
    good-shows (lane _) t _ f.0 (shows-setting t c.args.lane _ f p.result.group p.ensures.0.grouped)
