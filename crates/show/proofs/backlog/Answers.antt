-- `backlog` meets its contract. Assumes nothing.
use Rattle.std.proofs.lemmas.Result.{err_from_is_err_and}
use Rattle.show.specs.Views.{backlog}
use Rattle.show.proofs.Shows.{good-shows, find-refused, none-backlog, shows-backlog}
use Rattle.show.proofs.backlog.Goals as goal

pub returns-in_err-l : goal.returns-in_err-l
returns-in_err-l c =
    let p = err_from_is_err_and c.from_residual.result c.from_residual.ensures.1 in
    rw (p.1, p.2) (find-refused (backlog _) c.args.t.now c.args.lane _ c.in_err-l.ensures (none-backlog _))

pub returns : goal.returns
returns c =
    let f = c.in_ok-l.ensures in
    good-shows (backlog _) c.args.t.now _ f.0 (shows-backlog c.args.t.now c.args.lane _ f)
