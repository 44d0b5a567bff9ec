-- `record` meets its contract. Assumes nothing.
use Rattle.std.proofs.lemmas.Result.{err_from_is_err_and}
use Rattle.show.specs.Views.{waits}
use Rattle.show.proofs.Shows.{good-shows, find-refused, none-waits}
use Rattle.show.proofs.Spots.{shows-missing, shows-record}
use Rattle.show.proofs.record.Goals as goal

pub returns-in_err-l : goal.returns-in_err-l
returns-in_err-l c =
    let p = err_from_is_err_and c.from_residual.result c.from_residual.ensures.1 in
    rw (p.1, p.2) (find-refused (waits _ _ _) c.args.t.now c.args.lane _ c.in_err-l.ensures (λ d e. none-waits _ d e _ _))

pub returns-in_err-p : goal.returns-in_err-p
returns-in_err-p c =
    let t = c.args.t.now in
    let f = c.in_ok-l.ensures in
    let p = err_from_is_err_and c.from_residual-in_err-p.result c.from_residual-in_err-p.ensures.1 in
    rw (p.1, p.2) (good-shows (waits _ _ _) t _ f.0 (shows-missing t c.args.lane _ f c.args.train c.args.i _ c.in_err-p.ensures))

pub returns : goal.returns
returns c =
    let t = c.args.t.now in
    let f = c.in_ok-l.ensures in
    good-shows (waits _ _ _) t _ f.0
    (shows-record t c.args.lane _ f c.args.train c.args.i _ c.in_ok-p.ensures _ c.record_at-e.ensures.0)
