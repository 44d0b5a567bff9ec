-- `wait` meets its contract. Assumes nothing.
use Rattle.std.proofs.lemmas.Result.{err_from_is_err_and}
use Rattle.show.specs.Views.{wait}
use Rattle.show.proofs.Shows.{good-shows, find-refused, none-wait}
use Rattle.show.proofs.WorstWaits.{shows-wait, shows-no-room}
use Rattle.show.proofs.wait.Goals as goal

pub returns-in_err-find : goal.returns-in_err-find
returns-in_err-find c =
    let p = err_from_is_err_and c.from_residual.result c.from_residual.ensures.1 in
    rw (p.1, p.2) (find-refused (wait _ _) c.args.t.now c.args.lane _ c.in_err-find.ensures (λ d e. none-wait _ d e _))

pub returns-then-room-ahead : goal.returns-then-room-ahead
returns-then-room-ahead c =
    let t = c.args.t.now in
    let f = c.in_ok-find.ensures in
    let n = c.numbers-given in
    good-shows (wait _ _) t _ f.0
    (shows-no-room t c.args.lane _ f n.result n.ensures _ c.room.ensures c.args.ahead c.if-room-ahead.true c.no_room.result c.no_room.ensures)

pub returns : goal.returns
returns c =
    let t = c.args.t.now in
    let f = c.in_ok-find.ensures in
    let n = c.numbers-given in
    good-shows (wait _ _) t _ f.0
    (shows-wait t c.args.lane _ f n.result n.ensures _ c.room.ensures c.args.ahead c.if-room-ahead.false c.both.result c.both.ensures)
