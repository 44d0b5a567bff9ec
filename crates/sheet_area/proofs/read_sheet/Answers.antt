-- `read_sheet` meets its contract. Assumes nothing.
use Rattle.std.proofs.lemmas.Result.{err_from_is_err_and}
use Rattle.plan_area.proofs.Steps.{read_short, read-refused, read-stored}
use Rattle.sheet_area.proofs.Steps.{sheet-good, sheet-low}
use Rattle.sheet_area.proofs.read_sheet.Goals as goal

pub returns-then-area-lt-SIZE : goal.returns-then-area-lt-SIZE
returns-then-area-lt-SIZE c = search read_short

pub store-requires : goal.store-requires
store-requires c = (c.if-area-lt-SIZE.false, sheet-good _ _ c.in_ok-r.ensures, sheet-low _ _ c.in_ok-r.ensures)

pub returns-in_err-r : goal.returns-in_err-r
returns-in_err-r c =
    let p = err_from_is_err_and c.from_residual.result c.from_residual.ensures.1 in
    rw (p.1, p.2) (read-refused c.if-area-lt-SIZE.false _ c.in_err-r.ensures)

pub returns : goal.returns
returns c = read-stored c.if-area-lt-SIZE.false _ c.in_ok-r.ensures _ c.store.auto.area c.store.ensures
