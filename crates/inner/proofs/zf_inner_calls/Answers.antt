-- `zf_inner_calls` meets its contract. Assumes nothing.
use mathlib.Core.Path.{ap, ◌∙◌}
use mathlib.Core.Bool.{not}
use Rattle.good.specs.Table.{GoodTable}
use Rattle.scheduler.proofs.Steps.{says-yes, says-no, good-known}
use Rattle.inner.proofs.Calls.{Begun, begun, bad-works, held-works, done-works}
use Rattle.inner.proofs.zf_inner_calls.Goals as goal

pub returns-then-not-good : goal.returns-then-not-good
returns-then-not-good c = bad-works _ _ (says-no c.good.result c.good.ensures (ap not c.if-not-good.true))

pub restart-requires : goal.restart-requires
restart-requires c = good-known _ (says-yes c.good.result c.good.ensures (ap not c.if-not-good.false))

pub work-requires : goal.work-requires
work-requires c =
    let table-good : GoodTable c.args.table.now = says-yes c.good.result c.good.ensures (ap not c.if-not-good.false) in
    (begun _ _ _ (good-known _ table-good) c.in-Ok.ensures).made

pub returns-in-Ok : goal.returns-in-Ok
returns-in-Ok c =
    let table-good : GoodTable c.args.table.now = says-yes c.good.result c.good.ensures (ap not c.if-not-good.false) in
    let is-begun : Begun c.args.table.now c.restart.new.t = begun _ _ _ (good-known _ table-good) c.in-Ok.ensures in
    done-works _ _ _ _ table-good is-begun (c.work.auto.t ∙ c.restart.auto.t) c.work.ensures

pub returns-in-Err : goal.returns-in-Err
returns-in-Err c = held-works _ _ _ _ (says-yes c.good.result c.good.ensures (ap not c.if-not-good.false)) c.in-Err.ensures
