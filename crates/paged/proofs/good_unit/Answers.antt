-- `good_unit` meets its contract. Assumes nothing.
use borrow.Author.Rules.{rules}
use Rattle.lane_test.proofs.Setting.{says-yes, says-no}
use Rattle.paged.proofs.Units.{good-filed}
use Rattle.paged.proofs.Tested.{unit-says}
use mathlib.Core.Path.{ap}
use mathlib.Core.Bool.{not}
use Rattle.paged.proofs.good_unit.Goals as goal

pub returns-then-not-good : goal.returns-then-not-good
returns-then-not-good c = λ g. says-no c.good.result c.good.ensures (ap not c.if-not-good.true) g.core

pub held-held-requires : goal.held-held-requires
held-held-requires c = good-filed c.args.t.now (says-yes c.good.result c.good.ensures (ap not c.if-not-good.false))

pub returns : goal.returns
returns c =
    let s = c in
    let g = c.good in
    let h = c.held-held in
    unit-says s.args.t.now h.result c.page_good.result c.if-t-lt-TABLE_SIZE.false (says-yes g.result g.ensures (ap not c.if-not-good.false)) h.ensures c.page_good.ensures
