-- `is_halt` meets its contract. Assumes nothing.
use mathlib.Core.Path.{sym, ap, ◌∙◌}
use Rattle.editions.specs.Part.{new_in}
use Rattle.editions.proofs.Lent.{tail_all}
use Rattle.table.specs.Layout.{SIZE}
use Rattle.lane_test.proofs.Setting.{says-yes, says-no}
use Rattle.halt.proofs.Setups.{has-four}
use Rattle.halt.proofs.Tables.{table-lane, waits-not, table-say}
use borrow.Author.Rules.{rules}
use mathlib.Core.Bool.{not}
use Rattle.halt.proofs.is_halt.Goals as goal

pub returns-then-new-ne0 : goal.returns-then-new-ne0
returns-then-new-ne0 c =
    let t = c.args.t.now in
    λ g h. c.if-new-ne0.true (c.new.ensures ∙ ap new_in (tail_all SIZE t) ∙ waits-not t h.free)

pub returns-then-not-has_lane : goal.returns-then-not-has_lane
returns-then-not-has_lane c =
    let l = c.has_lane in
    λ g h. says-no l.result (table-lane c.args.t.now 0 512 l.result l.ensures) (ap not c.if-not-has_lane.true) (has-four _ h.setup).lane_0

pub returns-then-not-has_lane-2 : goal.returns-then-not-has_lane-2
returns-then-not-has_lane-2 c =
    let l = c.has_lane-2 in
    λ g h. says-no l.result (table-lane c.args.t.now 1 256 l.result l.ensures) (ap not c.if-not-has_lane-2.true) (has-four _ h.setup).lane_1

pub returns-then-not-has_lane-3 : goal.returns-then-not-has_lane-3
returns-then-not-has_lane-3 c =
    let l = c.has_lane-3 in
    λ g h. says-no l.result (table-lane c.args.t.now 2 128 l.result l.ensures) (ap not c.if-not-has_lane-3.true) (has-four _ h.setup).lane_2

pub returns : goal.returns
returns c =
    let t = c.args.t.now in
    let new = c in
    let l0 = c in
    let l1 = c in
    let l2 = c in
    λ g.
    table-say t g (ap new_in (sym (tail_all SIZE t)) ∙ sym new.new.ensures ∙ new.if-new-ne0.false)
    (says-yes l0.has_lane.result (table-lane t 0 512 l0.has_lane.result l0.has_lane.ensures) (ap not l0.if-not-has_lane.false))
    (says-yes l1.has_lane-2.result (table-lane t 1 256 l1.has_lane-2.result l1.has_lane-2.ensures) (ap not l1.if-not-has_lane-2.false))
    (says-yes l2.has_lane-3.result (table-lane t 2 128 l2.has_lane-3.result l2.has_lane-3.ensures) (ap not l2.if-not-has_lane-3.false))
    c.has_lane-4.result (table-lane t 3 128 c.has_lane-4.result c.has_lane-4.ensures)
