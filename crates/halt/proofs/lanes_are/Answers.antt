-- `lanes_are` meets its contract. Assumes nothing.
use Rattle.lane_test.proofs.Setting.{says-yes, says-no}
use Rattle.halt.proofs.Setups.{has-four, four-say, lane-says}
use borrow.Author.Rules.{rules}
use mathlib.Core.Path.{ap}
use mathlib.Core.Bool.{not}
use Rattle.halt.proofs.lanes_are.Goals as goal

pub returns-then-not-lane_is : goal.returns-then-not-lane_is
returns-then-not-lane_is c =
    let l = c.lane_is in
    λ e. says-no l.result (lane-says c.args.lanes 0 512 l.result l.ensures) (ap not c.if-not-lane_is.true) (has-four _ e).lane_0

pub returns-then-not-lane_is-2 : goal.returns-then-not-lane_is-2
returns-then-not-lane_is-2 c =
    let l = c.lane_is-2 in
    λ e. says-no l.result (lane-says c.args.lanes 1 256 l.result l.ensures) (ap not c.if-not-lane_is-2.true) (has-four _ e).lane_1

pub returns-then-not-lane_is-3 : goal.returns-then-not-lane_is-3
returns-then-not-lane_is-3 c =
    let l = c.lane_is-3 in
    λ e. says-no l.result (lane-says c.args.lanes 2 128 l.result l.ensures) (ap not c.if-not-lane_is-3.true) (has-four _ e).lane_2

pub returns : goal.returns
returns c =
    let s = c in
    let l0 = c in
    let l1 = c in
    let l2 = c in
    four-say _ s.requires
    (says-yes l0.lane_is.result (lane-says s.args.lanes 0 512 l0.lane_is.result l0.lane_is.ensures) (ap not l0.if-not-lane_is.false))
    (says-yes l1.lane_is-2.result (lane-says s.args.lanes 1 256 l1.lane_is-2.result l1.lane_is-2.ensures) (ap not l1.if-not-lane_is-2.false))
    (says-yes l2.lane_is-3.result (lane-says s.args.lanes 2 128 l2.lane_is-3.result l2.lane_is-3.ensures) (ap not l2.if-not-lane_is-3.false))
    c.lane_is-4.result (lane-says s.args.lanes 3 128 c.lane_is-4.result c.lane_is-4.ensures)
