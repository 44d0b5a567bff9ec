-- `lanes_good` meets its contract. The loop's invariant: the lanes below some number are passed, and what is left of the word are its bits from there on.
-- Assumes nothing.
use Prim.Native.Nat.{ℕ}
use mathlib.Core.List.{List}
use native.Mathlib.Omega.{arith}
use Rattle.good.specs.Pass.{PassSays}
use Rattle.good.proofs.Walk.{walked_none, walked_all, walked_on, lane_here, lane-stops, note-takes, row-framed}
use mathlib.Core.Path.{ap, ◌∙◌}
use mathlib.Core.Bool.{not}
use Rattle.words.specs.declared.SetBits.{SetBits}
use Rattle.good.proofs.lanes_good.Goals as goal

pub loop-lane-init : goal.loop-lane-init
loop-lane-init g c = walked_none _ _ (ap (λ (s : SetBits). s.0) c.into_iter-lane-iterator.ensures.into_iter_gives ∙ c.cell.ensures)

pub row-l-requires : goal.row-l-requires
row-l-requires g c = (c.requires.1, c.in-Some.ensures.steps.small)

pub lane_good-good-requires : goal.lane_good-good-requires
lane_good-good-requires g c =
    let pre = c.requires in
    let r = c.row-l.ensures in
    let next = c.in-Some.ensures.steps in
    (pre.1, next.small, lane_here c.loop-lane.invariant next, r.0, r.1, r.2, pre.2, row-framed (g.L.Layout.kept _) r.0 pre.3)

pub returns-then-not-good : goal.returns-then-not-good
unfolding PassSays
returns-then-not-good g c =
    lane-stops c.loop-lane.invariant c.in-Some.ensures.steps c.lane_good-good.result c.lane_good-good.ensures (ap not c.if-not-good.true)

pub note-found-requires : goal.note-found-requires
note-found-requires g c =
    note-takes c.loop-lane.invariant c.in-Some.ensures.steps c.lane_good-good.result c.lane_good-good.ensures (ap not c.if-not-good.false) _ c.row-l.ensures.0

pub loop-lane-preserved : goal.loop-lane-preserved
loop-lane-preserved g c =
    walked_on c.loop-lane.invariant c.in-Some.ensures.steps c.lane_good-good.result c.lane_good-good.ensures (ap not c.if-not-good.false) _ c.row-l.ensures.0 _ c.note-found.ensures

pub returns : goal.returns
unfolding PassSays
returns g c = walked_all c.loop-lane.invariant c.in-None.ensures.steps.0
