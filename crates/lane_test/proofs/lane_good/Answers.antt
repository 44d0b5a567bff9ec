use Rattle.lane_test.proofs.Lane.{lane_room, lane-time, lane-idle}
use Rattle.lane_test.proofs.Trains.{lane_plain, lane-shared}
use Rattle.lane_test.proofs.Setting.{says-yes, says-no}
use Rattle.lane_test.specs.Says.{Says, TimeGood, TrainsGood, LaneGood}
use Rattle.table.specs.declared.LaneRow.{LaneRow}
use Rattle.table.specs.Means.{RowAgrees, RowPaced, PlacesFit, given_of}
use Rattle.table.specs.Layout.{cells}
use Rattle.table.proofs.Agrees.{paced-group}
use Rattle.rules.specs.State.{group, lane_depth}
use Rattle.std.proofs.Common.{◌≡◌, ◌<◌, ◌≤◌, true, false, not, sym, subst, arith}
use mathlib.Core.Path.{ap}
use mathlib.Core.Bool.{not}
use Rattle.lane_test.proofs.lane_good.Goals as goal

-- an idle lane has no place to look at
pub returns-then-l-eq0 : goal.returns-then-l-eq0
returns-then-l-eq0 c =
    let numbers : RowAgrees c.args.l = says-yes c.numbers_good-agrees.result c.numbers_good-agrees.ensures (ap not c.if-not-agrees.false) in
    let one = c in
    let s = one in
    lane-idle s.args.v.0 (cells s.args.t.now) s.args.k s.requires.2 s.args.l c.rest_good.result s.requires.3 numbers c.if-l-eq0.true c.rest_good.ensures

pub returns-then-l-gt-DEPTH : goal.returns-then-l-gt-DEPTH
returns-then-l-gt-DEPTH c =
    let s = c in
    λ g. let few : s.args.l.count ≤ lane_depth = subst (λ (l : LaneRow). l.count ≤ lane_depth) (sym s.requires.3) (lane_room s.args.v.0 (cells s.args.t.now) s.args.k s.requires.2 g) in omega (arith, few, c.if-l-gt-DEPTH.true)

pub time_good-timed-requires : goal.time_good-timed-requires
time_good-timed-requires c =
    let numbers : RowAgrees c.args.l = says-yes c.numbers_good-agrees.result c.numbers_good-agrees.ensures (ap not c.if-not-agrees.false) in
    let paced : RowPaced c.args.l = says-yes c.pace_good-paced.result c.pace_good-paced.ensures (ap not c.if-not-paced.false) in
    let one = c in
    let s = one in
    ((paced-group s.args.l numbers paced).1, s.requires.6, s.requires.7)

pub returns-then-not-timed : goal.returns-then-not-timed
returns-then-not-timed c =
    let paced : RowPaced c.args.l = says-yes c.pace_good-paced.result c.pace_good-paced.ensures (ap not c.if-not-paced.false) in
    let four = c in
    let s = four in
    let v = s.args.v.0 in
    λ g. says-no c.time_good-timed.result c.time_good-timed.ensures (ap not c.if-not-timed.true)
    (subst (TimeGood v s.args.l) (sym paced.grouped) (subst (λ (l : LaneRow). TimeGood v l (group (given_of l))) (sym s.requires.3) (lane-time v (cells s.args.t.now) s.args.k s.requires.2 g)))

-- a lane that is not shared has no train to look at
pub returns-then-not-l : goal.returns-then-not-l
returns-then-not-l c =
    let numbers : RowAgrees c.args.l = says-yes c.numbers_good-agrees.result c.numbers_good-agrees.ensures (ap not c.if-not-agrees.false) in
    let paced : RowPaced c.args.l = says-yes c.pace_good-paced.result c.pace_good-paced.ensures (ap not c.if-not-paced.false) in
    let six = c in
    let five = six in
    let four = five in
    let three = four in
    let one = three in
    let s = one in
    let v = s.args.v.0 in
    let w = cells s.args.t.now in
    let k = s.args.k in
    subst (λ (l : LaneRow). RowAgrees l → RowPaced l → l.count ≤ lane_depth → TimeGood v l l.group → PlacesFit w k l → not l.shared ≡ true → LaneGood v w k) (sym s.requires.3) (lane_plain v w k s.requires.2)
    numbers paced three.if-l-gt-DEPTH.false
    (says-yes five.time_good-timed.result five.time_good-timed.ensures (ap not five.if-not-timed.false))
    (says-yes six.places_good-places.result six.places_good-places.ensures (ap not six.if-not-places.false)) c.if-not-l.true

pub returns : goal.returns
returns c =
    let numbers : RowAgrees c.args.l = says-yes c.numbers_good-agrees.result c.numbers_good-agrees.ensures (ap not c.if-not-agrees.false) in
    let some : 0 < c.args.l.count = omega (arith, c.if-l-eq0.false) in
    let paced : RowPaced c.args.l = says-yes c.pace_good-paced.result c.pace_good-paced.ensures (ap not c.if-not-paced.false) in
    let six = c in
    let five = six in
    let four = five in
    let three = four in
    let one = three in
    let s = one in
    let v = s.args.v.0 in
    let w = cells s.args.t.now in
    let k = s.args.k in
    let b = c.trains_good.result in
    subst (λ (l : LaneRow). RowAgrees l → RowPaced l → l.count ≤ lane_depth → TimeGood v l l.group → PlacesFit w k l → 0 < l.count → not l.shared ≡ false → Says b (TrainsGood w k l) → Says b (LaneGood v w k)) (sym s.requires.3)
    (λ a p r t f h u. lane-shared v w k s.requires.2 a p r t f h u b)
    numbers paced three.if-l-gt-DEPTH.false
    (says-yes five.time_good-timed.result five.time_good-timed.ensures (ap not five.if-not-timed.false))
    (says-yes six.places_good-places.result six.places_good-places.ensures (ap not six.if-not-places.false)) some c.if-not-l.false c.trains_good.ensures
