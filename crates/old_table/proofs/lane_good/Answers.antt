use mathlib.Core.Path.{sym, subst}
use Prim.Native.Nat.{◌≤◌}
use native.Mathlib.Omega.{arith}
use Rattle.rules.specs.Older.{old_depth}
use Rattle.rounds.specs.Good.{Lengths}
use Rattle.table.specs.Layout.{cells}
use Rattle.table.specs.Means.{RowAgrees, RowPaced}
use Rattle.table.specs.declared.LaneRow.{LaneRow}
use Rattle.table.proofs.Agrees.{paced-group}
use Rattle.lane_test.specs.Says.{TimeGood}
use Rattle.lane_test.proofs.Setting.{says-yes, says-no}
use Rattle.old_table.specs.Old.{old_ring}
use Rattle.old_table.proofs.Whole.{lane_made, lane-lengths, lane-time}
use mathlib.Core.Path.{ap}
use mathlib.Core.Bool.{not}
use Rattle.old_table.proofs.lane_good.Goals as goal

pub returns-then-not-agrees : goal.returns-then-not-agrees
returns-then-not-agrees c =
    let s = c in
    λ g. says-no c.numbers_good-agrees.result c.numbers_good-agrees.ensures (ap not c.if-not-agrees.true) (subst RowAgrees (sym s.requires.3) g.fine.agrees)

pub pace_good-paced-requires : goal.pace_good-paced-requires
pace_good-paced-requires c =
    let numbers : RowAgrees c.args.l = says-yes c.numbers_good-agrees.result c.numbers_good-agrees.ensures (ap not c.if-not-agrees.false) in
    (numbers, c.requires.5)

pub returns-then-not-paced : goal.returns-then-not-paced
returns-then-not-paced c =
    let s = c in
    λ g. says-no c.pace_good-paced.result c.pace_good-paced.ensures (ap not c.if-not-paced.true) (subst RowPaced (sym s.requires.3) g.paced)

pub returns-then-l-gt-DEPTH : goal.returns-then-l-gt-DEPTH
returns-then-l-gt-DEPTH c =
    let s = c in
    λ g. let few : s.args.l.count ≤ old_depth = subst (λ (l : LaneRow). l.count ≤ old_depth) (sym s.requires.3) g.room in omega (arith, few, c.if-l-gt-DEPTH.true)

pub time_good-timed-requires : goal.time_good-timed-requires
time_good-timed-requires c =
    let numbers : RowAgrees c.args.l = says-yes c.numbers_good-agrees.result c.numbers_good-agrees.ensures (ap not c.if-not-agrees.false) in
    let paced : RowPaced c.args.l = says-yes c.pace_good-paced.result c.pace_good-paced.ensures (ap not c.if-not-paced.false) in
    let two = c in
    let s = two in
    ((paced-group s.args.l numbers paced).1, s.requires.6, s.requires.7)

pub returns-then-not-timed : goal.returns-then-not-timed
returns-then-not-timed c =
    let s = c in
    let v = s.args.v.0 in
    λ g. says-no c.time_good-timed.result c.time_good-timed.ensures (ap not c.if-not-timed.true) (subst (λ (l : LaneRow). TimeGood v l l.group) (sym s.requires.3) (lane-time v (cells s.args.t.now) s.args.k s.requires.2 g))

pub returns-then-not-lengths : goal.returns-then-not-lengths
returns-then-not-lengths c =
    let s = c in
    let w = cells s.args.t.now in
    let k = s.args.k in
    λ g. says-no c.lengths_good-lengths.result c.lengths_good-lengths.ensures (ap not c.if-not-lengths.true) (subst (λ (l : LaneRow). Lengths l.longest.0 (old_ring w k l.head l.count)) (sym s.requires.3) (lane-lengths s.args.v.0 w k s.requires.2 g))

pub returns : goal.returns
returns c =
    let numbers : RowAgrees c.args.l = says-yes c.numbers_good-agrees.result c.numbers_good-agrees.ensures (ap not c.if-not-agrees.false) in
    let paced : RowPaced c.args.l = says-yes c.pace_good-paced.result c.pace_good-paced.ensures (ap not c.if-not-paced.false) in
    let four = c in
    let three = four in
    let two = three in
    let s = two in
    let v = s.args.v.0 in
    let w = cells s.args.t.now in
    let k = s.args.k in
    let e = s.requires.3 in
    lane_made v w k s.requires.2 (subst RowAgrees e numbers) (subst RowPaced e paced) (subst (λ (l : LaneRow). l.count ≤ old_depth) e three.if-l-gt-DEPTH.false) (subst (λ (l : LaneRow). TimeGood v l l.group) e (says-yes four.time_good-timed.result four.time_good-timed.ensures (ap not four.if-not-timed.false)))
    (subst (λ (l : LaneRow). Lengths l.longest.0 (old_ring w k l.head l.count)) e (says-yes c.lengths_good-lengths.result c.lengths_good-lengths.ensures (ap not c.if-not-lengths.false)))
