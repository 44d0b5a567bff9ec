use Rattle.plan_writer.proofs.Writing.{lay-numbers, lay-room, lay-more, lay-skip, lay-all}
use Rattle.plan_writer.proofs.put_lanes.Goals as goal
use Rattle.plan_writer.proofs.put_lanes.Goals.{then-l-ne0, else-l-ne0}

pub put_fields-p-requires : goal.put_fields-p-requires
put_fields-p-requires c =
    let l = c.loop-k in
    let s = c in
    let lt = c.loop-k-test.true in
    let w = c.if-l-ne0.true in
    let n = lay-numbers s.args.a.now s.args.at s.args.lanes l.a l.p l.k l.invariant lt s.requires.0 w in
    (lay-room s.args.a.now s.args.at s.args.lanes l.a l.p l.k l.invariant lt s.requires.0 s.requires.1 w, lt, n.weight_high, n.longest_high)

pub loop-k-preserved : goal.loop-k-preserved
loop-k-preserved c =
    let l = c.loop-k in
    let s = c in
    let lt = c.loop-k-test.true in
    elim c.if-l-ne0.branch [
      | then-l-ne0 w ↦ rw (w.a-is, w.p-is, w.put_fields-p.ensures.1) (lay-more s.args.a.now s.args.at s.args.lanes l.a l.p l.k l.invariant lt s.requires.0 w.if-l-ne0.true _ w.put_fields-p.auto.a w.put_fields-p.ensures.0)
      | else-l-ne0 w ↦ rw (w.a-is, w.p-is) (lay-skip s.args.a.now s.args.at s.args.lanes l.a l.p l.k l.invariant lt s.requires.0 w.if-l-ne0.false)
    ]

pub returns : goal.returns
returns c =
    let l = c.loop-k in
    let s = c in
    lay-all s.args.a.now s.args.at s.args.lanes l.a l.p l.k l.invariant c.loop-k-test.false
