-- `line_framing` meets its contract. Assumes nothing.
use Rattle.plan_writer.proofs.Lane.{line-more, line_same, line-all}
use Rattle.plan_writer.proofs.line_framing.Goals as goal
use Rattle.plan_writer.proofs.line_framing.Goals.{then-h-l, else-h-l}

pub loop-l-preserved : goal.loop-l-preserved
loop-l-preserved c =
    let s = c in
    let l = c.loop-l in
    let lt = c.loop-l-test.true in
    elim c.if-h-l.branch [
      | then-h-l w ↦ rw w.h-is (line-more s.args.lanes l.l-index l.h l.invariant lt w.if-h-l.true)
      | else-h-l w ↦ rw w.h-is (line_same s.args.lanes l.l-index l.h l.invariant lt w.if-h-l.false)
    ]

pub returns : goal.returns
returns c = line-all c.args.lanes c.loop-l.l-index c.loop-l.h c.loop-l.invariant c.loop-l-test.false
