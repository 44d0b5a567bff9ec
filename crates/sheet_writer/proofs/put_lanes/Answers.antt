-- `put_lanes` meets its contract. Assumes nothing.
use mathlib.Core.Path.{ap}
use native.Mathlib.Omega.{arith}
use lib.ListN.{length}
use lib.Seq.{length-sets}
use Rattle.plan_writer.proofs.Numbered.{lane-at}
use Rattle.sheet_writer.proofs.Writing.{writing-first, writing-done, skip_read, fits_read, line_read}
use Rattle.sheet_writer.proofs.put_lanes.Goals as goal
use Rattle.sheet_writer.proofs.put_lanes.Goals.{then-lane-ne0, else-lane-ne0}

pub loop-k-init : goal.loop-k-init
loop-k-init c = writing-first _ c.requires.0.size _

pub put_line-at-requires : goal.put_line-at-requires
put_line-at-requires c =
    let s = c in
    let l = c.loop-k in
    let lt = c.loop-k-test.true in
    omega (arith, fits_read _ s.requires.0.size _ _ _ _ l.invariant lt _ (lane-at s.args.lanes l.k lt) c.if-lane-ne0.true, s.requires.1, ap length l.invariant.stored, length-sets s.args.a.now 0 l.invariant.front)

pub loop-k-preserved : goal.loop-k-preserved
loop-k-preserved c =
    let s = c in
    let l = c.loop-k in
    let lt = c.loop-k-test.true in
    let is = lane-at s.args.lanes l.k lt in
    elim c.if-lane-ne0.branch [
      | then-lane-ne0 w ↦ rw (w.a-is, w.at-is, w.put_line-at.ensures.0, w.put_line-at.ensures.1) (line_read _ s.requires.0.size _ _ _ _ l.invariant lt _ is w.if-lane-ne0.true)
      | else-lane-ne0 w ↦ rw (w.a-is, w.at-is) (skip_read _ s.requires.0.size _ _ _ _ l.invariant lt _ is w.if-lane-ne0.false)
    ]

pub returns : goal.returns
returns c = writing-done _ c.requires.0.size _ _ _ _ c.loop-k.invariant c.loop-k-test.false
