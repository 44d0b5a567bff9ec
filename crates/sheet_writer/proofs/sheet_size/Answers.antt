-- `sheet_size` meets its contract. Assumes nothing.
use Rattle.plan_writer.proofs.Numbered.{lane-at}
use Rattle.sheet_writer.proofs.Writing.{sizing-first, sizing-done, sized-skip, sized-line}
use Rattle.sheet_writer.proofs.sheet_size.Goals as goal
use Rattle.sheet_writer.proofs.sheet_size.Goals.{then-lane-ne0, else-lane-ne0}

pub loop-k-init : goal.loop-k-init
loop-k-init c = sizing-first _ c.requires

pub loop-k-preserved : goal.loop-k-preserved
loop-k-preserved c =
    let s = c in
    let l = c.loop-k in
    let lt = c.loop-k-test.true in
    let is = lane-at s.args.lanes l.k lt in
    elim c.if-lane-ne0.branch [
      | then-lane-ne0 w ↦
          let x = w.width.ensures in
          let y = w.width-then-lane-ne0.ensures in
          let z = w.width-then-lane-ne0-2.ensures in
          rw w.n-is (sized-line _ s.requires _ _ l.invariant lt _ is w.if-lane-ne0.true _ _ _ x.0 y.0 z.0 x.1 y.1 z.1)
      | else-lane-ne0 w ↦ rw w.n-is (sized-skip _ s.requires _ _ l.invariant lt _ is w.if-lane-ne0.false)
    ]

pub returns : goal.returns
returns c = sizing-done _ c.requires _ _ c.loop-k.invariant c.loop-k-test.false
